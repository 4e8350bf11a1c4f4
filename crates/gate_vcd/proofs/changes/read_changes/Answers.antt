use Rattle.std.proofs.Common.{arith}
use Rattle.std.proofs.lemmas.Result.{err_from_is_err_and}
use Rattle.gate_vcd.specs.Changes.{items, last_time, nothing, events_from}
use Rattle.gate_vcd.specs.Inner.Items.{item_of, taken_in}
use Rattle.gate_vcd.specs.Inner.Known.{knows}
use Rattle.gate_vcd.proofs.ItemLaws.{goes-start, goes-on, goes-wrong, goes-out}
use Rattle.gate_vcd.proofs.changes.read_changes.Goals as goal

pub loop-taken-init : goal.loop-taken-init
loop-taken-init c = goes-start c.args.codes.now c.len.result (taken_in c.in_ok-taken.taken) (items nothing c.args.words.now) (omega (arith, c.len.ensures, c.args.codes.now.used.ok)) c.in_ok-taken.ensures.lists c.in_ok-taken.ensures.given

pub returns-in_err-item : goal.returns-in_err-item
returns-in_err-item c =
    let p = err_from_is_err_and c.from_residual-in_err-item.result c.from_residual-in_err-item.ensures.1 in
    rw (p.1, p.2) (goes-wrong c.args.codes.now c.loop-taken.now (taken_in c.loop-taken.taken) (items nothing c.loop-taken.words) _ (events_from (knows c.args.codes.now) 0 (items nothing c.args.words.now)) (last_time 0 (items nothing c.args.words.now)) c.in_err-item.ensures.items c.loop-taken.invariant)

pub take_item-requires : goal.take_item-requires
take_item-requires c = record { linked = c.requires; held = (c.loop-taken.invariant.0, c.loop-taken.invariant.1) }

pub loop-taken-smaller : goal.loop-taken-smaller
loop-taken-smaller c = rw c.in-Some.is at c.in_ok-item.ensures.progress

pub loop-taken-preserved : goal.loop-taken-preserved
loop-taken-preserved c =
    let next = rw c.in-Some.is at c.in_ok-item.ensures.items in
    goes-on c.args.codes.now c.loop-taken.now c.in_ok-now.now (taken_in c.loop-taken.taken) (taken_in c.take_item.new.taken) (item_of c.in-Some.item) (items nothing c.loop-taken.words) (items nothing c.next_item.new.words)
    (events_from (knows c.args.codes.now) 0 (items nothing c.args.words.now)) (last_time 0 (items nothing c.args.words.now)) next c.loop-taken.invariant (λ es kept. c.in_ok-now.ensures es (items nothing c.next_item.new.words) kept)

pub returns : goal.returns
returns c =
    let over = rw c.in_default.is at c.in_ok-item.ensures.items in
    rw c.in_ok-into_lists.ensures.ok (goes-out c.args.codes.now c.loop-taken.now (taken_in c.loop-taken.taken) (items nothing c.loop-taken.words) (events_from (knows c.args.codes.now) 0 (items nothing c.args.words.now)) (last_time 0 (items nothing c.args.words.now)) over c.loop-taken.invariant)

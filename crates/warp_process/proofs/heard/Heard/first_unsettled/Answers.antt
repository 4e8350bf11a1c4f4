use Rattle.std.proofs.Common.{◌<◌, Some, None, length, refl, arith}
use Rattle.warp_process.specs.Shown.Heard.{heard_by}
use Rattle.warp_process.proofs.Hearing.{seen_rows}
use Rattle.warp_process.proofs.Unsettled.{least_row}
use Rattle.warp_process.proofs.Committing.{none_more, first_found, none_unsettled}
use Rattle.warp_process.proofs.heard.Heard.first_unsettled.Goals as goal

pub loop-slot-init : goal.loop-slot-init
loop-slot-init c k t l h = absurd (omega arith)

pub returns-in-Some-clause-some : goal.returns-in-Some-clause-some
returns-in-Some-clause-some c =
    let v = heard_by c.self.inside in
    let is = c.self.invariant.received in
    let in_nets : c.loop-slot.slot < length c.self.inside.part.nets = omega (arith, c.len-slot-end.ensures.count, c.loop-slot-test.true) in
    rw (← c.self.view_is, c.net.ensures) (first_found v is c.args.end c.loop-slot.slot in_nets c.in-Some.time
    (least_row v c.self.inside.rows is (seen_rows c.self.inside v refl c.self.invariant) c.loop-slot.slot c.args.end in_nets (Some c.in-Some.time) (rw c.in-Some.is at c.next_unsettled.ensures)) c.loop-slot.invariant)

pub loop-slot-preserved : goal.loop-slot-preserved
loop-slot-preserved c =
    let v = heard_by c.self.inside in
    let is = c.self.invariant.received in
    let in_nets : c.loop-slot.slot < length c.self.inside.part.nets = omega (arith, c.len-slot-end.ensures.count, c.loop-slot-test.true) in
    none_more v is c.args.end c.loop-slot.slot in_nets
    (least_row v c.self.inside.rows is (seen_rows c.self.inside v refl c.self.invariant) c.loop-slot.slot c.args.end in_nets None (rw c.in_default.is at c.next_unsettled.ensures)) c.loop-slot.invariant

pub returns-clause-none : goal.returns-clause-none
returns-clause-none c =
    let v = heard_by c.self.inside in
    rw (← c.self.view_is) (none_unsettled v c.args.end c.loop-slot.slot (omega (arith, c.len-slot-end.ensures.count, c.loop-slot-test.false)) c.loop-slot.invariant)

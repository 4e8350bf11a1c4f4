use Rattle.std.proofs.Common.{ℕ, ◌<◌, get_or, take, sym, ◌∙◌, subst, arith}
use Rattle.std.specs.List.{All}
use Rattle.std.proofs.lemmas.List.Elements.{All-get_or}
use Rattle.warp_process.specs.declared.message.Message.{Message}
use Rattle.warp_core.specs.Inner.Turns.{place_in, scene_left, AreTurnsBegun}
use Rattle.warp_core.specs.Inner.Waiting.{IsListed}
use Rattle.warp_core.proofs.Turning.{on_err}
use Rattle.warp_core.proofs.TurnSteps.{longer}
use Rattle.warp_core.proofs.TurnsTaken.{not_begun, turned_none, turned_more, turned_all, listed_after}
use Rattle.warp_core.proofs.turns.take_turns.Goals as goal

pub loop-number-init : goal.loop-number-init
loop-number-init c =
    let size = c.requires.listed.size in
    record {
      stands = c.requires.stands;
      listed = subst (λ (n : ℕ). IsListed c.args.course.now.cut.now.blocks c.args.waiting.now (place_in c.args.heard.now.items) (take n c.args.flight.now.items)) (sym size) c.requires.listed;
      within = omega (arith, size);
      low = λ b. (let e = c.requires.unheard b in omega (arith, e));
      turned = turned_none c.args.order.now (scene_left c.args.course.now c.args.blocks.now.items c.args.flight.now.items c.args.heard.now.items);
      never = λ s h. h;
    }

pub list-requires-clause-listed : goal.list-requires-clause-listed
list-requires-clause-listed c =
    let inv = c.loop-number.invariant in
    rw (c.as_slice.ensures.value, c.as_slice-in-loop-number.ensures.value)
    (subst (λ (n : ℕ). IsListed n c.loop-number.waiting (place_in c.loop-number.heard.items) (take c.loop-number.waiting.listed c.loop-number.flight.items)) (sym inv.stands.count) inv.listed)

pub list-requires-clause-blocks : goal.list-requires-clause-blocks
list-requires-clause-blocks c =
    let inv = c.loop-number.invariant in
    rw (c.as_slice.ensures.value, c.as_slice-in-loop-number.ensures.value)
    (subst (λ (n : ℕ). All (λ (m : Message). m.block < n) c.loop-number.flight.items) (sym inv.stands.count) inv.stands.known)

pub returns-in-Err-clause-begun : goal.returns-in-Err-clause-begun
returns-in-Err-clause-begun c =
    let now = scene_left c.args.course.now c.loop-number.blocks.items c.loop-number.flight.items c.loop-number.heard.items in
    record {
      count = c.loop-number.number-index;
      within = c.loop-number-test.true;
      turned = now;
      turns = c.loop-number.invariant.turned.turns;
      begun = not_begun (get_or c.args.order.now c.loop-number.number-index 0) now
          (All-get_or (λ b. b < c.args.course.now.cut.now.blocks) c.args.order.now c.loop-number.number-index 0 c.loop-number-test.true c.requires.order);
    }

pub take_turn-requires-clause-places : goal.take_turn-requires-clause-places
take_turn-requires-clause-places c = c.places.ensures ∙ (rw (c.as_slice.ensures.value, c.as_slice-in-loop-number.ensures.value) at c.in-Ok.ensures.lists (get_or c.args.order.now c.loop-number.number-index 0))

pub returns-in_err-take_turn-clause-begun : goal.returns-in_err-take_turn-clause-begun
returns-in_err-take_turn-clause-begun c =
    let now = scene_left c.args.course.now c.loop-number.blocks.items c.loop-number.flight.items c.loop-number.heard.items in
    let old = scene_left c.args.course.now c.args.blocks.now.items c.args.flight.now.items c.args.heard.now.items in
    let new = scene_left c.args.course.now c.take_turn.new.blocks.items c.take_turn.new.flight.items c.take_turn.new.heard.items in
    let begun : AreTurnsBegun c.args.order.now old new = record {
      count = c.loop-number.number-index;
      within = c.loop-number-test.true;
      turned = now;
      turns = c.loop-number.invariant.turned.turns;
      begun = c.in_err-take_turn.ensures.begun;
    } in
    on_err _ _ begun

pub returns-in_err-take_turn-clause-never_earlier : goal.returns-in_err-take_turn-clause-never_earlier
returns-in_err-take_turn-clause-never_earlier c = λ s h. c.take_turn.ensures.never_earlier s (c.loop-number.invariant.never s h)

pub loop-number-preserved : goal.loop-number-preserved
loop-number-preserved c =
    let co = c.args.course.now in
    let order = c.args.order.now in
    let i = c.loop-number.number-index in
    let inv = c.loop-number.invariant in
    let turn = c.take_turn.ensures in
    let did = c.in_ok-take_turn.ensures in
    let heard = c.loop-number.heard.items in
    let old = scene_left co c.args.blocks.now.items c.args.flight.now.items c.args.heard.now.items in
    let middle = scene_left co c.loop-number.blocks.items c.loop-number.flight.items heard in
    let new = scene_left co c.take_turn.new.blocks.items c.take_turn.new.flight.items c.take_turn.new.heard.items in
    let within : (k : ℕ) → k < i → get_or order k 0 < co.cut.now.blocks = λ k l. All-get_or (λ b. b < co.cut.now.blocks) order k 0 (omega (arith, l, c.loop-number-test.true)) c.requires.order in
    let listed = subst (λ (n : ℕ). IsListed n c.list.new.self (place_in heard) c.loop-number.flight.items) inv.stands.count (rw (c.as_slice.ensures.value, c.as_slice-in-loop-number.ensures.value) at c.in-Ok.ensures) in
    let size = listed.size in
    let same = c.forget.ensures.size in
    record {
      stands = turn.stands;
      listed = listed_after co.cut.now.blocks c.list.new.self c.forget.new.self (place_in heard) (place_in c.take_turn.new.heard.items) c.loop-number.flight.items c.take_turn.new.flight.items turn.appended.0 (get_or order i 0)
          listed turn.appended.1 c.forget.ensures.count same c.forget.ensures.none c.forget.ensures.others turn.others did.none;
      within = (let more = longer c.loop-number.flight.items c.take_turn.new.flight.items turn.appended.0 turn.appended.1 in omega (arith, same, size, more));
      low = λ b. (let l = did.low b in omega (arith, l, same, size));
      turned = turned_more order i old middle new inv.never did.played did.past (λ t k l h past. turn.kept t (get_or order k 0) (within k l) h past) inv.turned;
      never = λ s h. turn.never_earlier s (inv.never s h);
    }

pub returns-clause-played : goal.returns-clause-played
returns-clause-played c =
    turned_all c.args.order.now c.loop-number.number-index (scene_left c.args.course.now c.args.blocks.now.items c.args.flight.now.items c.args.heard.now.items)
    (scene_left c.args.course.now c.loop-number.blocks.items c.loop-number.flight.items c.loop-number.heard.items)
    (omega (arith, c.loop-number.auto.number-index-end, c.loop-number-test.false)) c.loop-number.invariant.turned

use Rattle.std.proofs.Common.{ℕ, ◌≤◌, List, [], OnOk, OnErr, length, subst}
use Rattle.warp_process.specs.declared.message.Message.{Message}
use Rattle.warp_core.specs.Inner.Turns.{left, place_in, scene_in, AreTurned, AreTurnsBegun}
use Rattle.warp_core.specs.Inner.Waiting.{IsListed}
use Rattle.warp_core.specs.World.{IsBefore}
use Rattle.warp_core.proofs.TurnsTaken.{unheard, unheard_left, opened, none_begun}
use Rattle.warp_core.proofs.turns.play_turns.Goals as goal

pub returns-in-Err-clause-begun : goal.returns-in-Err-clause-begun
returns-in-Err-clause-begun c = none_begun c.args.order.now (scene_in c.args.course.now c.args.blocks.now.items c.args.flight.now.items) c.requires.order (subst (λ (n : ℕ). 1 ≤ n) c.blocks-count.ensures.count c.blocks-count.ensures.some)

pub take_turns-answer-requires-clause-stands : goal.take_turns-answer-requires-clause-stands
take_turns-answer-requires-clause-stands c =
    opened c.args.course.now c.args.blocks.now.items c.args.flight.now.items c.in-Ok.lists.0.items c.blocks-count.result c.blocks-count.ensures.count c.in-Ok.ensures.heard c.requires.law

pub take_turns-answer-requires-clause-listed : goal.take_turns-answer-requires-clause-listed
take_turns-answer-requires-clause-listed c =
    subst (λ (n : ℕ). IsListed n c.in-Ok.lists.1 (place_in c.in-Ok.lists.0.items) []) c.blocks-count.ensures.count (c.in-Ok.ensures.waiting (place_in c.in-Ok.lists.0.items))

pub returns-clause-played : goal.returns-clause-played
returns-clause-played c =
    let co = c.args.course.now in
    let heard = c.in-Ok.lists.0.items in
    let all = unheard_left heard c.args.flight.now.items (unheard heard c.blocks-count.result c.in-Ok.ensures.heard) in
    let remain = left (place_in c.take_turns-answer.new.heard.items) 0 c.take_turns-answer.new.flight.items in
    rw (c.keep_left.ensures, c.as_slice.ensures.value)
    (subst (λ (ms : List Message). OnOk c.take_turns-answer.result (AreTurned c.args.order.now (length c.args.order.now) (scene_in co c.args.blocks.now.items ms) (scene_in co c.take_turns-answer.new.blocks.items remain))) all c.take_turns-answer.ensures.played)

pub returns-clause-begun : goal.returns-clause-begun
returns-clause-begun c =
    let co = c.args.course.now in
    let heard = c.in-Ok.lists.0.items in
    let all = unheard_left heard c.args.flight.now.items (unheard heard c.blocks-count.result c.in-Ok.ensures.heard) in
    let remain = left (place_in c.take_turns-answer.new.heard.items) 0 c.take_turns-answer.new.flight.items in
    rw (c.keep_left.ensures, c.as_slice.ensures.value)
    (subst (λ (ms : List Message). OnErr c.take_turns-answer.result (AreTurnsBegun c.args.order.now (scene_in co c.args.blocks.now.items ms) (scene_in co c.take_turns-answer.new.blocks.items remain))) all c.take_turns-answer.ensures.begun)

pub returns-clause-never_earlier : goal.returns-clause-never_earlier
returns-clause-never_earlier c =
    let co = c.args.course.now in
    let heard = c.in-Ok.lists.0.items in
    let all = unheard_left heard c.args.flight.now.items (unheard heard c.blocks-count.result c.in-Ok.ensures.heard) in
    let remain = left (place_in c.take_turns-answer.new.heard.items) 0 c.take_turns-answer.new.flight.items in
    rw (c.keep_left.ensures, c.as_slice.ensures.value)
    (subst (λ (ms : List Message). (s : ℕ) → IsBefore (scene_in co c.args.blocks.now.items ms) s → IsBefore (scene_in co c.take_turns-answer.new.blocks.items remain) s) all c.take_turns-answer.ensures.never_earlier)

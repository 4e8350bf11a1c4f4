use Rattle.std.proofs.Common.{◌∙◌, ℕ, ◌<◌, Result, Ok, Err, List, ◌++◌, length, inl, ap, subst, arith, append_assoc}
use Rattle.std.specs.Result.{OnOk}
use Rattle.std.proofs.lemmas.List.{drop_all}
use Rattle.warp_process.specs.declared.message.Message.{Message}
use Rattle.warp_core.specs.Drive.{AreReached}
use Rattle.warp_core.specs.Inner.Turns.{scene_left}
use Rattle.warp_core.specs.World.{IsBefore}
use Rattle.warp_core.proofs.Driving.{turn_keeps, turn_passes}
use Rattle.warp_core.proofs.Turning.{turn_is, turn_begun, on_err}
use Rattle.warp_core.proofs.TurnsTaken.{flying_places, heard_received}
use Rattle.warp_core.proofs.turns.take_turn.Goals as goal

-- what is so is so where there is an answer
on_ok : {A E : Type 0} (r : Result A E) (P : Type 0) → P → OnOk r P
on_ok (Ok x) P p = p
on_ok (Err e) P p = tt

pub returns-in_err-hear_all-clause-begun : goal.returns-in_err-hear_all-clause-begun
returns-in_err-hear_all-clause-begun c =
    let begun = c.in_err-hear_all.ensures.begun in
    let all = flying_places c.args.course.now c.args.blocks.now.items c.args.flight.now.items c.args.heard.now.items c.args.number c.args.places.now c.requires.places in
    on_err _ _ (inl (begun.0, subst (λ (k : ℕ). begun.0 < k) all begun.1, begun.2.reached))

pub returns-clause-played : goal.returns-clause-played
returns-clause-played c =
    let old = scene_left c.args.course.now c.args.blocks.now.items c.args.flight.now.items c.args.heard.now.items in
    let heard = scene_left c.args.course.now c.hear_all.new.blocks.items c.hear_all.new.flight.items c.hear_all.new.heard.items in
    let new = scene_left c.args.course.now c.advance.new.blocks.items c.advance.new.flight.items c.hear_all.new.heard.items in
    let all = flying_places c.args.course.now c.args.blocks.now.items c.args.flight.now.items c.args.heard.now.items c.args.number c.args.places.now c.requires.places in
    turn_is c.args.number old heard new (subst (λ (k : ℕ). AreReached c.args.number k old heard) all c.in_ok-hear_all.ensures.heard.reached) (rw c.as_slice.ensures.value at c.advance.ensures.stands).law c.advance.result (rw c.as_slice.ensures.value at c.advance.ensures.played)

pub returns-clause-begun : goal.returns-clause-begun
returns-clause-begun c =
    let old = scene_left c.args.course.now c.args.blocks.now.items c.args.flight.now.items c.args.heard.now.items in
    let heard = scene_left c.args.course.now c.hear_all.new.blocks.items c.hear_all.new.flight.items c.hear_all.new.heard.items in
    let new = scene_left c.args.course.now c.advance.new.blocks.items c.advance.new.flight.items c.hear_all.new.heard.items in
    let all = flying_places c.args.course.now c.args.blocks.now.items c.args.flight.now.items c.args.heard.now.items c.args.number c.args.places.now c.requires.places in
    turn_begun c.args.number old heard new (subst (λ (k : ℕ). AreReached c.args.number k old heard) all c.in_ok-hear_all.ensures.heard.reached) c.requires.within c.advance.result (rw c.as_slice.ensures.value at c.advance.ensures.refused) (rw c.as_slice.ensures.value at c.advance.ensures.after)

pub returns-clause-never_earlier : goal.returns-clause-never_earlier
returns-clause-never_earlier c = λ s h. (rw c.as_slice.ensures.value at c.advance.ensures.never_earlier) s (c.in_ok-hear_all.ensures.heard.never s h)

pub returns-clause-past : goal.returns-clause-past
returns-clause-past c =
    let old = scene_left c.args.course.now c.args.blocks.now.items c.args.flight.now.items c.args.heard.now.items in
    let heard = scene_left c.args.course.now c.hear_all.new.blocks.items c.hear_all.new.flight.items c.hear_all.new.heard.items in
    let new = scene_left c.args.course.now c.advance.new.blocks.items c.advance.new.flight.items c.hear_all.new.heard.items in
    let hearing = c.in_ok-hear_all.ensures.heard in
    turn_passes heard new hearing.stands.law (rw c.as_slice.ensures.value at c.advance.ensures.stands).law c.args.number (λ t. IsBefore old t)
    (λ t h. (
      hearing.never t h,
      heard_received c.args.course.now c.args.blocks.now.items c.args.flight.now.items c.args.heard.now.items c.args.number c.args.places.now
          c.hear_all.new.blocks.items c.hear_all.new.flight.items c.hear_all.new.heard.items hearing t h,
    )) c.advance.result (rw c.as_slice.ensures.value at c.advance.ensures.played)

pub returns-clause-kept : goal.returns-clause-kept
returns-clause-kept c =
    let heard = scene_left c.args.course.now c.hear_all.new.blocks.items c.hear_all.new.flight.items c.hear_all.new.heard.items in
    let new = scene_left c.args.course.now c.advance.new.blocks.items c.advance.new.flight.items c.hear_all.new.heard.items in
    let hearing = c.in_ok-hear_all.ensures.heard in
    λ t b l h past. turn_keeps heard new hearing.stands.law (rw c.as_slice.ensures.value at c.advance.ensures.stands).law c.args.number t b (hearing.never t h) c.advance.result (rw c.as_slice.ensures.value at c.advance.ensures.played) (rw c.as_slice.ensures.value at c.advance.ensures.after) (hearing.kept t b l h past)

pub returns-in_err-hear_all-clause-appended : goal.returns-in_err-hear_all-clause-appended
returns-in_err-hear_all-clause-appended c =
    let begun = c.in_err-hear_all.ensures.begun in
    (begun.2.sent, begun.2.appended)

pub returns-clause-stands : goal.returns-clause-stands
returns-clause-stands c = rw c.as_slice.ensures.value at c.advance.ensures.stands

pub returns-clause-appended : goal.returns-clause-appended
returns-clause-appended c =
    let sent = c.in_ok-hear_all.ensures.heard.sent in
    let more = c.advance.ensures.appended in
    (sent ++ more.0, more.1 ∙ ap (λ (ms : List Message). ms ++ more.0) c.in_ok-hear_all.ensures.heard.appended ∙ append_assoc c.args.flight.now.items sent more.0)

pub returns-clause-others : goal.returns-clause-others
returns-clause-others c = c.in_ok-hear_all.ensures.heard.others

pub returns-clause-low : goal.returns-clause-low
returns-clause-low c = on_ok c.advance.result _ c.in_ok-hear_all.ensures.heard.low

pub returns-clause-none : goal.returns-clause-none
returns-clause-none c = on_ok c.advance.result _ (c.in_ok-hear_all.ensures.heard.rest ∙ drop_all (length c.args.places.now) c.args.places.now (omega arith))

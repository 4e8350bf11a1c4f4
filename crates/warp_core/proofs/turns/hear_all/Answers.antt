use Rattle.std.proofs.Common.{ℕ, ◌<◌, List, length, sym, subst}
use Rattle.warp_process.specs.declared.message.Message.{Message}
use Rattle.warp_process.specs.View.{Process}
use Rattle.warp_core.specs.Inner.Turns.{IsHearing}
use Rattle.warp_core.proofs.Turning.{on_err}
use Rattle.warp_core.proofs.TurnsTaken.{hearing_none, hearing_first, hearing_more}
use Rattle.warp_core.proofs.turns.hear_all.Goals as goal

pub loop-place-init : goal.loop-place-init
loop-place-init c = hearing_none c.args.course.now c.args.blocks.now.items c.args.flight.now.items c.args.heard.now.items c.args.number c.args.places.now c.requires.stands c.requires.places

pub hear-requires-clause-first : goal.hear-requires-clause-first
hear-requires-clause-first c =
    hearing_first c.args.course.now c.args.blocks.now.items c.args.flight.now.items c.args.heard.now.items c.args.number c.args.places.now c.loop-place.place-index
    c.loop-place.blocks.items c.loop-place.flight.items c.loop-place.heard.items c.loop-place.invariant c.loop-place-test.true

pub returns-in_err-hear-clause-begun : goal.returns-in_err-hear-clause-begun
returns-in_err-hear-clause-begun c =
    let co = c.args.course.now in
    let bs = c.args.blocks.now.items in
    let fl = c.args.flight.now.items in
    let hs = c.args.heard.now.items in
    let at : List Process → List Message → List ℕ → Type 0 = λ b f h. IsHearing co bs fl hs c.args.number c.args.places.now c.loop-place.place-index b f h in
    let begun : (count : ℕ) × (count < length c.args.places.now) × IsHearing co bs fl hs c.args.number c.args.places.now count c.hear.new.blocks.items c.hear.new.flight.items c.hear.new.heard.items = (
      c.loop-place.place-index,
      c.loop-place-test.true,
      subst (λ (b : List Process). at b c.hear.new.flight.items c.hear.new.heard.items) (sym c.in_err-hear.ensures.blocks)
          (subst (λ (f : List Message). at c.loop-place.blocks.items f c.hear.new.heard.items) (sym c.in_err-hear.ensures.unsent)
          (subst (λ (h : List ℕ). at c.loop-place.blocks.items c.loop-place.flight.items h) (sym c.in_err-hear.ensures.unheard) c.loop-place.invariant)),
    ) in
    on_err _ _ begun

pub loop-place-preserved : goal.loop-place-preserved
loop-place-preserved c =
    let given = c.in_ok-hear.ensures in
    hearing_more c.args.course.now c.args.blocks.now.items c.args.flight.now.items c.args.heard.now.items c.args.number c.args.places.now c.loop-place.place-index
    c.loop-place.blocks.items c.loop-place.flight.items c.loop-place.heard.items c.loop-place.invariant c.loop-place-test.true c.requires.within
    c.hear.new.blocks.items c.hear.new.flight.items c.hear.new.heard.items given.stands given.reached given.never_earlier given.sent given.heard

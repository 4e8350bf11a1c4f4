use Rattle.std.proofs.Common.{◌<◌, length, ◌∙◌, arith}
use Rattle.std.proofs.lemmas.Bool.{le-leb, lt-leb}
use Rattle.warp_process.specs.declared.message.Message.{Message}
use Rattle.warp_core.specs.Inner.Turns.{place_in}
use Rattle.warp_core.proofs.Keeping.{kept_none, kept_more, kept_past, kept_all, of_old}
use Rattle.warp_core.proofs.turns.left.keep_left.Goals as goal
use Rattle.warp_core.proofs.turns.left.keep_left.Goals.{then-heard-message, else-heard-message}

pub loop-place-init : goal.loop-place-init
loop-place-init c = kept_none (place_in c.args.heard.now) c.args.flight.now.items

pub bounds-heard-message : goal.bounds-heard-message
bounds-heard-message c = of_old (λ (m : Message). m.block < length c.args.heard.now) (place_in c.args.heard.now) c.args.flight.now.items c.loop-place.flight.items c.loop-place.kept c.loop-place.place c.index-message.result.now
    (let size = c.loop-place.invariant.size in omega (arith, size, c.loop-place-test.true, c.len-place-end.ensures, c.args.flight.now.ok.0)) c.index-message.ensures c.loop-place.invariant c.requires

pub loop-place-preserved : goal.loop-place-preserved
loop-place-preserved c =
    let heard = place_in c.args.heard.now in
    let old = c.args.flight.now.items in
    let flight = c.loop-place.flight.items in
    let m = c.index-message.result.now in
    let within : c.loop-place.place < length flight = (let size = c.loop-place.invariant.size in omega (arith, size, c.loop-place-test.true, c.len-place-end.ensures, c.args.flight.now.ok.0)) in
    elim c.if-heard-message.branch [
      | then-heard-message w ↦ rw (w.flight-is, w.kept-is) (kept_more heard old flight c.loop-place.kept c.loop-place.place m within c.index-message.ensures (le-leb (heard m.block) c.loop-place.place w.if-heard-message.true) c.loop-place.invariant)
      | else-heard-message w ↦ rw (w.flight-is, w.kept-is) (kept_past heard old flight c.loop-place.kept c.loop-place.place m within c.index-message.ensures (lt-leb (heard m.block) c.loop-place.place w.if-heard-message.false) c.loop-place.invariant)
    ]

pub returns : goal.returns
returns c = c.truncate.ensures.items ∙ kept_all (place_in c.args.heard.now) c.args.flight.now.items c.loop-place.flight.items c.loop-place.kept c.loop-place.place (omega (arith, c.loop-place-test.false, c.len-place-end.ensures, c.args.flight.now.ok.0)) c.loop-place.invariant

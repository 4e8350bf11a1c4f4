use Rattle.std.proofs.Common.{◌+◌, take, get_or, refl, sym, subst}
use Rattle.warp_core.specs.Inner.Kept.{IsLeastOf}
use Rattle.warp_core.proofs.NextTimes.{least_more}
use Rattle.warp_core.proofs.flight.least_of.Goals as goal

pub loop-time-preserved : goal.loop-time-preserved
loop-time-preserved c =
    let x = get_or c.args.times.now c.loop-time.time-index 0 in
    subst (IsLeastOf (take (c.loop-time.time-index + 1) c.args.times.now) c.args.other) (sym c.lesser-least.ensures)
    (least_more c.args.times.now c.loop-time.time-index c.args.other c.loop-time.least x c.loop-time-test.true refl c.loop-time.invariant)

use Rattle.std.proofs.Common.{◌≡◌, ◌-◌, ◌++◌, length}
use Rattle.warp_stores.specs.Dated.{later}
use Rattle.warp_stores.specs.Inner.Stops.{IsSpan}
use Rattle.warp_stores.specs.Shown.Stops.{end_of, told}
use Rattle.warp_stores.proofs.place.tell.Given as goal

abbrev pub invariant-loop-place : goal.invariant-loop-place
invariant-loop-place g l =
    IsSpan l.stops l.fn.from l.place × IsSpan l.stops l.place (end_of l.stops l.words) × (l.batch ≡ l.initial.batch ++ later l.delay l.last (told l.stops l.words l.fn.from l.place))

abbrev pub decreases-loop-place : goal.decreases-loop-place
decreases-loop-place g l = length l.stops - l.place.stops

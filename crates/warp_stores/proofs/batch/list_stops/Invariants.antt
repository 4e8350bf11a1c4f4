use Rattle.std.proofs.Common.{◌≡◌, take}
use Rattle.warp_stores.specs.Inner.Stops.{total}
use Rattle.warp_stores.specs.Shown.Stops.{dated}
use Rattle.warp_stores.proofs.batch.list_stops.Given as goal

abbrev pub invariant-loop-stop : goal.invariant-loop-stop
invariant-loop-stop g l = (total (take l.stop-index l.stops) ≡ l.listed) × (l.list.items ≡ dated (take l.stop-index l.stops) (take l.listed l.words))

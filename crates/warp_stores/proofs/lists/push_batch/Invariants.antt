use Rattle.std.proofs.Common.{◌≡◌, take}
use Rattle.warp_stores.specs.Lists.{AreLonger}
use Rattle.warp_stores.specs.Shown.Lists.{lists_of}
use Rattle.warp_stores.specs.Inner.Stops.{total}
use Rattle.warp_stores.specs.Shown.Stops.{dated}
use Rattle.warp_stores.proofs.lists.push_batch.Given as goal

abbrev pub invariant-loop-stop : goal.invariant-loop-stop
invariant-loop-stop l =
    (total (take l.stop-index l.stops) ≡ l.pushed) × AreLonger (dated (take l.stop-index l.stops) (take l.pushed l.words)) (lists_of l.initial.lists.items) (lists_of l.lists.items)

use Rattle.std.proofs.Common.{take}
use Rattle.warp_core.specs.Inner.Kept.{AreNextTimes}
use Rattle.warp_core.proofs.world.opening.next_times.Given as goal

abbrev pub invariant-loop-block : goal.invariant-loop-block
invariant-loop-block l = AreNextTimes (take l.block-index l.blocks) l.end l.next.items

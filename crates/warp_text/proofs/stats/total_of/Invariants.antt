use Rattle.std.proofs.Common.{◌≡◌, take}
use Rattle.warp_text.specs.StatLines.{total_of}
use Rattle.warp_text.proofs.stats.total_of.Given as goal

abbrev pub invariant-loop-block : goal.invariant-loop-block
invariant-loop-block l = l.total ≡ total_of (take l.block-index l.blocks)

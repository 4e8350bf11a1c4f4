use Rattle.std.proofs.Common.{◌≡◌, take, map}
use Rattle.warp_text.proofs.stats.blocks_of.Given as goal

abbrev pub invariant-loop-one : goal.invariant-loop-one
invariant-loop-one l = map (λ block. block.counts) l.blocks.items ≡ take l.one-index l.counts

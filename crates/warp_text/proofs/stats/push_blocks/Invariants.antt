use Rattle.std.proofs.Common.{◌≡◌, ◌++◌, take, flat_map}
use Rattle.warp_text.specs.StatLines.{block_lines}
use Rattle.warp_text.proofs.stats.push_blocks.Given as goal

abbrev pub invariant-loop-block : goal.invariant-loop-block
invariant-loop-block l = l.text.items ≡ l.initial.text.items ++ flat_map block_lines (take l.block-index l.blocks)

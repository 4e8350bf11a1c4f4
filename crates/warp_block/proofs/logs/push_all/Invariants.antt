use Rattle.std.proofs.Common.{◌≡◌, ◌++◌, take}
use Rattle.std.specs.List.{filter}
use Rattle.warp_stores.specs.Words.{Move}
use Rattle.warp_stores.specs.Dated.{Dated}
use Rattle.warp_block.specs.Reads.{is_read}
use Rattle.warp_block.proofs.logs.push_all.Given as goal

abbrev pub invariant-loop-time : goal.invariant-loop-time
invariant-loop-time l = l.read ≡ l.fn.read ++ filter (λ (d : Dated Move). is_read l.part d.1.place) (take l.time-index l.words)

use Rattle.warp_process.specs.View.{IsLeast}
use Rattle.warp_process.proofs.Next.{HasNews}
use Rattle.warp_block.proofs.look.Look.next_from.Given as goal

abbrev pub invariant-loop-slot : goal.invariant-loop-slot
invariant-loop-slot l = IsLeast (HasNews l.self l.from l.slot) l.next

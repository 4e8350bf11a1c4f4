use Rattle.std.proofs.Common.{◌≡◌, min, take, length}
use Rattle.warp_gates.specs.Inner.Told.{all_edges}
use Rattle.warp_gates.proofs.clocked.Clocked.room_for.Given as goal

abbrev pub invariant-loop-word : goal.invariant-loop-word
invariant-loop-word l = l.room ≡ min (length (all_edges l.self (take l.word-index l.words))) 18446744073709551615

use Rattle.std.proofs.Common.{map}
use Rattle.gate_values.specs.Behaviour.{initial_of}
use Rattle.part_engine.proofs.FirstMoves.{AreFirstBelow}
use Rattle.part_engine.proofs.moves.first_words.Given as goal

abbrev pub invariant-loop-slot : goal.invariant-loop-slot
invariant-loop-slot l = AreFirstBelow l.slot (map initial_of l.part.sources) l.words.items

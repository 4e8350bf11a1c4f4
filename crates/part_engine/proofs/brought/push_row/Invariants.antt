use Rattle.std.proofs.Common.{◌≡◌, ◌++◌, take}
use Rattle.std.specs.List.{flat_map}
use Rattle.part_engine.specs.Inner.Bringing.{standing_move}
use Rattle.part_engine.proofs.brought.push_row.Given as goal

abbrev pub invariant-loop-placed : goal.invariant-loop-placed
invariant-loop-placed l = l.words.items ≡ l.fn.words.items ++ flat_map (standing_move l.engine.book.gates.values) (take l.placed-index l.row)

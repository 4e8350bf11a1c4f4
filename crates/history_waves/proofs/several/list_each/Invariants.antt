use Rattle.std.proofs.Common.{◌≤◌, length}
use Rattle.history_waves.specs.Inner.Pending.{AreTaken}
use Rattle.history_waves.proofs.several.list_each.Given as goal

-- what the untold so far tell no more is listed
abbrev pub invariant-loop : goal.invariant-loop
invariant-loop l = (l.next ≤ length l.given) × AreTaken l.given l.from l.next l.time l.fn.untold l.untold l.fn.moves.items l.moves.items

use Rattle.std.proofs.Common.{◌≡◌, drop}
use Rattle.std.specs.List.{find}
use Rattle.finding_words.specs.Names.{texts, is_near}
use Rattle.finding_words.proofs.near.first_near.Given as goal

-- no name so far is near
abbrev pub invariant-loop-other : goal.invariant-loop-other
invariant-loop-other l = find (is_near l.near l.name) (texts l.known) ≡ find (is_near l.near l.name) (texts (drop l.other-index l.known))

use Rattle.std.proofs.Common.{◌≡◌, drop}
use Rattle.finding_words.specs.Names.{texts, path_to}
use Rattle.finding_words.proofs.near.path_to.Given as goal

-- no path so far leads to the name
abbrev pub invariant-loop-path : goal.invariant-loop-path
invariant-loop-path l = path_to (texts l.paths) l.name ≡ path_to (texts (drop l.path-index l.paths)) l.name

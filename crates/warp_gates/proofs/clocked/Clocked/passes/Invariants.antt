use Rattle.std.proofs.Common.{◌≡◌, [], true, take, get_or}
use Rattle.std.specs.List.{All}
use Rattle.warp_gates.proofs.clocked.Clocked.passes.Given as goal

-- no word so far is of a place that clocks any, if none was found to be
abbrev pub invariant-loop-word : goal.invariant-loop-word
invariant-loop-word l = l.passes ≡ true → All (λ word. get_or l.self word.place [] ≡ []) (take l.word-index l.words)

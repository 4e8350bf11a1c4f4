use Rattle.std.proofs.Common.{◌≡◌, ◌++◌, take, map}
use Rattle.net_waves.specs.Packed.{told}
use Rattle.net_waves.proofs.packed.add_told.Given as goal

-- what the words so far tell
abbrev pub invariant-loop-word : goal.invariant-loop-word
invariant-loop-word l = l.stops.items ≡ l.initial.stops.items ++ map (told l.time) (take l.word-index l.words)

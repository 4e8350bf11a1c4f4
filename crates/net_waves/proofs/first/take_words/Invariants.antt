use Rattle.std.proofs.Common.{◌≡◌, ◌<◌, ℕ, map, take, length, get_or}
use Rattle.gate_values.specs.declared.logic.Logic.TheVariants.{X}
use Rattle.net_waves.specs.Packed.{told}
use Rattle.net_waves.specs.First.{first_from}
use Rattle.net_waves.proofs.first.take_words.Given as goal

-- the values by the words so far
abbrev pub invariant-loop-word : goal.invariant-loop-word
invariant-loop-word l = (length l.values ≡ length l.initial.values) × ((n : ℕ) → n < length l.initial.values → get_or l.values n X ≡ first_from (get_or l.initial.values n X) (map (told 0) (take l.word-index l.words)) n)

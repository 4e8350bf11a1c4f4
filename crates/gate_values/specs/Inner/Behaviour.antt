-- What only proofs need beside `Behaviour`.
use Rattle.std.specs.Prelude.{ℕ, ◌<◌, suc}
use Rattle.std.specs.List.{AllByRecursion}
use Rattle.gate_values.specs.Behaviour.{Source, Outside, Gate, Flop, before}
use Rattle.gate_values.specs.declared.logic.Logic.{Logic}

-- it is set by a gate or a flip-flop, which takes at least one moment and reads nets of N alone
abbrev pub IsOver : (ℕ → Type 0) → Source → Type 0
IsOver N Outside = ⊥
IsOver N (Gate kind delay inputs) = (0 < delay) × AllByRecursion N inputs
IsOver N (Flop delay data_net clock initial) = (0 < delay) × N data_net × N clock

-- the content of flip-flop n at time t
abbrev pub content : (ℕ → Source) → (ℕ → ℕ → Logic) → ℕ → ℕ → Logic
content source given n t = (before source given (suc t)).content n

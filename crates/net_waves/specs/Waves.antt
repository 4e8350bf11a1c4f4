-- Waves: for each net the list of its changes.
use Rattle.std.specs.Prelude.{◌≢◌, ℕ, ◌+◌, ◌≤◌, List, [], ◌∷◌, get_or, map, Vec}
use Rattle.std.specs.declared.alloc.Global.{Global}
use Rattle.gate_values.specs.declared.logic.Logic.{Logic}
use Rattle.gate_values.specs.declared.logic.Logic.TheVariants.{X}
use Rattle.gate_values.specs.declared.logic.Change.{Change}
use Rattle.gate_values.specs.Changes.{latest, last_value}

-- what these vectors hold
abbrev pub lists_in : List (Vec Change Global) → List (List Change)
lists_in vs = map (λ (v : Vec Change Global). v.items) vs

-- the changes of a net; none where there is no such net
abbrev pub wave_of : List (List Change) → ℕ → List Change
wave_of lists n = get_or lists n []

-- the value of a net at a time
abbrev pub wave_value : List (List Change) → ℕ → ℕ → Logic
wave_value lists n t = latest X (wave_of lists n) t

-- the first time after a list of changes
abbrev pub end_time : ℕ → List Change → ℕ
end_time from [] = from
end_time from (c ∷ cs) = end_time (c.time + 1) cs

-- A change follows a wave: it is later than the last one, and of another value; at first, of another than x.
abbrev pub Follows : List Change → Change → Type 0
Follows cs c = (end_time 0 cs ≤ c.time) × (c.value ≢ last_value X cs)

-- times rise from a first one on, and each value is other than the one before
abbrev pub IsWaveFrom : ℕ → Logic → List Change → Type 0
IsWaveFrom from before [] = Unit {0}
IsWaveFrom from before (c ∷ cs) = (from ≤ c.time) × (c.value ≢ before) × IsWaveFrom (c.time + 1) c.value cs

-- before time 0 a net is x
abbrev pub IsWave : List Change → Type 0
IsWave cs = IsWaveFrom 0 X cs

-- no change is later than the horizon
abbrev pub IsUntil : ℕ → List Change → Type 0
IsUntil horizon cs = end_time 0 cs ≤ horizon + 1

-- A function of time as the list of its changes.
use Rattle.std.specs.Prelude.{ℕ, zero, suc, Bool, true, false, if◌then◌else◌, nat_le, nat_lt, nat_eq, Option, Some, None, unwrap_or, filter, List, [], ◌∷◌, ◌++◌}
use Rattle.gate_values.specs.declared.logic.Logic.{Logic}
use Rattle.gate_values.specs.declared.logic.Logic.TheVariants.{Zero, One, X, Z}
use Rattle.gate_values.specs.declared.logic.Change.{Change}

abbrev pub same : Logic → Logic → Bool
same Zero Zero = true
same One One = true
same X X = true
same Z Z = true
same _ _ = false

-- what it was just before a time: x before time 0
abbrev pub just_before : (ℕ → Logic) → ℕ → Logic
just_before f zero = X
just_before f (suc t) = f t

-- the change at a time, if there is one
abbrev pub change_at : (ℕ → Logic) → ℕ → List Change
change_at f t = if same (f t) (just_before f t) then [] else record { time = t; value = f t } ∷ []

-- the changes at times below an end
unfoldable pub changes : (ℕ → Logic) → ℕ → List Change
changes f zero = []
changes f (suc t) = changes f t ++ change_at f t

-- The value at a time that a list of changes leaves: that of the last one in the list that isn't later.
unfoldable pub latest : Logic → List Change → ℕ → Logic
latest before [] t = before
latest before (c ∷ cs) t = latest (if nat_le c.time t then c.value else before) cs t

-- the value in the list at a time, if there is one
abbrev pub pair_at : List Change → ℕ → Option Logic
pair_at [] t = None
pair_at (c ∷ cs) t = if nat_eq c.time t then Some c.value else pair_at cs t

-- Where some times have a value and others have none: the value of the latest time that isn't later, x if there is none.
unfoldable pub held : (ℕ → Option Logic) → ℕ → Logic
held at zero = unwrap_or (at zero) X
held at (suc t) = unwrap_or (at (suc t)) (held at t)

-- the changes before a time
abbrev pub before_time : ℕ → List Change → List Change
before_time end cs = filter (λ c. nat_lt c.time end) cs

-- the value that a list of changes leaves in the end
abbrev pub last_value : Logic → List Change → Logic
last_value v [] = v
last_value v (c ∷ cs) = last_value c.value cs

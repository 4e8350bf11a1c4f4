-- What rows tell of a place, as changes.
use Rattle.std.specs.Prelude.{◌≡◌, ℕ, ◌<◌, ◌++◌, Option, Some, None, List, [], ◌∷◌}
use Rattle.std.specs.List.{AllPairs}
use Rattle.gate_values.specs.declared.logic.Logic.{Logic}
use Rattle.gate_values.specs.declared.logic.Change.{Change}
use Rattle.gate_values.specs.Changes.{pair_at}
use Rattle.warp_process.specs.declared.by_time.Rows.{Rows}
use Rattle.warp_process.specs.Entries.{effective_of}
use Rattle.warp_process.specs.Inner.Rows.{entry_at}

-- some changes, and one to the value behind them, if there is one
abbrev pub with_message : ℕ → Option Logic → List Change → List Change
with_message t None cs = cs
with_message t (Some v) cs = cs ++ record { time = t; value = v } ∷ []

-- the changes, in order of time, are what a place takes at each time
abbrev pub AreTold : Rows → ℕ → List Change → Type 0
AreTold rows i cs = AllPairs (λ a b. a.time < b.time) cs × ((t : ℕ) → effective_of (entry_at rows t i) ≡ pair_at cs t)

-- Between which places those stand that clock flip-flops.
use Rattle.std.specs.Prelude.{◌≡◌, ℕ, ◌<◌, ◌≤◌, List, [], get_or}

-- no place below these two, or from the second on, clocks any
pub record AreBetween (from to : ℕ) (rows : List (List ℕ)) : Type 0 where
  pub below : (place : ℕ) → place < from → get_or rows place [] ≡ []
  pub above : (place : ℕ) → to ≤ place → get_or rows place [] ≡ []

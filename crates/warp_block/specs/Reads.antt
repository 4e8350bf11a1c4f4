-- The logs of nets that other blocks read.
use Rattle.std.specs.Prelude.{◌≡◌, ◌==◌, ℕ, Bool, true, not, List, [], length, get_or}
use Rattle.gate_values.specs.declared.logic.Change.{Change}
use Rattle.warp_part.specs.Portion.{Portion}

-- another block reads the net at a place
abbrev pub is_read : Portion → ℕ → Bool
is_read p place = not (length (get_or p.readers place []) == 0)

-- of each net that another block reads, one of some lists is its log
pub record HaveRead (p : Portion) (logs lists : List (List Change)) : Type 0 where
  pub many : length lists ≡ length p.nets
  pub each : (place : ℕ) → is_read p place ≡ true → get_or lists place [] ≡ get_or logs place []

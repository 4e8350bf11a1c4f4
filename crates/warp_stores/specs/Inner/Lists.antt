-- Vectors as lists, and lists on the way.
use Rattle.std.specs.Prelude.{◌≡◌, ℕ, List, take}
use Rattle.gate_values.specs.declared.logic.Change.{Change}
use Rattle.warp_stores.specs.Words.{Move}
use Rattle.warp_stores.specs.Dated.{Dated, undated}
use Rattle.warp_stores.specs.Lists.{AreLonger}

-- so many of some words are put, at times
pub record ArePut (count : ℕ) (words : List Move) (old new : List (List Change)) : Type 0 where
  pub put : List (Dated Move)
  pub are : undated put ≡ take count words
  pub longer : AreLonger put old new

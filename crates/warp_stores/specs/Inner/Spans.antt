-- Words parted by spans of their places, and lists that are cut back.
use Rattle.std.specs.Prelude.{◌≡◌, ℕ, ◌<◌, ◌≤◌, ◌&&◌, ◌++◌, nat_le, nat_lt, List, [], length, take, get_or}
use Rattle.std.specs.List.{filter}
use Rattle.gate_values.specs.declared.logic.Change.{Change}
use Rattle.warp_stores.specs.Words.{Move}
use Rattle.warp_stores.specs.Dated.{Dated}

-- the words of the places from one up to another
abbrev pub words_within : ℕ → ℕ → List (Dated Move) → List (Dated Move)
words_within from to words = filter (λ d. nat_le from d.1.place && nat_lt d.1.place to) words

-- behind each list something may stand
pub record AreGrown (old new : List (List Change)) : Type 0 where
  pub same : length new ≡ length old
  pub more : ℕ → List Change
  pub each : (place : ℕ) → place < length old → get_or new place [] ≡ get_or old place [] ++ more place

-- each of the first few lists is cut to a length
pub record AreCut (count : ℕ) (lens : List ℕ) (old new : List (List Change)) : Type 0 where
  pub same : length new ≡ length old
  pub cut : (place : ℕ) → place < count → get_or new place [] ≡ take (get_or lens place 0) (get_or old place [])
  pub rest : (place : ℕ) → count ≤ place → get_or new place [] ≡ get_or old place []

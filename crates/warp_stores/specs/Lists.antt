-- Lists of changes, one for each place.
use Rattle.std.specs.Prelude.{◌≡◌, ℕ, ◌-◌, ◌<◌, ◌==◌, List, [], ◌++◌, length, take, map, get_or}
use Rattle.std.specs.List.{filter}
use Rattle.gate_values.specs.declared.logic.Change.{Change}
use Rattle.warp_stores.specs.Words.{Move}
use Rattle.warp_stores.specs.Dated.{Dated}

-- the words of a place
abbrev pub words_at : ℕ → List Move → List Move
words_at place words = filter (λ w. w.place == place) words

-- what words that came at times say of a place
abbrev pub changes_at : ℕ → List (Dated Move) → List Change
changes_at place words = map (λ d. record { time = d.0; value = d.1.after }) (filter (λ d. d.1.place == place) words)

-- behind each list stands what words that came at times say of its place, each once and in order
pub record AreLonger (words : List (Dated Move)) (old new : List (List Change)) : Type 0 where
  pub same : length new ≡ length old
  pub each : (place : ℕ) → place < length old → get_or new place [] ≡ get_or old place [] ++ changes_at place words

-- each list is shorter by as many changes as there are words of its place
pub record AreShorter (words : List Move) (old new : List (List Change)) : Type 0 where
  pub same : length new ≡ length old
  pub each : (place : ℕ) → place < length old → get_or new place [] ≡ take (length (get_or old place []) - length (words_at place words)) (get_or old place [])

-- How the logs of nets that other blocks read get longer.
use Rattle.std.specs.Prelude.{◌≡◌, ℕ, true, List, [], ◌++◌, length, get_or}
use Rattle.gate_values.specs.declared.logic.Change.{Change}
use Rattle.warp_stores.specs.Words.{Move}
use Rattle.warp_stores.specs.Dated.{Dated}
use Rattle.warp_stores.specs.Lists.{changes_at}
use Rattle.warp_part.specs.Portion.{Portion}
use Rattle.warp_block.specs.Reads.{is_read}

-- behind the list of each such net stands what words say of its place
pub record AreReadLonger (p : Portion) (words : List (Dated Move)) (old new : List (List Change)) : Type 0 where
  pub same : length new ≡ length old
  pub each : (place : ℕ) → is_read p place ≡ true → get_or new place [] ≡ get_or old place [] ++ changes_at place words

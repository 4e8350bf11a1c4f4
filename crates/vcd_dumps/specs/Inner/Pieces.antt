-- A text that is made in pieces.
use Rattle.std.specs.Prelude.{◌≡◌, ℕ, ◌+◌, ◌-◌, ◌<◌, ◌≤◌, List, [], ◌++◌, length, get_or, slice_index_or, take, Result, Vec, IfOk}
use Rattle.net_waves.specs.Keys.{stops_of_keys}
use Rattle.net_waves.specs.Packed.{Packed, told_below}
use Rattle.vcd_dumps.specs.Walk.{walked}

-- the places at which a row is cut, from its beginning to its end: they never fall
pub record AreCuts (cuts : List ℕ) (end : ℕ) : Type 0 where
  pub some : 1 ≤ length cuts
  pub first : get_or cuts 0 0 ≡ 0
  pub last : get_or cuts (length cuts - 1) 0 ≡ end
  pub rising : (k : ℕ) → k + 1 < length cuts → get_or cuts k 0 ≤ get_or cuts (k + 1) 0
  pub within : (k : ℕ) → k < length cuts → get_or cuts k 0 ≤ end

-- what is written of the times up to a cut
abbrev pub times_text : Packed → List ℕ → ℕ → List ℕ
times_text p cuts k = walked 0 (told_below p (get_or cuts k 0))

-- what is written of the keys up to a cut
abbrev pub keys_text : List ℕ → List ℕ → ℕ → List ℕ
keys_text keys cuts k = walked 0 (stops_of_keys (take (get_or cuts k 0) keys))

-- each piece goes on from what those before it are together
pub record ArePieces {A E : Type 0} (so_far : ℕ → List ℕ) (pieces : List (Result (Vec ℕ A) E)) : Type 0 where
  pub none : so_far 0 ≡ []
  pub each : (k : ℕ) (d : Result (Vec ℕ A) E) → k < length pieces → IfOk (slice_index_or pieces k d) (λ piece. so_far k ++ piece.items ≡ so_far (k + 1))

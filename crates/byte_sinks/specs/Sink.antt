-- What a sink has taken, and what a run of writes leaves.
use Rattle.std.specs.Prelude.{◌≡◌, ℕ, ◌+◌, ◌<◌, ◌≤◌, ◌^◌, ◌==◌, Bool, true, false, ◌&&◌, ◌||◌, not, List, ◌++◌, length, take, Option, Some, None, unwrap_or}

-- the bytes that a sink has taken, and whether a `put` has failed
pub record Held : Type 0 where
  pub bytes : List ℕ
  pub failed : Bool

-- an answer of `put` that is a failure: None, or no byte of a list that isn't empty
abbrev pub is_failure : Option ℕ → List ℕ → Bool
is_failure None bytes = true
is_failure (Some n) bytes = (n == 0) && not (length bytes == 0)

-- what a `put` of bytes with this answer leaves
abbrev pub after_put : Held → List ℕ → Option ℕ → Held
after_put held bytes answer = record { bytes = held.bytes ++ take (unwrap_or answer 0) bytes; failed = held.failed || is_failure answer bytes }

-- The text went into the sink: all of it, where the sink hasn't failed afterwards; else a first part of it.
-- A sink that had failed takes nothing more. The count of bytes goes from `from` to `to`.
pub record Writes (old new : Held) (from : ℕ) (text : List ℕ) (to : ℕ) : Type 0 where
  pub skipped : old.failed ≡ true → (new ≡ old) × (to ≡ from)
  pub whole : new.failed ≡ false → (old.failed ≡ false) × (new.bytes ≡ old.bytes ++ text) × (from + length text < 2 ^ 128 → to ≡ from + length text)
  pub part : old.failed ≡ false → new.failed ≡ true → (k : ℕ) × (k ≤ length text) × (new.bytes ≡ old.bytes ++ take k text) × (from + length text < 2 ^ 128 → to ≡ from + k)

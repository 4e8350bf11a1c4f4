-- What only proofs need beside `Advance`.
use Rattle.std.specs.Prelude.{ℕ, ◌<◌, ◌≤◌, IsTrue}
use Rattle.warp_process.specs.View.{View, is_busy}

-- nothing happens from the mark on and below a time
abbrev pub IsQuiet : View → ℕ → Type 0
IsQuiet v until = (t : ℕ) → v.mark ≤ t → t < until → ¬ IsTrue (is_busy v t)

-- something happens at a time from a first one on, up to the horizon
abbrev pub IsBusyFrom : View → ℕ → ℕ → Type 0
IsBusyFrom v start t = (start ≤ t) × (t ≤ v.horizon) × IsTrue (is_busy v t)

-- nothing happens from a time on and below the mark
abbrev pub IsCaughtUp : View → ℕ → Type 0
IsCaughtUp v start = (t : ℕ) → start ≤ t → t < v.mark → ¬ IsTrue (is_busy v t)

-- Words over lists of draws.
use Rattle.std.specs.Prelude.{ℕ, ◌==◌, ltb, cond, List, count_by}

-- the time that stands where none was reported: the greatest u64
abbrev pub never : ℕ
never = 18446744073709551615

-- how often x stands in the list
abbrev pub times_in : ℕ → List ℕ → ℕ
times_in x draws = count_by (λ y. y == x) draws

-- 1 where x is below n, else 0
abbrev pub once_below : ℕ → ℕ → ℕ
once_below x n = cond (ltb x n) 1 0

-- What only proofs need beside `View`.
use Rattle.std.specs.Prelude.{ℕ, min, Option, Some, None}

-- the lesser of two numbers, where there is one
abbrev pub earlier_of : Option ℕ → Option ℕ → Option ℕ
earlier_of None second = second
earlier_of (Some a) None = Some a
earlier_of (Some a) (Some b) = Some (min a b)

-- Pairs of numbers in order.
use Rattle.std.specs.Prelude.{ℕ}
use Rattle.std.specs.Ordering.{nat_cmp, ordering_then}
use Rattle.std.specs.declared.cmp.Ordering.{Ordering}

-- by the first, and at one first by the second
abbrev pub by_pair : ℕ × ℕ → ℕ × ℕ → Ordering
by_pair x y = ordering_then (nat_cmp x.0 y.0) (nat_cmp x.1 y.1)

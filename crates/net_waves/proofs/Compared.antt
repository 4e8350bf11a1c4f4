-- Numbers compared: what a test of two numbers gives, and the cases of their order.
use Rattle.std.proofs.Common.{◌≡◌, ◌≢◌, ℕ, suc, ◌<◌, ◌≤◌, ◌⊎◌, true, false, nat_eq, nat_lt, nat_le, refl, arith}
use Rattle.std.proofs.lemmas.Bool.Decides.{nat_tests}
use Rattle.std.specs.Ordering.{is_eq}
use Rattle.std.specs.declared.cmp.Ordering.{Ordering}
use Rattle.std.specs.declared.cmp.Ordering.TheVariants.{Less, Equal, Greater}

pub eq_true : (s t : ℕ) → s ≡ t → nat_eq s t ≡ true
eq_true s t h = grind (arith, nat_tests)

pub eq_false : (s t : ℕ) → s ≢ t → nat_eq s t ≡ false
eq_false s t h = grind (arith, nat_tests)

pub lt_true : (s t : ℕ) → s < t → nat_lt s t ≡ true
lt_true s t h = grind (arith, nat_tests)

pub lt_false : (s t : ℕ) → t ≤ s → nat_lt s t ≡ false
lt_false s t h = grind (arith, nat_tests)

pub le_true : (s t : ℕ) → s ≤ t → nat_le s t ≡ true
le_true s t h = grind (arith, nat_tests)

pub le_false : (s t : ℕ) → t < s → nat_le s t ≡ false
le_false s t h = grind (arith, nat_tests)

pub cases_eq : (s t : ℕ) → (s ≡ t) ⊎ (s ≢ t)
cases_eq s t = grind arith

pub cases_lt : (s t : ℕ) → (s < t) ⊎ (t ≤ s)
cases_lt s t = grind arith

pub cases_three : (s t : ℕ) → (t < s) ⊎ ((s ≡ t) ⊎ (s < t))
cases_three s t = grind arith

pub cases_below : (s t : ℕ) → s < suc t → (s < t) ⊎ (s ≡ t)
cases_below s t h = grind arith

pub is_eq_Equal : (o : Ordering) → is_eq o ≡ true → o ≡ Equal
is_eq_Equal Less e = cc
is_eq_Equal Equal e = refl
is_eq_Equal Greater e = cc

-- Laws of the order of pairs of numbers.
use Rattle.std.proofs.Common.{◌≡◌, ℕ, Bool, true, false, refl, ap}
use Rattle.std.proofs.lemmas.Cmp.{nat_cmp_total, then_total, on_total, tied_itself}
use Rattle.std.proofs.lemmas.Map.Lookups.{CmpEqualImpliesEq, exact_unsigned, exact_pairs}
use Rattle.std.specs.Cmp.{IsTotalOrder}
use Rattle.std.specs.Ordering.{nat_cmp, is_eq}
use Rattle.std.specs.BTreeMap.{is_at}
use Rattle.net_waves.specs.Inner.Pairs.{by_pair}
use Rattle.net_waves.proofs.Compared.{is_eq_Equal}

-- it is a total one, and tells all pairs apart
pub by_pair_total : IsTotalOrder by_pair
by_pair_total = then_total (on_total (λ p. p.0) nat_cmp_total) (on_total (λ p. p.1) nat_cmp_total)

by_pair_exact : CmpEqualImpliesEq by_pair
by_pair_exact = exact_pairs nat_cmp nat_cmp exact_unsigned exact_unsigned

pub at_place : (t n : ℕ) → is_at (by_pair (t, n)) (t, n) ≡ true
at_place t n = ap is_eq (tied_itself by_pair_total (t, n))

pub at_other : (t n s m : ℕ) → (t ≡ s → n ≡ m → ⊥) → is_at (by_pair (t, n)) (s, m) ≡ false
at_other t n s m h = go (is_at (by_pair (t, n)) (s, m)) refl
  where
    go : (b : Bool) → is_at (by_pair (t, n)) (s, m) ≡ b → b ≡ false
    go false e = refl
    go true e =
        let both : (t, n) ≡ (s, m) = by_pair_exact (t, n) (s, m) (is_eq_Equal _ e) in
        absurd (h (ap (λ (p : ℕ × ℕ). p.0) both) (ap (λ (p : ℕ × ℕ). p.1) both))

-- Numbers of which each stands once.
use Rattle.std.proofs.Common.{◌≡◌, ℕ, ◌<◌, ◌≤◌, Bool, true, false, cond, eqb, List, [], ◌∷◌, ◌++◌, length, refl}
use Rattle.std.specs.List.{list_any, fold, All, AllByRecursion, IsDistinct}
use Rattle.std.specs.Cmp.{nat_eq_equiv}
use Rattle.std.proofs.lemmas.Bool.{eqb-true, or_parts}
use Rattle.std.proofs.lemmas.List.Elements.{All-contains}
use Rattle.std.proofs.lemmas.List.Sorted.{IsPermutation-append_comm}
use Rattle.std.proofs.lemmas.Map.Keys.{IsDistinct-cons, IsDistinct-IsPermutation}
use Rattle.std.proofs.lemmas.Map.Steps.{length-le_from_distinct_below}
use Rattle.std.proofs.lemmas.Map.Views.{Contains-from_any}
use Rattle.gate_netlist.specs.Bench.{with_last, each_once}

-- a number that isn't there differs from each that is
differs : (n : ℕ) (ns : List ℕ) → list_any (eqb n) ns ≡ false → AllByRecursion (λ m. eqb n m ≡ false) ns
differs n [] e = tt
differs n (m ∷ ns) e = let parts = or_parts (eqb n m) (list_any (eqb n) ns) e in (parts.0, differs n ns parts.1)

with_last-distinct : (ns : List ℕ) (n : ℕ) (there : Bool) → list_any (eqb n) ns ≡ there → IsDistinct eqb ns → IsDistinct eqb (cond there ns (ns ++ n ∷ []))
with_last-distinct ns n true e d = d
with_last-distinct ns n false e d =
    IsDistinct-IsPermutation eqb nat_eq_equiv.symm (n ∷ ns) (ns ++ n ∷ []) (IsPermutation-append_comm (n ∷ []) ns) (IsDistinct-cons eqb n ns (differs n ns e) d)

more-distinct : (found ns : List ℕ) → IsDistinct eqb found → IsDistinct eqb (fold with_last found ns)
more-distinct found [] d = d
more-distinct found (n ∷ ns) d = more-distinct (with_last found n) ns (with_last-distinct found n (list_any (λ m. eqb n m) found) refl d)

pub each_once-distinct : (ns : List ℕ) → IsDistinct eqb (each_once ns)
unfolding IsDistinct
each_once-distinct ns = more-distinct [] ns tt

-- numbers below a bound, each of which stands once, are no more than the bound
pub length-le-bound : (ns : List ℕ) (bound : ℕ) → IsDistinct eqb ns → All (λ n. n < bound) ns → length ns ≤ bound
length-le-bound ns bound d below = length-le_from_distinct_below ns bound d (λ n there. All-contains (λ m. m < bound) ns n below (Contains-from_any eqb-true n ns there))

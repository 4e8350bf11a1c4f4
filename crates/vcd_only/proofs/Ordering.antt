-- The order of the changes of the nets that are told.
use Rattle.std.proofs.Common.{◌≡◌, ℕ, suc, ◌+◌, ◌<◌, ◌≤◌, Bool, false, List, [], ◌∷◌, length, get_or, refl, ap, sym, ◌∙◌, subst, arith}
use Rattle.std.specs.List.Sorted.{IsSortedByKey, IsPermutation}
use Rattle.std.specs.Ordering.{is_lt}
use Rattle.std.proofs.lemmas.List.{length-map, get_or-map}
use Rattle.std.proofs.lemmas.List.Sorted.{IsPermutation-map}
use Rattle.net_waves.specs.declared.timeline.Stop.{Stop}
use Rattle.net_waves.specs.Inner.Pairs.{by_pair}
use Rattle.net_waves.specs.Timeline.{AtMost, InOrder, IsRising, count}
use Rattle.net_waves.proofs.Counting.{count-permuted, count-at, one-self}
use Rattle.net_waves.proofs.MergeLaws.{head_is}
use Rattle.net_waves.proofs.TimelineLaws.{sorted-InOrder}
use Rattle.vcd_only.specs.declared.stops.Told.{Told}
use Rattle.vcd_only.specs.Inner.Stops.{stop_of, stops_in}

-- a permutation has the same changes
pub permuted-same : (xs ys : List Told) → IsPermutation xs ys → (s : Stop) → count s (stops_in ys) ≡ count s (stops_in xs)
permuted-same xs ys p s = count-permuted s (stops_in xs) (stops_in ys) (IsPermutation-map stop_of xs ys p)

-- the first change stands at each place past the end too
first_of : Told → List Told → Told
first_of d [] = d
first_of d (x ∷ xs) = x

-- what a sort by time and net leaves
pub sorted-told : (xs : List Told) → IsSortedByKey (λ (x : Told). (x.time, x.net)) by_pair xs → InOrder (stops_in xs)
sorted-told xs up = sorted-InOrder (stops_in xs) (λ k d low high. go xs up k d low high)
  where
    less : Stop → Stop → Bool
    less x y = is_lt (by_pair (x.time, x.net) (y.time, y.net))

    go : (xs : List Told) → IsSortedByKey (λ (x : Told). (x.time, x.net)) by_pair xs → (k : ℕ) (d : Stop) → 0 ≤ k → k + 1 < length (stops_in xs) → less (get_or (stops_in xs) (k + 1) d) (get_or (stops_in xs) k d) ≡ false
    go [] up k d low high = absurd (omega arith)
    go (x ∷ xs) up k d low high =
        let within : k + 1 < length (x ∷ xs) = omega (arith, length-map (x ∷ xs) stop_of) in
        rw (get_or-map stop_of (x ∷ xs) (k + 1) x d within, get_or-map stop_of (x ∷ xs) k x d (omega arith)) (up k x low within)

InOrder-tail : (x : Stop) (xs : List Stop) → InOrder (x ∷ xs) → InOrder xs
InOrder-tail x xs order i j d le within = order (suc i) (suc j) d (omega arith) (omega arith)

-- changes in order that are those of a list that rises are that list
pub in_order-same : (xs all : List Stop) → InOrder xs → IsRising all → ((s : Stop) → count s xs ≡ count s all) → xs ≡ all
in_order-same [] [] order rising same = refl
in_order-same [] (y ∷ ys) order rising same = absurd (omega (arith, same y, one-self y))
in_order-same (x ∷ xs) all order rising same =
    let head = head_is x all rising (omega (arith, same x, one-self x)) least in
    let left : (s : Stop) → count s xs ≡ count s head.0 = λ s. omega (arith, same s, ap (count s) head.1) in
    ap (λ ys. x ∷ ys) (in_order-same xs head.0 (InOrder-tail x xs order) head.2 left) ∙ sym head.1
  where
    least : (y : Stop) → 0 < count y all → AtMost x y
    least y some =
        let place = count-at y x (x ∷ xs) (omega (arith, same y)) in
        subst (AtMost x) place.2 (order 0 place.0 x (omega arith) place.1)

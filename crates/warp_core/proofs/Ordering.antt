-- Which numbers of an order are met.
use Rattle.std.proofs.Common.{◌≡◌, ◌==◌, ℕ, ◌+◌, ◌<◌, ◌≤◌, Bool, true, false, cond, IsTrue, List, [], length, get_or, set, take, replicate, inl, inr, refl, ap, sym, ◌∙◌, subst, arith}
use Rattle.std.specs.List.{count_by}
use Rattle.std.proofs.lemmas.Bool.{cases_eq, cases_lt, eq-eqb, ne_eqb}
use Rattle.std.proofs.lemmas.List.{get_or-set_same, get_or-set_other, get_or-replicate, get_or_past, length-replicate}
use Rattle.std.proofs.lemmas.List.Elements.{All-more}
use Rattle.std.proofs.lemmas.List.Sums.{count_by_more_yes, count_by_more_no, sum_by-take-le}
use Rattle.warp_core.specs.Drive.{IsOrder}
use Rattle.warp_core.specs.Inner.Order.{IsMet}

-- one more number, which wasn't marked
pub met_more : (count : ℕ) (order : List ℕ) (i : ℕ) (met : List Bool) → i < length order → get_or order i 0 < count → count ≤ length met → get_or met (get_or order i 0) false ≡ false → IsMet count (take i order) met →
    IsMet count (take (i + 1) order) (set met (get_or order i 0) true)
met_more count order i met within below room unmet is = record {
  within = All-more (λ b. b < count) order i 0 within is.within below;
  counts = λ b. elim (cases_eq (get_or order i 0) b) [
    | inl here ↦ at_it b here
    | inr other ↦
        count_by_more_no (λ x. x == b) order i 0 within (ne_eqb (get_or order i 0) b other)
        ∙ (is.counts b ∙ ap (λ (m : Bool). cond m 1 0) (sym (get_or-set_other met (get_or order i 0) b true false (λ e. other (sym e)))))
  ];
}
  where
    at_it : (b : ℕ) → get_or order i 0 ≡ b → count_by (λ x. x == b) (take (i + 1) order) ≡ cond (get_or (set met (get_or order i 0) true) b false) 1 0
    at_it b here =
        let more = count_by_more_yes (λ x. x == b) order i 0 within (eq-eqb (get_or order i 0) b here) in
        let before : count_by (λ x. x == b) (take i order) ≡ 0 = is.counts b ∙ ap (λ (m : Bool). cond m 1 0) (subst (λ (k : ℕ). get_or met k false ≡ false) here unmet) in
        let set_here : ◌≡◌ {A = ℕ} (cond (get_or (set met (get_or order i 0) true) b false) 1 0) 1 =
        ap (λ (m : Bool). cond m 1 0) (subst (λ (k : ℕ). get_or (set met (get_or order i 0) true) k false ≡ true) here (get_or-set_same met (get_or order i 0) true false (omega (arith, below, room)))) in
        omega (arith, more, before, set_here)

-- none is met
pub met_none : (count : ℕ) (met : List Bool) → ((b : ℕ) → get_or met b false ≡ false) → IsMet count [] met
met_none count met none = record {
  within = λ i x l. absurd (omega (arith, l));
  counts = λ b. sym (ap (λ (m : Bool). cond m 1 0) (none b));
}

-- a number that stands twice
pub twice : (count : ℕ) (order : List ℕ) (i : ℕ) (met : List Bool) → i < length order → get_or order i 0 < count → get_or met (get_or order i 0) false ≡ true → IsMet count (take i order) met → IsOrder count order → ⊥
twice count order i met within below marked is order_is =
    let b = get_or order i 0 in
    let more = count_by_more_yes (λ x. x == b) order i 0 within (eq-eqb b b refl) in
    let before : count_by (λ x. x == b) (take i order) ≡ 1 = is.counts b ∙ ap (λ (m : Bool). cond m 1 0) marked in
    let one = order_is.once b below in
    let le = sum_by-take-le (λ x. cond (x == b) 1 0) order (i + 1) in
    absurd (omega (arith, more, before, one, le))

pub order_from : (count : ℕ) (order : List ℕ) (met : List Bool) → IsMet count order met → ((b : ℕ) → b < count → IsTrue (get_or met b false)) → IsOrder count order
order_from count order met is all = record { within = is.within; once = λ b l. is.counts b ∙ ap (λ (m : Bool). cond m 1 0) (all b l) }

pub order_met : (count : ℕ) (order : List ℕ) (met : List Bool) → IsMet count order met → IsOrder count order → (b : ℕ) → b < count → IsTrue (get_or met b false)
order_met count order met is order_is b l = go (get_or met b false) (sym (is.counts b) ∙ order_is.once b l)
  where
    go : (m : Bool) → ◌≡◌ {A = ℕ} (cond m 1 0) 1 → IsTrue m
    go true e = refl
    go false e = absurd (omega (arith, e))

-- of marks none of which is set, none is set
pub none_set : (n b : ℕ) → get_or (replicate n false) b false ≡ false
none_set n b = elim (cases_lt b n) [
  | inl within ↦ get_or-replicate n b false false within
  | inr past ↦ get_or_past (replicate n false) b false (let size = length-replicate n false in omega (arith, past, size))
]

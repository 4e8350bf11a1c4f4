-- What is told of the changes of the first places, counted.
use Rattle.std.proofs.Common.{◌≡◌, ◌≢◌, ℕ, zero, suc, Bool, true, false, cond, ◌&&◌, ◌||◌, ◌==◌, ◌+◌, ◌<◌, ◌≤◌, ◌⊎◌, inl, inr, List, [], ◌∷◌, refl, ap, sym, ◌∙◌, zero-add, arith, subst, get_or, length}
use Rattle.std.specs.List.{All, list_any, count_by, flat_map}
use Rattle.std.proofs.lemmas.Bool.{false_from_ne_true, ne_eqb}
use Rattle.std.proofs.lemmas.List.Sums.{sum_by-append, sum_by-cons}
use Rattle.std.proofs.lemmas.List.Elements.{All-tail, All-head}
use Rattle.gate_values.specs.declared.logic.Change.{Change}
use Rattle.warp_process.specs.declared.message.Message.{Message}
use Rattle.warp_process.specs.declared.message.Sign.{Sign}
use Rattle.warp_part.specs.Portion.{Portion}
use Rattle.warp_process.specs.Sends.{Place, is_change, is_message, same_sign}
use Rattle.warp_process.specs.Inner.Step.{told}
use Rattle.warp_process.specs.Shown.Step.{net_at, sent}

-- a test that no item passes
pub count-none : {A : Type 0} (f : A → Bool) (xs : List A) → All (λ x. f x ≡ false) xs → count_by f xs ≡ 0
count-none f [] h = refl
count-none {A} f (x ∷ xs) h =
    sum_by-cons (λ y. cond (f y) 1 0) x xs ∙ rw (All-head (λ (y : A). f y ≡ false) x xs h, zero-add) (count-none f xs (All-tail (λ (y : A). f y ≡ false) x xs h))

-- a test that one item at most passes
pub count-once : {A : Type 0} (f : A → Bool) (xs : List A) → count_by f xs ≤ 1 → count_by f xs ≡ cond (list_any f xs) 1 0
count-once f [] h = refl
count-once f (x ∷ xs) h =
    let count = sum_by-cons (λ y. cond (f y) 1 0) x xs in
    count ∙ go (f x) (count-once f xs) (subst (λ k. k ≤ 1) count h)
  where
    go : (a : Bool) → (count_by f xs ≤ 1 → count_by f xs ≡ cond (list_any f xs) 1 0) →
        cond a 1 0 + count_by f xs ≤ 1 → cond a 1 0 + count_by f xs ≡ cond (a || list_any f xs) 1 0
    go true ih h = omega arith
    go false ih h = zero-add _ ∙ ih (omega arith)

-- a test that no two items pass
pub count-apart : {A : Type 0} (f : A → Bool) (xs : List A) →
    ((i j : ℕ) (d : A) → i < j → j < length xs → f (get_or xs i d) ≡ true → f (get_or xs j d) ≡ true → ⊥) → count_by f xs ≤ 1
count-apart f [] h = omega arith
count-apart {A} f (x ∷ xs) h =
    let count = sum_by-cons (λ y. cond (f y) 1 0) x xs in
    subst (λ k. k ≤ 1) (sym count) (go (f x) refl (count-apart f xs (λ i j d l k. h (suc i) (suc j) d (omega (arith, l)) (omega (arith, k)))))
  where
    go : (a : Bool) → f x ≡ a → count_by f xs ≤ 1 → cond a 1 0 + count_by f xs ≤ 1
    go true e rest =
        let none : count_by f xs ≡ 0 = count-none f xs (λ k d l. false_from_ne_true (f (get_or xs k d)) (h 0 (suc k) d (omega arith) (omega (arith, l)) e)) in
        omega (arith, none)
    go false e rest = omega (arith, rest)

module _ (p : Place) (s t : Sign) where
  -- the messages of a place among those on one change
  count-sent : (net : ℕ) (rs : List ℕ) (c : Change) →
      count_by (is_message t p) (sent s net rs c) ≡ cond (same_sign s t && ((net == p.net) && is_change p c)) (count_by (λ r. r == p.block) rs) 0
  count-sent net [] c = go (same_sign s t && ((net == p.net) && is_change p c))
    where
      go : (b : Bool) → ◌≡◌ {A = ℕ} 0 (cond b 0 0)
      go true = refl
      go false = refl
  count-sent net (r ∷ rs) c =
      sum_by-cons (λ m. cond (is_message t p m) 1 0) (record { time = c.time; block = r; net = net; value = c.value; sign = s }) (sent s net rs c)
      ∙ (go (r == p.block) (net == p.net) (same_sign s t) (is_change p c) (count-sent net rs c)
      ∙ ap (λ k. cond (same_sign s t && ((net == p.net) && is_change p c)) k 0) (sym (sum_by-cons (λ r. cond (r == p.block) 1 0) r rs)))
    where
      go : (a b g d : Bool) → count_by (is_message t p) (sent s net rs c) ≡ cond (g && (b && d)) (count_by (λ r. r == p.block) rs) 0 →
          cond (a && (b && (g && d))) 1 0 + count_by (is_message t p) (sent s net rs c) ≡ cond (g && (b && d)) (cond a 1 0 + count_by (λ r. r == p.block) rs) 0
      go true true true true h = omega (arith, h)
      go true true true false h = omega (arith, h)
      go true true false d h = omega (arith, h)
      go true false true d h = omega (arith, h)
      go true false false d h = omega (arith, h)
      go false true true true h = omega (arith, h)
      go false true true false h = omega (arith, h)
      go false true false d h = omega (arith, h)
      go false false true d h = omega (arith, h)
      go false false false d h = omega (arith, h)

  -- the messages of a place among those on some changes of a net
  pub count-changes : (net : ℕ) (rs : List ℕ) (cs : List Change) → count_by (λ r. r == p.block) rs ≤ 1 →
      count_by (is_message t p) (flat_map (sent s net rs) cs) ≡ cond (same_sign s t && (net == p.net)) (cond (list_any (λ r. r == p.block) rs) (count_by (is_change p) cs) 0) 0
  count-changes net rs [] h = go (same_sign s t && (net == p.net)) (list_any (λ r. r == p.block) rs)
    where
      go : (a b : Bool) → ◌≡◌ {A = ℕ} 0 (cond a (cond b 0 0) 0)
      go true true = refl
      go true false = refl
      go false b = refl
  count-changes net rs (c ∷ cs) h =
      sum_by-append (λ m. cond (is_message t p m) 1 0) (sent s net rs c) (flat_map (sent s net rs) cs)
      ∙ (rw (count-sent net rs c, count-once (λ r. r == p.block) rs h) (go (same_sign s t) (net == p.net) (list_any (λ r. r == p.block) rs) (is_change p c) (count-changes net rs cs h))
      ∙ ap (λ k. cond (same_sign s t && (net == p.net)) (cond (list_any (λ r. r == p.block) rs) k 0) 0) (sym (sum_by-cons (λ c. cond (is_change p c) 1 0) c cs)))
    where
      go : (g a b e : Bool) → count_by (is_message t p) (flat_map (sent s net rs) cs) ≡ cond (g && a) (cond b (count_by (is_change p) cs) 0) 0 →
          cond (g && (a && e)) (cond b 1 0) 0 + count_by (is_message t p) (flat_map (sent s net rs) cs) ≡ cond (g && a) (cond b (cond e 1 0 + count_by (is_change p) cs) 0) 0
      go true true true true h = omega (arith, h)
      go true true true false h = omega (arith, h)
      go true true false true h = omega (arith, h)
      go true true false false h = omega (arith, h)
      go true false b e h = omega (arith, h)
      go false a b e h = omega (arith, h)

  module _ (part : Portion) (cs : ℕ → List Change) where
    -- what is told of the changes of one place
    abbrev told_at : ℕ → List Message
    told_at i = flat_map (sent s (net_at part i) (get_or part.readers i [])) (cs i)

    -- no reader is named twice
    abbrev AreApart : ℕ → Type 0
    AreApart k = (i : ℕ) → i < k → count_by (λ r. r == p.block) (get_or part.readers i []) ≤ 1

    count-other : (i : ℕ) → count_by (λ r. r == p.block) (get_or part.readers i []) ≤ 1 → net_at part i ≢ p.net → count_by (is_message t p) (told_at i) ≡ 0
    count-other i h ne =
        count-changes (net_at part i) (get_or part.readers i []) (cs i) h
        ∙ rw (ne_eqb (net_at part i) p.net ne) (go (same_sign s t))
      where
        go : (g : Bool) → cond (g && false) (cond (list_any (λ r. r == p.block) (get_or part.readers i [])) (count_by (is_change p) (cs i)) 0) 0 ≡ 0
        go true = refl
        go false = refl

    count-more : (k : ℕ) → count_by (is_message t p) (told s part cs (suc k)) ≡ count_by (is_message t p) (told s part cs k) + count_by (is_message t p) (told_at k)
    count-more k = sum_by-append (λ m. cond (is_message t p m) 1 0) (told s part cs k) (told_at k)

    -- where no place has the net
    pub count-told_none : (k : ℕ) → AreApart k → ((i : ℕ) → i < k → net_at part i ≢ p.net) → count_by (is_message t p) (told s part cs k) ≡ 0
    count-told_none zero h ne = refl
    count-told_none (suc k) h ne =
        let before = count-told_none k (λ i l. h i (omega arith)) (λ i l. ne i (omega arith)) in
        let last = count-other k (h k (omega arith)) (ne k (omega arith)) in
        omega (arith, count-more k, before, last)

    -- where one place has the net
    pub count-told_one : (j k : ℕ) → j < k → AreApart k → ((i : ℕ) → i < k → i ≢ j → net_at part i ≢ p.net) →
        count_by (is_message t p) (told s part cs k) ≡ count_by (is_message t p) (told_at j)
    count-told_one j zero l h ne = absurd (omega arith)
    count-told_one j (suc k) l h ne = elim (last_or_before j k l) [
      | inl e ↦ (let before = count-told_none k (λ i l. h i (omega arith)) (λ i l. ne i (omega arith) (omega (arith, e))) in
          let same_place : count_by (is_message t p) (told_at k) ≡ count_by (is_message t p) (told_at j) = ap (λ i. count_by (is_message t p) (told_at i)) (sym e) in
          omega (arith, count-more k, before, same_place))
      | inr less ↦ (let before = count-told_one j k less (λ i l. h i (omega arith)) (λ i l. ne i (omega arith)) in
          let last = count-other k (h k (omega arith)) (ne k (omega arith) (omega (arith, less))) in
          omega (arith, count-more k, before, last))
    ]
      where
        last_or_before : (j k : ℕ) → j < suc k → (j ≡ k) ⊎ (j < k)
        last_or_before j k l = grind arith

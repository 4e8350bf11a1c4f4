-- Messages that have reached their blocks, and those that are left.
use Rattle.std.proofs.Common.{◌≡◌, ◌≢◌, ℕ, suc, ◌+◌, ◌-◌, ◌<◌, ◌≤◌, ◌==◌, ◌&&◌, ◌++◌, nat_le, Bool, true, false, cond, List, [], ◌∷◌, length, get_or, drop, inl, inr, refl, ap, sym, ◌∙◌, subst, arith}
use Rattle.std.specs.List.{All, count_by}
use Rattle.std.proofs.lemmas.Bool.{cases_eq, cases_lt, eq-eqb, ne_eqb, eqb-true, leb-true, true≢false}
use Rattle.std.proofs.lemmas.List.Sums.{sum_by-cons, get_or-le-sum_by}
use Rattle.warp_process.specs.declared.message.Message.{Message}
use Rattle.warp_core.specs.Inner.Turns.{left, places_for}

le-leb : (a b : ℕ) → a ≤ b → nat_le a b ≡ true
le-leb a b l = grind (arith, l)

lt-leb : (a b : ℕ) → b < a → nat_le a b ≡ false
lt-leb a b l = grind (arith, l)

-- those of two lists, one behind the other
pub left-append : (heard : ℕ → ℕ) (i : ℕ) (xs ys : List Message) → left heard i (xs ++ ys) ≡ left heard i xs ++ left heard (i + length xs) ys
unfolding left
left-append heard i [] ys = ap (λ k. left heard k ys) (zero i)
  where
    zero : (k : ℕ) → k ≡ k + 0
    zero k = omega arith
left-append heard i (x ∷ xs) ys = go (nat_le (heard x.block) i) (left-append heard (suc i) xs ys ∙ ap (λ k. left heard (suc i) xs ++ left heard k ys) (next i (length xs)))
  where
    next : (k n : ℕ) → suc k + n ≡ k + suc n
    next k n = omega arith

    go : (b : Bool) → left heard (suc i) (xs ++ ys) ≡ left heard (suc i) xs ++ left heard (i + suc (length xs)) ys →
        cond b (x ∷ left heard (suc i) (xs ++ ys)) (left heard (suc i) (xs ++ ys)) ≡ cond b (x ∷ left heard (suc i) xs) (left heard (suc i) xs) ++ left heard (i + suc (length xs)) ys
    go true rest = ap (λ zs. x ∷ zs) rest
    go false rest = rest

-- where each place before which messages have been heard is past, all are left
pub left_all : (heard : ℕ → ℕ) (i : ℕ) (ms : List Message) → ((b : ℕ) → heard b ≤ i) → left heard i ms ≡ ms
unfolding left
left_all heard i [] low = refl
left_all heard i (m ∷ ms) low =
    let now : nat_le (heard m.block) i ≡ true = le-leb (heard m.block) i (low m.block) in
    rw now (ap (λ zs. m ∷ zs) (left_all heard (suc i) ms (λ b. (let l = low b in omega (arith, l)))))

pub left_one : (heard : ℕ → ℕ) (i : ℕ) (m : Message) → left heard i (m ∷ []) ≡ cond (nat_le (heard m.block) i) (m ∷ []) []
unfolding left
left_one heard i m = refl

pub left_none : (heard : ℕ → ℕ) (i : ℕ) → [] ≡ left heard i []
unfolding left
left_none heard i = refl

-- ---- places of the messages for a block

-- those of two lists, one behind the other
pub places-append : (b from i : ℕ) (xs ys : List Message) → places_for b from i (xs ++ ys) ≡ places_for b from i xs ++ places_for b from (i + length xs) ys
unfolding places_for
places-append b from i [] ys = ap (λ k. places_for b from k ys) (zero i)
  where
    zero : (k : ℕ) → k ≡ k + 0
    zero k = omega arith
places-append b from i (x ∷ xs) ys = go ((x.block == b) && nat_le from i) (places-append b from (suc i) xs ys ∙ ap (λ k. places_for b from (suc i) xs ++ places_for b from k ys) (next i (length xs)))
  where
    next : (k n : ℕ) → suc k + n ≡ k + suc n
    next k n = omega arith

    go : (c : Bool) → places_for b from (suc i) (xs ++ ys) ≡ places_for b from (suc i) xs ++ places_for b from (i + suc (length xs)) ys →
        cond c (i ∷ places_for b from (suc i) (xs ++ ys)) (places_for b from (suc i) (xs ++ ys)) ≡ cond c (i ∷ places_for b from (suc i) xs) (places_for b from (suc i) xs) ++ places_for b from (i + suc (length xs)) ys
    go true rest = ap (λ zs. i ∷ zs) rest
    go false rest = rest

-- as many messages for a block are left as there are places of them
pub left_count : (heard : ℕ → ℕ) (b i : ℕ) (ms : List Message) → count_by (λ m. m.block == b) (left heard i ms) ≡ length (places_for b (heard b) i ms)
unfolding left places_for
left_count heard b i [] = refl
left_count heard b i (m ∷ ms) = elim (cases_eq m.block b) [
  | inl here ↦ rw (eq-eqb m.block b here) (subst (λ (k : ℕ). count_by (λ (n : Message). n.block == b) (cond (nat_le (heard k) i) (m ∷ left heard (suc i) ms) (left heard (suc i) ms)) ≡ length (cond (nat_le (heard b) i) (i ∷ places_for b (heard b) (suc i) ms) (places_for b (heard b) (suc i) ms))) (sym here) (same (nat_le (heard b) i) here (left_count heard b (suc i) ms)))
  | inr other ↦ rw (ne_eqb m.block b other) (skipped (nat_le (heard m.block) i) other (left_count heard b (suc i) ms))
]
  where
    same : (c : Bool) → m.block ≡ b → count_by (λ n. n.block == b) (left heard (suc i) ms) ≡ length (places_for b (heard b) (suc i) ms) →
        count_by (λ (n : Message). n.block == b) (cond c (m ∷ left heard (suc i) ms) (left heard (suc i) ms)) ≡ length (cond c (i ∷ places_for b (heard b) (suc i) ms) (places_for b (heard b) (suc i) ms))
    same true here rest =
        (let one = sum_by-cons (λ (n : Message). cond (n.block == b) 1 0) m (left heard (suc i) ms) in
        let is : ◌≡◌ {A = ℕ} (cond (m.block == b) 1 0) 1 = ap (λ (t : Bool). cond t 1 0) (eq-eqb m.block b here) in
        omega (arith, one, is, rest))
    same false here rest = rest

    skipped : (c : Bool) → m.block ≢ b → count_by (λ n. n.block == b) (left heard (suc i) ms) ≡ length (places_for b (heard b) (suc i) ms) →
        count_by (λ (n : Message). n.block == b) (cond c (m ∷ left heard (suc i) ms) (left heard (suc i) ms)) ≡ length (places_for b (heard b) (suc i) ms)
    skipped true other rest =
        (let one = sum_by-cons (λ (n : Message). cond (n.block == b) 1 0) m (left heard (suc i) ms) in
        let is : ◌≡◌ {A = ℕ} (cond (m.block == b) 1 0) 0 = ap (λ (t : Bool). cond t 1 0) (ne_eqb m.block b other) in
        omega (arith, one, is, rest))
    skipped false other rest = rest

-- The first place of a message for a block: the message stands between those that are left before it and behind it, and
-- once it has reached its block only these are left.
pub record IsNextPlace (heard heard' : ℕ → ℕ) (b p i : ℕ) (rest : List ℕ) (ms : List Message) : Type 0 where
  pub before : List Message
  pub message : Message
  pub after : List Message
  pub split : left heard i ms ≡ before ++ message ∷ after
  pub gone : left heard' i ms ≡ before ++ after
  pub here : message.block ≡ b
  pub low : i ≤ p
  pub high : p < i + length ms
  pub at : (d : Message) → get_or ms (p - i) d ≡ message
  pub others : places_for b (heard' b) i ms ≡ rest

-- where two lists have the same
same_left : (heard heard' : ℕ → ℕ) (b i : ℕ) (ms : List Message) → heard b ≤ i → heard' b ≤ i → ((c : ℕ) → c ≢ b → heard' c ≡ heard c) → left heard' i ms ≡ left heard i ms
unfolding left
same_left heard heard' b i [] low low' others = refl
same_left heard heard' b i (m ∷ ms) low low' others =
    let rest = same_left heard heard' b (suc i) ms (omega (arith, low)) (omega (arith, low')) others in
    elim (cases_eq m.block b) [
      | inl here ↦
          (let now : nat_le (heard m.block) i ≡ true = le-leb (heard m.block) i (subst (λ (k : ℕ). heard k ≤ i) (sym here) low) in
          let now' : nat_le (heard' m.block) i ≡ true = le-leb (heard' m.block) i (subst (λ (k : ℕ). heard' k ≤ i) (sym here) low') in
          rw (now, now') (ap (λ zs. m ∷ zs) rest))
      | inr other ↦ rw (others m.block other) (ap (λ (zs : List Message). cond (nat_le (heard m.block) i) (m ∷ zs) zs) rest)
    ]

same_places : (b from from' i : ℕ) (ms : List Message) → from ≤ i → from' ≤ i → places_for b from' i ms ≡ places_for b from i ms
unfolding places_for
same_places b from from' i [] low low' = refl
same_places b from from' i (m ∷ ms) low low' =
    let rest = same_places b from from' (suc i) ms (omega (arith, low)) (omega (arith, low')) in
    rw (le-leb from i low, le-leb from' i low') (ap (λ (zs : List ℕ). cond ((m.block == b) && true) (i ∷ zs) zs) rest)

pub next_place : (heard heard' : ℕ → ℕ) (b p i : ℕ) (rest : List ℕ) (ms : List Message) → heard' b ≡ p + 1 → ((c : ℕ) → c ≢ b → heard' c ≡ heard c) → places_for b (heard b) i ms ≡ p ∷ rest → IsNextPlace heard heard' b p i rest ms
unfolding left places_for
next_place heard heard' b p i rest [] up others e = absurd cc
next_place heard heard' b p i rest (m ∷ ms) up others e = go (m.block == b) (nat_le (heard b) i) refl refl e (next_place heard heard' b p (suc i) rest ms up others)
  where
    here_now : m.block ≡ b → heard b ≤ i → i ∷ places_for b (heard b) (suc i) ms ≡ p ∷ rest → IsNextPlace heard heard' b p i rest (m ∷ ms)
    here_now here low e =
        let is : i ≡ p = ap (λ (ns : List ℕ). get_or ns 0 0) e in
        let others_is : places_for b (heard b) (suc i) ms ≡ rest = ap (drop 1) e in
        let now : nat_le (heard m.block) i ≡ true = le-leb (heard m.block) i (subst (λ (k : ℕ). heard k ≤ i) (sym here) low) in
        let up_here : heard' b ≤ suc i = omega (arith, up, is) in
        let past : nat_le (heard' b) i ≡ false = lt-leb (heard' b) i (omega (arith, up, is)) in
        let gone : nat_le (heard' m.block) i ≡ false = subst (λ (k : ℕ). nat_le (heard' k) i ≡ false) (sym here) past in
        record {
          before = [];
          message = m;
          after = left heard (suc i) ms;
          split = rw now refl;
          gone = rw gone (same_left heard heard' b (suc i) ms (omega (arith, low)) up_here others);
          here = here;
          low = omega (arith, is);
          high = omega (arith, is);
          at = λ d. ap (λ (k : ℕ). get_or (m ∷ ms) k d) (zero is);
          others = rw past (none (m.block == b) (same_places b (heard b) (heard' b) (suc i) ms (omega (arith, low)) up_here ∙ others_is));
        }
      where
        zero : i ≡ p → p - i ≡ 0
        zero is = omega (arith, is)

        none : (c : Bool) → places_for b (heard' b) (suc i) ms ≡ rest → cond (c && false) (i ∷ places_for b (heard' b) (suc i) ms) (places_for b (heard' b) (suc i) ms) ≡ rest
        none true h = h
        none false h = h

    not_now : ((m.block ≡ b) → i < heard b) → IsNextPlace heard heard' b p (suc i) rest ms → IsNextPlace heard heard' b p i rest (m ∷ ms)
    not_now late next =
        let low = next.low in
        let high = next.high in
        let past : nat_le (heard' b) i ≡ false = lt-leb (heard' b) i (omega (arith, up, low)) in
        record {
          before = cond (nat_le (heard m.block) i) (m ∷ next.before) next.before;
          message = next.message;
          after = next.after;
          split = in_front (nat_le (heard m.block) i) (left heard (suc i) ms) next.before (next.message ∷ next.after) next.split;
          gone = rw (same past) (in_front (nat_le (heard m.block) i) (left heard' (suc i) ms) next.before next.after next.gone);
          here = next.here;
          low = omega (arith, low);
          high = omega (arith, high);
          at = λ d. ap (λ (k : ℕ). get_or (m ∷ ms) k d) (one low) ∙ next.at d;
          others = rw past (none (m.block == b) next.others);
        }
      where
        one : suc i ≤ p → p - i ≡ suc (p - suc i)
        one low = omega (arith, low)

        in_front : (c : Bool) (xs before after : List Message) → xs ≡ before ++ after → cond c (m ∷ xs) xs ≡ cond c (m ∷ before) before ++ after
        in_front true xs before after h = ap (λ zs. m ∷ zs) h
        in_front false xs before after h = h

        none : (c : Bool) → places_for b (heard' b) (suc i) ms ≡ rest → cond (c && false) (i ∷ places_for b (heard' b) (suc i) ms) (places_for b (heard' b) (suc i) ms) ≡ rest
        none true h = h
        none false h = h

        same : nat_le (heard' b) i ≡ false → nat_le (heard' m.block) i ≡ nat_le (heard m.block) i
        same past = elim (cases_eq m.block b) [
          | inl here ↦
              subst (λ (k : ℕ). nat_le (heard' k) i ≡ false) (sym here) past ∙ sym (subst (λ (k : ℕ). nat_le (heard k) i ≡ false) (sym here) (lt-leb (heard b) i (late here)))
          | inr other ↦ ap (λ (k : ℕ). nat_le k i) (others m.block other)
        ]

    go : (c l : Bool) → (m.block == b) ≡ c → nat_le (heard b) i ≡ l → cond (c && l) (i ∷ places_for b (heard b) (suc i) ms) (places_for b (heard b) (suc i) ms) ≡ p ∷ rest →
        (places_for b (heard b) (suc i) ms ≡ p ∷ rest → IsNextPlace heard heard' b p (suc i) rest ms) → IsNextPlace heard heard' b p i rest (m ∷ ms)
    go true true is low e next = here_now (eqb-true m.block b is) (leb-true (heard b) i low) e
    go true false is low e next = not_now (λ _. elim (cases_lt i (heard b)) [ inl late ↦ late | inr early ↦ absurd (true≢false (sym (le-leb (heard b) i early) ∙ low)) ]) (next e)
    go false l is low e next = not_now (λ here. absurd (true≢false (sym (eq-eqb m.block b here) ∙ is))) (next e)

-- no more than there are
pub left-le : (heard : ℕ → ℕ) (i : ℕ) (ms : List Message) → length (left heard i ms) ≤ length ms
unfolding left
left-le heard i [] = omega arith
left-le heard i (m ∷ ms) = go (nat_le (heard m.block) i) (left-le heard (suc i) ms)
  where
    go : (c : Bool) → length (left heard (suc i) ms) ≤ length ms → length (cond c (m ∷ left heard (suc i) ms) (left heard (suc i) ms)) ≤ suc (length ms)
    go true h = omega (arith, h)
    go false h = omega (arith, h)

-- where no place of a message for a block is left, none is left for it
pub left_without : (heard : ℕ → ℕ) (b i : ℕ) (ms : List Message) → places_for b (heard b) i ms ≡ [] → All (λ (m : Message). m.block ≢ b) (left heard i ms)
left_without heard b i ms none =
    let count = left_count heard b i ms in
    let size = ap length none in
    go (left heard i ms) (omega (arith, count, size))
  where
    go : (xs : List Message) → count_by (λ (m : Message). m.block == b) xs ≤ 0 → All (λ (m : Message). m.block ≢ b) xs
    go xs few k m within is =
        let met = get_or-le-sum_by (λ (n : Message). cond (n.block == b) 1 0) xs k m within in
        let one : ◌≡◌ {A = ℕ} (cond ((get_or xs k m).block == b) 1 0) 1 = ap (λ (t : Bool). cond t 1 0) (eq-eqb (get_or xs k m).block b is) in
        absurd (omega (arith, few, met, one))

pub places_one : (b from i : ℕ) (m : Message) → places_for b from i (m ∷ []) ≡ cond ((m.block == b) && nat_le from i) (i ∷ []) []
unfolding places_for
places_one b from i m = refl

pub places_none : (b from i : ℕ) → [] ≡ places_for b from i []
unfolding places_for
places_none b from i = refl

-- Changes as they are seen, and the values that they leave.
use Rattle.std.proofs.Common.{◌≡◌, ◌⊎◌, inl, inr, ℕ, zero, suc, ◌+◌, ◌-◌, ◌*◌, ◌/◌, ◌<◌, ◌≤◌, ◌^◌, Bool, true, false, cond, nat_le, nat_lt, List, [], ◌∷◌, ◌++◌, length, map, take, drop, get_or, refl, ap, sym, subst, ◌∙◌, arith, take-append-drop, length-drop}
use Rattle.std.proofs.Math.Seq.{take-length}
use Rattle.std.proofs.lemmas.Bool.Decides.{nat_tests}
use Rattle.std.proofs.lemmas.List.{get_or-map, get_or_default, length-map, get_or-drop}
use Rattle.std.proofs.Math.Nat.{le-div_iff_mul-le, mul-le-mul_right}
use Rattle.gate_values.specs.declared.logic.Logic.{Logic}
use Rattle.gate_values.specs.declared.logic.Logic.TheVariants.{X}
use Rattle.gate_values.specs.declared.logic.Change.{Change}
use Rattle.gate_values.specs.Changes.{latest}
use Rattle.bit_compare.specs.declared.shown.Shown.{Shown}
use Rattle.bit_compare.specs.Bits.{Lens, value_through}
use Rattle.bit_compare.specs.Inner.Moments.{IsCount, IsPassed, is_gone}
use Rattle.bit_compare.specs.Shown.Moments.{AreMoments, AreRising, IsShown, IsSmall, lens_of, seen_at, value_after}

pub le_true : (n m : ℕ) → n ≤ m → nat_le n m ≡ true
le_true n m h = grind (arith, nat_tests, h)

pub le_false : (n m : ℕ) → m < n → nat_le n m ≡ false
le_false n m h = grind (arith, nat_tests, h)

pub le_is : (n m : ℕ) → nat_le n m ≡ true → n ≤ m
le_is n m h = grind (arith, nat_tests, h)

pub le_not : (n m : ℕ) → nat_le n m ≡ false → m < n
le_not n m h = grind (arith, nat_tests, h)

-- one change more, by its number
pub value_after-at : (v : Logic) (cs : List Change) (n : ℕ) (d : Change) → n < length cs → (get_or cs n d).value ≡ value_after v cs (suc n)
value_after-at v [] n d l = absurd (omega arith)
value_after-at v (c ∷ cs) zero d l = none c.value cs
  where
    none : (w : Logic) (cs : List Change) → w ≡ value_after w cs zero
    none w [] = refl
    none w (x ∷ cs) = refl
value_after-at v (c ∷ cs) (suc n) d l = value_after-at c.value cs n d (omega arith)

pub value_after-none : (v : Logic) (cs : List Change) → value_after v cs zero ≡ v
value_after-none v [] = refl
value_after-none v (c ∷ cs) = refl

-- the value after some changes is that of the last one
pub value_after-last : (v : Logic) (cs : List Change) (n : ℕ) (d : Change) → 0 < n → n ≤ length cs → (get_or cs (n - 1) d).value ≡ value_after v cs n
value_after-last v cs zero d p l = absurd (omega arith)
value_after-last v cs (suc n) d p l = let one : suc n - 1 ≡ n = omega arith in rw one (value_after-at v cs n d (omega arith))

-- seen or not, changes leave the same values
pub value_after-map : (lens : Lens) (v : Logic) (cs : List Change) (n : ℕ) → value_after v (map (seen_at lens) cs) n ≡ value_after v cs n
value_after-map lens v [] zero = refl
value_after-map lens v [] (suc n) = refl
value_after-map lens v (c ∷ cs) zero = refl
value_after-map lens v (c ∷ cs) (suc n) = value_after-map lens c.value cs n

-- the value at a time is that after the changes up to it
pub latest-count : (v : Logic) (cs : List Change) (t n : ℕ) → IsCount cs t n → latest v cs t ≡ value_after v cs n
unfolding latest
latest-count v [] t zero k = refl
latest-count v [] t (suc n) k = absurd (omega (arith, k.within))
latest-count v (c ∷ cs) t zero k = rw (le_false c.time t (k.after 0 c (omega arith) (omega arith))) (latest-count v cs t zero later ∙ value_after-none v cs)
  where
    later : IsCount cs t zero
    later = record { within = omega arith; before = λ i d l. absurd (omega arith); after = λ i d h l. k.after (suc i) d (omega arith) (omega arith) }
latest-count v (c ∷ cs) t (suc n) k = rw (le_true c.time t (k.before 0 c (omega arith))) (latest-count c.value cs t n rest)
  where
    rest : IsCount cs t n
    rest = record { within = omega (arith, k.within); before = λ i d l. k.before (suc i) d (omega arith); after = λ i d h l. k.after (suc i) d (omega arith) (omega arith) }

-- one change more has passed
pub passed-more : (cs : List Change) (t n : ℕ) → IsPassed cs t n → n < length cs → ((d : Change) → (get_or cs n d).time ≤ t) → IsPassed cs t (n + 1)
passed-more cs t n p l h = record { within = omega arith; before = λ i d m. by i d m (le_or_lt n i) }
  where
    le_or_lt : (n m : ℕ) → (n ≤ m) ⊎ (m < n)
    le_or_lt n m = grind arith

    by : (i : ℕ) (d : Change) → i < n + 1 → (n ≤ i) ⊎ (i < n) → (get_or cs i d).time ≤ t
    by i d m (inl a) = let same : i ≡ n = omega arith in rw same (h d)
    by i d m (inr b) = p.before i d b

-- the changes that have passed have passed later too
pub passed-later : (cs : List Change) (t u n : ℕ) → t ≤ u → IsPassed cs t n → IsPassed cs u n
passed-later cs t u n h p = record { within = p.within; before = λ i d l. (let a = p.before i d l in omega (arith, a)) }

-- no further change has passed
pub counts-all : (cs : List Change) (t n : ℕ) → AreMoments cs → IsPassed cs t n → (n < length cs → (d : Change) → t < (get_or cs n d).time) → IsCount cs t n
counts-all cs t n are p h = record { within = p.within; before = p.before; after = λ i d m l. by i d m l (le_or_lt i n) }
  where
    le_or_lt : (n m : ℕ) → (n ≤ m) ⊎ (m < n)
    le_or_lt n m = grind arith

    by : (i : ℕ) (d : Change) → n ≤ i → i < length cs → (i ≤ n) ⊎ (n < i) → t < (get_or cs i d).time
    by i d m l (inl a) = let same : i ≡ n = omega arith in rw same (h (omega arith) d)
    by i d m l (inr b) = let r = are.rising n i d b l in let s = h (omega arith) d in omega (arith, r, s)

-- where all changes are as late as they are seen
latest-seen : (lens : Lens) (v : Logic) (cs : List Change) (u t : ℕ) → ((i : ℕ) (d : Change) → i < length cs → nat_le (get_or cs i d).time u ≡ nat_le (seen_at lens (get_or cs i d)).time t)
    → latest v cs u ≡ latest v (map (seen_at lens) cs) t
unfolding latest
latest-seen lens v [] u t h = refl
latest-seen lens v (c ∷ cs) u t h = rw (h 0 c (omega arith)) (latest-seen lens (cond (nat_le (seen_at lens c).time t) c.value v) cs u t (λ i d l. h (suc i) d (omega arith)))

latest-append : (v : Logic) (xs ys : List Change) (t : ℕ) → latest v (xs ++ ys) t ≡ latest (latest v xs t) ys t
unfolding latest
latest-append v [] ys t = refl
latest-append v (x ∷ xs) ys t = latest-append (cond (nat_le x.time t) x.value v) xs ys t

-- the changes before a number, all of them over
latest-over : (v : Logic) (cs : List Change) (n t : ℕ) → n ≤ length cs → ((i : ℕ) (d : Change) → i < n → (get_or cs i d).time ≤ t) → latest v (take n cs) t ≡ value_after v cs n
unfolding latest
latest-over v [] zero t w h = refl
latest-over v [] (suc n) t w h = absurd (omega arith)
latest-over v (c ∷ cs) zero t w h = refl
latest-over v (c ∷ cs) (suc n) t w h = ap (λ b. latest (cond b c.value v) (take n cs) t) (le_true c.time t (h 0 c (omega arith))) ∙ latest-over c.value cs n t (omega arith) (λ i d l. h (suc i) d (omega arith))

-- none of them has begun
latest-none : (v : Logic) (cs : List Change) (t : ℕ) → ((i : ℕ) (d : Change) → i < length cs → t < (get_or cs i d).time) → latest v cs t ≡ v
unfolding latest
latest-none v [] t h = refl
latest-none v (c ∷ cs) t h = rw (le_false c.time t (h 0 c (omega arith))) (latest-none v cs t (λ i d l. h (suc i) d (omega arith)))

same_tests : (a b : Bool) → (a ≡ true → b ≡ true) → (b ≡ true → a ≡ true) → a ≡ b
same_tests true b f g = sym (f refl)
same_tests false true f g = g refl
same_tests false false f g = refl

-- what stands from a number on
pub whole-drop : (cs : List Change) (n : ℕ) → take (length cs - n) (drop n cs) ≡ drop n cs
whole-drop cs n = ap (λ k. take k (drop n cs)) (sym (length-drop n cs)) ∙ take-length (drop n cs)

module _ (lens : Lens) (cs : List Change) (rising : AreRising cs) (scaled : 0 < lens.scale) where
  -- later changes are seen later
  pub scaled-rising : (i j : ℕ) (d : Change) → i < j → j < length cs → (get_or cs i d).time * lens.scale < (get_or cs j d).time * lens.scale
  scaled-rising i j d h l =
      let r = rising i j d h l in
      let m : ((get_or cs i d).time + 1) * lens.scale ≤ (get_or cs j d).time * lens.scale = mul-le-mul_right lens.scale (omega (arith, r)) in
      let e : ((get_or cs i d).time + 1) * lens.scale ≡ (get_or cs i d).time * lens.scale + lens.scale = omega arith in
      omega (arith, m, e, scaled)

  -- as many are gone as the first that isn't
  pub gone-after : (n i : ℕ) (d e : Change) → n ≤ i → i < length cs → is_gone lens (get_or cs n e).time ≡ false → is_gone lens (get_or cs i d).time ≡ false
  gone-after n i d e h l first = by (le_or_lt i n)
    where
      le_or_lt : (n m : ℕ) → (n ≤ m) ⊎ (m < n)
      le_or_lt n m = grind arith

      here : is_gone lens (get_or cs n d).time ≡ false
      here = rw (get_or_default cs n d e (omega arith)) first

      by : (i ≤ n) ⊎ (n < i) → is_gone lens (get_or cs i d).time ≡ false
      by (inl few) = let same : n ≡ i = omega arith in rw (← same) here
      by (inr more) = le_false _ _ (let a : lens.later < (get_or cs n d).time * lens.scale + lens.earlier = le_not _ _ here in omega (arith, a, scaled-rising n i d more l))

-- What a bit shows, once the changes before a number are gone.
module _ (lens : Lens) (cs : List Change) (n : ℕ) (rising : AreRising cs) (scaled : 0 < lens.scale) (within : n ≤ length cs)
    (gone : (i : ℕ) (d : Change) → i < n → is_gone lens (get_or cs i d).time ≡ true) (seen : (i : ℕ) (d : Change) → n ≤ i → i < length cs → is_gone lens (get_or cs i d).time ≡ false) where
  abbrev ms : List Change
  ms = map (seen_at lens) (drop n cs)

  left : (i : ℕ) → i < length ms → n + i < length cs
  left i l = omega (arith, l, length-map (drop n cs) (seen_at lens), length-drop n cs)

  front : (i : ℕ) → i < length ms → i < length (drop n cs)
  front i l = omega (arith, l, length-map (drop n cs) (seen_at lens))

  moment : (i : ℕ) (d : Change) → i < length ms → get_or ms i d ≡ seen_at lens (get_or cs (n + i) d)
  moment i d l = get_or-map (seen_at lens) (drop n cs) i d d (front i l) ∙ ap (seen_at lens) (get_or-drop n cs i d)

  pub seen-later : (i : ℕ) (d : Change) → i < length (drop n cs) → lens.later < (get_or (drop n cs) i d).time * lens.scale + lens.earlier
  seen-later i d l = rw (get_or-drop n cs i d) (le_not _ _ (seen (n + i) d (omega arith) (omega (arith, l, length-drop n cs))))

  at_later : (i : ℕ) (d : Change) → i < length ms → lens.later < (get_or cs (n + i) d).time * lens.scale + lens.earlier
  at_later i d l = le_not _ _ (seen (n + i) d (omega arith) (left i l))

  pub seen-moments : AreMoments ms
  seen-moments = record {
    positive = λ i d l. (let a = at_later i d l in rw (moment i d l) (omega (arith, a)));
    rising = λ i j d h l. (let li : i < length ms = omega arith in let a = at_later i d li in let b = at_later j d l in let r = scaled-rising lens cs rising scaled (n + i) (n + j) d (omega arith) (left j l) in
        rw (moment i d li, moment j d l) (omega (arith, a, b, r)));
  }

  -- where the time that is looked at is before 0
  none_gone : lens.later < lens.earlier → n ≡ 0
  none_gone h = by (zero_or n)
    where
      zero_or : (m : ℕ) → (m ≡ 0) ⊎ (0 < m)
      zero_or m = grind arith

      by : (n ≡ 0) ⊎ (0 < n) → n ≡ 0
      by (inl e) = e
      by (inr pos) = absurd (let c : Change = record { time = 0; value = X } in let a = le_is _ _ (gone 0 c pos) in omega (arith, a))

  early : (t : ℕ) → t + lens.later < lens.earlier → latest (value_after X cs n) ms t ≡ X
  early t h =
      latest-none (value_after X cs n) ms t (λ i d l. (let a = at_later i d l in rw (moment i d l) (omega (arith, a))))
      ∙ ap (value_after X cs) (none_gone (omega arith)) ∙ value_after-none X cs

  -- the time that is looked at
  abbrev looked : ℕ → ℕ
  looked t = (t + lens.later - lens.earlier) / lens.scale

  pub seen-values : (t : ℕ) → latest (value_after X cs n) ms t ≡ value_through lens cs t
  seen-values t = go (nat_lt (t + lens.later) lens.earlier) refl
    where
      reached : (time : ℕ) → lens.earlier ≤ t + lens.later → time * lens.scale + lens.earlier ≤ t + lens.later → time ≤ (looked t)
      reached time e h = (le-div_iff_mul-le scaled).1 (omega arith)

      reaches : (time : ℕ) → lens.earlier ≤ t + lens.later → time ≤ (looked t) → time * lens.scale + lens.earlier ≤ t + lens.later
      reaches time e h = let m = (le-div_iff_mul-le scaled).0 h in omega (arith, m)

      alike : lens.earlier ≤ t + lens.later → (i : ℕ) (d : Change) → i < length (drop n cs) → nat_le (get_or (drop n cs) i d).time (looked t) ≡ nat_le (seen_at lens (get_or (drop n cs) i d)).time t
      alike e i d l =
          let a = seen-later i d l in
          same_tests _ _ (λ h. le_true _ _ (let b = reaches (get_or (drop n cs) i d).time e (le_is _ _ h) in omega (arith, a, b))) (λ h. le_true _ _ (reached (get_or (drop n cs) i d).time e (let b = le_is _ _ h in omega (arith, a, b))))

      over : lens.earlier ≤ t + lens.later → (i : ℕ) (d : Change) → i < n → (get_or cs i d).time ≤ (looked t)
      over e i d l = reached (get_or cs i d).time e (let a = le_is _ _ (gone i d l) in omega (arith, a))

      go : (b : Bool) → nat_lt (t + lens.later) lens.earlier ≡ b → latest (value_after X cs n) ms t ≡ cond b X (latest X cs (looked t))
      go true h = early t (let a : t + lens.later < lens.earlier = grind (arith, nat_tests, h) in a)
      go false h =
          let e : lens.earlier ≤ t + lens.later = grind (arith, nat_tests, h) in
          sym (latest-seen lens (value_after X cs n) (drop n cs) (looked t) t (alike e))
          ∙ ap (λ v. latest v (drop n cs) (looked t)) (sym (latest-over X cs n (looked t) within (over e)))
          ∙ sym (latest-append X (take n cs) (drop n cs) (looked t)) ∙ ap (λ xs. latest X xs (looked t)) (take-append-drop n cs)

  -- what is kept of a bit is what it shows
  pub seen-shown : (s : Shown) → s.changes.now ≡ drop n cs → lens_of s ≡ lens → IsSmall lens cs → IsShown s
  seen-shown s e same small = record {
    small = subst (λ (xs : List Change). IsSmall (lens_of s) xs) (sym e) (subst (λ (l : Lens). IsSmall l (drop n cs)) (sym same) (record { scale = small.scale; earlier = small.earlier; later = small.later; times = times }));
    moments = subst (λ (xs : List Change). AreMoments (map (seen_at (lens_of s)) xs)) (sym e) (subst (λ (l : Lens). AreMoments (map (seen_at l) (drop n cs))) (sym same) seen-moments);
    after = subst (λ (xs : List Change). (i : ℕ) (d : Change) → i < length xs → (lens_of s).later < (get_or xs i d).time * (lens_of s).scale + (lens_of s).earlier) (sym e) (subst (λ (l : Lens). (i : ℕ) (d : Change) → i < length (drop n cs) → l.later < (get_or (drop n cs) i d).time * l.scale + l.earlier) (sym same) seen-later);
  }
    where
      times : (i : ℕ) (d : Change) → i < length (drop n cs) → (get_or (drop n cs) i d).time < 2 ^ 60
      times i d l = rw (get_or-drop n cs i d) (small.times (n + i) d (omega (arith, l, length-drop n cs)))

  pub shown-values : (first : Logic) (xs : List Change) → xs ≡ drop n cs → first ≡ value_after X cs n → (t : ℕ) → latest first (map (seen_at lens) xs) t ≡ value_through lens cs t
  shown-values first xs e f t = ap (λ (ys : List Change). latest first (map (seen_at lens) ys) t) e ∙ ap (λ (v : Logic). latest v (map (seen_at lens) (drop n cs)) t) f ∙ seen-values t

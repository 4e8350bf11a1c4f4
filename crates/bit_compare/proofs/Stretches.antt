-- The stretches of a bit: what a cursor knows of the times near its own.
use Rattle.std.proofs.Common.{◌≡◌, ◌⊎◌, inl, inr, ℕ, zero, suc, ◌+◌, ◌-◌, ◌<◌, ◌≤◌, Bool, true, false, List, [], ◌∷◌, length, get_or, Option, Some, None, if◌then◌else◌, refl, ap, sym, ◌∙◌, subst, arith}
use Rattle.std.proofs.lemmas.List.{get_or_default}
use Rattle.std.proofs.lemmas.Option.{same_Some}
use Rattle.gate_values.specs.declared.logic.Logic.{Logic}
use Rattle.gate_values.specs.declared.logic.Logic.TheVariants as logic
use Rattle.gate_values.specs.declared.logic.Change.{Change}
use Rattle.gate_values.specs.Changes.{latest, same}
use Rattle.gate_values.proofs.ChangeLists.{same_is}
use Rattle.bit_compare.specs.declared.cursor.Cursor.{Cursor}
use Rattle.bit_compare.specs.Agreement.{IsAmong}
use Rattle.bit_compare.specs.Inner.Moments.{IsCount}
use Rattle.bit_compare.specs.Shown.Moments.{AreMoments, never, value_after}
use Rattle.bit_compare.specs.Inner.Cursors.{Holds, IsAt, IsNearUntil, IsReady, IsRecent, bit_of, recent_of, seen_by}
use Rattle.bit_compare.proofs.Moments.{latest-count, value_after-none}

le_or_lt : (n m : ℕ) → (n ≤ m) ⊎ (m < n)
le_or_lt n m = grind arith

-- some number of changes has passed at each time
record Counted (cs : List Change) (t : ℕ) : Type 0 where
  number : ℕ
  is : IsCount cs t number

counted : (cs : List Change) (t : ℕ) → ((i j : ℕ) (d : Change) → i < j → j < length cs → (get_or cs i d).time < (get_or cs j d).time) → Counted cs t
counted [] t r = record { number = 0; is = record { within = omega arith; before = λ i d l. absurd (omega arith); after = λ i d h l. absurd (omega arith) } }
counted (c ∷ cs) t r = by (le_or_lt c.time t) (counted cs t (λ i j d h l. r (suc i) (suc j) d (omega arith) (omega arith)))
  where
    all_later : t < c.time → (i : ℕ) (d : Change) → 0 ≤ i → i < length (c ∷ cs) → t < (get_or (c ∷ cs) i d).time
    all_later h zero d z l = h
    all_later h (suc i) d z l = let a : c.time < (get_or cs i d).time = r 0 (suc i) d (omega arith) l in omega (arith, a)

    all_before : c.time ≤ t → (k : Counted cs t) → (i : ℕ) (d : Change) → i < suc k.number → (get_or (c ∷ cs) i d).time ≤ t
    all_before h k zero d l = h
    all_before h k (suc i) d l = k.is.before i d (omega arith)

    others : (k : Counted cs t) → (i : ℕ) (d : Change) → suc k.number ≤ i → i < length (c ∷ cs) → t < (get_or (c ∷ cs) i d).time
    others k zero d z l = absurd (omega arith)
    others k (suc i) d z l = k.is.after i d (omega arith) (omega arith)

    by : (c.time ≤ t) ⊎ (t < c.time) → Counted cs t → Counted (c ∷ cs) t
    by (inl h) k = record { number = suc k.number; is = record { within = omega (arith, k.is.within); before = all_before h k; after = others k } }
    by (inr h) k = record { number = 0; is = record { within = omega arith; before = λ i d l. absurd (omega arith); after = all_later h } }

abbrev pub no_change : Change
no_change = record { time = 0; value = logic.X }

-- when a stretch begins
abbrev begin : List Change → ℕ → ℕ
begin cs zero = 0
begin cs (suc k) = (get_or cs k no_change).time

module _ (cs : List Change) (are : AreMoments cs) where
  -- a time in a stretch
  in_stretch : (k s : ℕ) → k ≤ length cs → begin cs k ≤ s → ((d : Change) → k < length cs → s < (get_or cs k d).time) → IsCount cs s k
  in_stretch k s w b e = record { within = w; before = λ i d l. early k b w i d l; after = λ i d h l. late i d h l (le_or_lt i k) }
    where
      reach : (k i : ℕ) (d : Change) → begin cs (suc k) ≤ s → suc k ≤ length cs → i < suc k → (k ≤ i) ⊎ (i < k) → (get_or cs i d).time ≤ s
      reach k i d b w l (inl m) = let same : i ≡ k = omega arith in rw (same, get_or_default cs k d no_change (omega arith)) b
      reach k i d b w l (inr m) = let a = are.rising i k d m (omega arith) in let e = get_or_default cs k d no_change (omega arith) in omega (arith, rw e at a, b)

      early : (k : ℕ) → begin cs k ≤ s → k ≤ length cs → (i : ℕ) (d : Change) → i < k → (get_or cs i d).time ≤ s
      early zero b w i d l = absurd (omega arith)
      early (suc k) b w i d l = reach k i d b w l (le_or_lt k i)

      late : (i : ℕ) (d : Change) → k ≤ i → i < length cs → (i ≤ k) ⊎ (k < i) → s < (get_or cs i d).time
      late i d h l (inl m) = let same : k ≡ i = omega arith in rw (← same) (e d (omega arith))
      late i d h l (inr m) = let a = are.rising k i d m l in let b = e d (omega arith) in omega (arith, a, b)

-- no stretch with the value up to a number ends later than the last one that is known
module _ (first : Logic) (cs : List Change) (are : AreMoments cs) where
  -- where a bit has a value near a time, its last stretch is known
  known-last : (near t : ℕ) (v : Logic) (o : Option ℕ) → IsCount cs t near → IsRecent first cs near v o → (s : ℕ) → s ≤ t → latest first cs s ≡ v → (n : ℕ) × (k : ℕ) × IsCount cs s n × (o ≡ Some k) × (n ≤ k)
  known-last near t v o at recent s h e =
      let found = counted cs s are.rising in
      let few : found.number ≤ near = up_to found (le_or_lt found.number near) in
      let (k, is, l) = recent.last found.number few (sym (latest-count first cs s found.number found.is) ∙ e) in
      (found.number, k, found.is, is, l)
    where
      up_to : (f : Counted cs s) → (f.number ≤ near) ⊎ (near < f.number) → f.number ≤ near
      up_to f (inl m) = m
      up_to f (inr m) = let a = f.is.before near no_change m in let b = at.after near no_change (omega arith) (omega (arith, f.is.within)) in absurd (omega (arith, a, b, h))

  -- a further change that has passed
  pub recent-more : (near : ℕ) (v w : Logic) (old new : Option ℕ) → near < length cs → value_after first cs (near + 1) ≡ w → new ≡ (if same v w then Some (near + 1) else old) → IsRecent first cs near v old → IsRecent first cs (near + 1) v new
  recent-more near v w old new l is e recent = go (same v w) refl
    where
      go : (b : Bool) → same v w ≡ b → IsRecent first cs (near + 1) v new
      go true t =
          let now : new ≡ Some (near + 1) = e ∙ rw t refl in
          record {
            stands = λ k s. (let one : near + 1 ≡ k = same_Some (near + 1) k (sym now ∙ s) in (omega arith, ap (value_after first cs) (sym one) ∙ is ∙ sym (same_is v w t)));
            last = λ j m h. (near + 1, now, m);
          }
      go false t =
          let now : new ≡ old = e ∙ rw t refl in
          record {
            stands = λ k s. (let (m, h) = recent.stands k (sym now ∙ s) in (omega (arith, m), h));
            last = λ j m h. up_to j m h (le_or_lt j near);
          }
        where
          same_self : (x : Logic) → same x x ≡ true
          same_self logic.Zero = refl
          same_self logic.One = refl
          same_self logic.X = refl
          same_self logic.Z = refl

          up_to : (j : ℕ) → j ≤ near + 1 → value_after first cs j ≡ v → (j ≤ near) ⊎ (near < j) → (k : ℕ) × (new ≡ Some k) × (j ≤ k)
          up_to j m h (inl b) = let (k, s, r) = recent.last j b h in (k, e ∙ rw t s, r)
          up_to j m h (inr b) =
              let one : j ≡ near + 1 = omega arith in
              let both : v ≡ w = sym h ∙ ap (value_after first cs) one ∙ is in
              let bad : true ≡ false = sym (same_self v) ∙ ap (same v) both ∙ t in
              absurd (cc)

-- before anything was seen, one stretch is known
pub recent-first : (first : Logic) (cs : List Change) (v : Logic) (new : Option ℕ) → new ≡ (if same v first then Some 0 else None) → IsRecent first cs 0 v new
recent-first first cs v new e = go (same v first) refl
  where
    go : (b : Bool) → same v first ≡ b → IsRecent first cs 0 v new
    go true t = record { stands = λ k s. (let one : 0 ≡ k = same_Some 0 k (sym (e ∙ rw t refl) ∙ s) in (omega arith, ap (value_after first cs) (sym one) ∙ value_after-none first cs ∙ sym (same_is v first t))); last = λ j m h. (0, e ∙ rw t refl, m) }
    go false t = record {
      stands = λ k s. (let bad : None ≡ Some k = sym (e ∙ rw t refl) ∙ s in absurd (cc));
      last = λ j m h. (let zero_is : j ≡ 0 = omega arith in let both : v ≡ first = sym h ∙ ap (value_after first cs) zero_is ∙ value_after-none first cs in absurd (differ v first t both));
    }
      where
        differ : (v w : Logic) → same v w ≡ false → v ≡ w → ⊥
        differ v w t e = self w (sym (ap (λ x. same x w) e) ∙ t)
          where
            self : (x : Logic) → same x x ≡ false → ⊥
            self logic.Zero h = cc
            self logic.One h = cc
            self logic.X h = cc
            self logic.Z h = cc

module _ (c : Cursor) (at : IsAt c) (are : AreMoments (seen_by c)) where
  abbrev value_there : ℕ → Logic
  value_there k = value_after c.shown.now.first (seen_by c) k

  pub value-now : value_there c.passed ≡ bit_of c c.time
  value-now = sym (latest-count c.shown.now.first (seen_by c) c.time c.passed at.passed)

  -- the value at its time stays to the end of its stretch
  pub holds-until : (end : ℕ) → (c.passed < length (seen_by c) → end ≡ (get_or (seen_by c) c.passed no_change).time) → (length (seen_by c) ≤ c.passed → end ≡ never) → Holds c end
  holds-until end within over = record { later = later (le_or_lt (length (seen_by c)) c.passed); same = λ t a b. latest-count c.shown.now.first (seen_by c) t c.passed (still t a b) ∙ value-now }
    where
      later : (length (seen_by c) ≤ c.passed) ⊎ (c.passed < length (seen_by c)) → c.time < end
      later (inl m) = let e = over m in omega (arith, e, at.small)
      later (inr m) = let e = within m in let a = at.passed.after c.passed no_change (omega arith) m in omega (arith, e, a)

      still : (t : ℕ) → c.time ≤ t → t < end → IsCount (seen_by c) t c.passed
      still t a b = record {
        within = at.passed.within;
        before = λ i d l. (let e = at.passed.before i d l in omega (arith, e));
        after = λ i d h l. by i d h l (le_or_lt i c.passed);
      }
        where
          by : (i : ℕ) (d : Change) → c.passed ≤ i → i < length (seen_by c) → (i ≤ c.passed) ⊎ (c.passed < i) → t < (get_or (seen_by c) i d).time
          by i d h l (inl m) = let one : i ≡ c.passed = omega arith in let e = within (omega arith) in rw (one, get_or_default (seen_by c) c.passed d no_change (omega arith)) (omega (arith, e))
          by i d h l (inr m) =
              let e = within (omega arith) in let r = are.rising c.passed i d m l in let s = get_or_default (seen_by c) c.passed d no_change (omega arith) in
              omega (arith, e, rw s at r)

  -- a stretch that has begun by the last time near is near up to its end and so much longer
  module _ (v : Logic) (k : ℕ) (is : recent_of c.recent v ≡ Some k) (end : ℕ) (within : k < length (seen_by c) → end ≡ (get_or (seen_by c) k no_change).time + c.within) (over : length (seen_by c) ≤ k → end ≡ never) where
    few : k ≤ c.near
    few = ((at.recent v).stands k is).0

    stands : value_there k ≡ v
    stands = ((at.recent v).stands k is).1

    begun : begin (seen_by c) k ≤ c.time + c.within
    begun = by k few
      where
        by : (n : ℕ) → n ≤ c.near → begin (seen_by c) n ≤ c.time + c.within
        by zero h = omega arith
        by (suc n) h = at.near.before n no_change (omega arith)

    -- it begins before its end
    forward : (d : Change) → k < length (seen_by c) → begin (seen_by c) k < (get_or (seen_by c) k d).time
    forward d l = by k l
      where
        by : (n : ℕ) → n < length (seen_by c) → begin (seen_by c) n < (get_or (seen_by c) n d).time
        by zero h = are.positive 0 d h
        by (suc n) h = subst (λ (x : Change). begin (seen_by c) (suc n) < x.time) (get_or_default (seen_by c) (suc n) no_change d h) (are.rising n (suc n) no_change (omega arith) h)

    upper : (t : ℕ) → t < end → (d : Change) → k < length (seen_by c) → t - c.within < (get_or (seen_by c) k d).time
    upper t b d l = let e = within l in let s = get_or_default (seen_by c) k d no_change l in let f = forward d l in rw s (omega (arith, e, rw s at f))

    pub near-among : (t : ℕ) → c.time ≤ t → t < end → IsAmong c.within v (bit_of c) t
    near-among t a b = by (le_or_lt (begin (seen_by c) k) (t - c.within))
      where
        there : (s : ℕ) → begin (seen_by c) k ≤ s → ((d : Change) → k < length (seen_by c) → s < (get_or (seen_by c) k d).time) → bit_of c s ≡ v
        there s x y = latest-count c.shown.now.first (seen_by c) s k (in_stretch (seen_by c) are k s (omega (arith, few, at.near.within)) x y) ∙ stands

        by : (begin (seen_by c) k ≤ t - c.within) ⊎ (t - c.within < begin (seen_by c) k) → IsAmong c.within v (bit_of c) t
        by (inl m) = (t - c.within, (omega arith, omega arith), there (t - c.within) m (upper t b))
        by (inr m) = (begin (seen_by c) k, (omega (arith, begun), omega arith), there (begin (seen_by c) k) (omega arith) forward)

    pub near-none : end ≤ c.time → ¬ IsAmong c.within v (bit_of c) c.time
    near-none h (s, near, e) =
        let (n, j, count, found, l) = known-last c.shown.now.first (seen_by c) are c.near (c.time + c.within) v (recent_of c.recent v) at.near (at.recent v) s near.0 e in
        let one : k ≡ j = same_Some k j (sym is ∙ found) in
        by n count (omega arith) (le_or_lt (length (seen_by c)) k)
      where
        by : (n : ℕ) → IsCount (seen_by c) s n → n ≤ k → (length (seen_by c) ≤ k) ⊎ (k < length (seen_by c)) → ⊥
        by n count l (inl m) = let o = over m in omega (arith, o, at.small)
        by n count l (inr m) = let w = within m in let a = count.after k no_change l m in omega (arith, w, a, near.1)

  pub near-until : (v : Logic) (k : ℕ) → recent_of c.recent v ≡ Some k → (end : ℕ) → (k < length (seen_by c) → end ≡ (get_or (seen_by c) k no_change).time + c.within) → (length (seen_by c) ≤ k → end ≡ never) → IsNearUntil c v end
  near-until v k is end within over = record { among = near-among v k is end within over; none = near-none v k is end within over }

  pub near-never : (v : Logic) → recent_of c.recent v ≡ None → IsNearUntil c v 0
  near-never v is = record { among = λ t a b. absurd (omega arith); none = λ h. no }
    where
      no : ¬ IsAmong c.within v (bit_of c) c.time
      no (s, near, e) =
          let (n, j, count, found, l) = known-last c.shown.now.first (seen_by c) are c.near (c.time + c.within) v (recent_of c.recent v) at.near (at.recent v) s near.0 e in
          let bad : None ≡ Some j = sym is ∙ found in
          absurd (cc)

-- a cursor that has seen all is ready to go on
pub at-ready : (c : Cursor) → IsAt c → IsReady c
at-ready c at = record {
  shown = at.shown;
  small = at.small;
  passed = record { within = at.passed.within; before = at.passed.before };
  near = record { within = at.near.within; before = at.near.before };
  recent = at.recent;
}

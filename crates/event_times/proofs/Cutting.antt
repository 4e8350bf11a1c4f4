-- How times are put behind others, and taken off at both ends.
use Rattle.std.proofs.Common.{◌≡◌, ◌∙◌, ℕ, zero, suc, ◌+◌, ◌-◌, ◌*◌, ◌<◌, ◌≤◌, ◌⊎◌, inl, inr, true, false, List, [], ◌∷◌, ◌++◌, length, take, drop, get_or, refl, ap, sym, subst, arith, nat_lt}
use Rattle.std.specs.List.{All, AllByRecursion, filter}
use Rattle.std.proofs.lemmas.Grind.{common_steps}
use Rattle.std.proofs.lemmas.List.{take-append-drop, append-nil, length-drop, get_or-drop, get_or_default}
use Rattle.std.proofs.lemmas.List.Elements.{All-head, All-tail, filter-append}
use Rattle.event_times.specs.declared.times.TheConstants.{SAVE_EVERY}
use Rattle.event_times.specs.Marks.{Played, IsRising, IsKept, mark_after}

pub rising_push : (low time : ℕ) (ts : List ℕ) → IsRising low ts → low ≤ time → All (λ t. t < time) ts → IsRising low (ts ++ time ∷ [])
rising_push low time [] r l all = (l, tt)
rising_push low time (t ∷ ts) r l all = let P : ℕ → Type 0 = λ s. s < time in (r.0, rising_push (suc t) time ts r.1 (let h : t < time = All-head P t ts all in omega arith) (All-tail P t ts all))

pub rising_take : (low n : ℕ) (ts : List ℕ) → IsRising low ts → IsRising low (take n ts)
rising_take low zero ts r = tt
rising_take low (suc n) [] r = tt
rising_take low (suc n) (t ∷ ts) r = (r.0, rising_take (suc t) n ts r.1)

rising_lower : (low low' : ℕ) (ts : List ℕ) → low' ≤ low → IsRising low ts → IsRising low' ts
rising_lower low low' [] l r = tt
rising_lower low low' (t ∷ ts) l r = (omega (arith, r.0), r.1)

pub rising_drop : (low n : ℕ) (ts : List ℕ) → IsRising low ts → IsRising low (drop n ts)
rising_drop low zero ts r = r
rising_drop low (suc n) [] r = tt
rising_drop low (suc n) (t ∷ ts) r = rising_drop low n ts (rising_lower (suc t) low ts (omega (arith, r.0)) r.1)

test_yes : (t time : ℕ) → t < time → nat_lt t time ≡ true
test_yes t time l = grind (arith, common_steps)

test_no : (t time : ℕ) → time ≤ t → nat_lt t time ≡ false
test_no t time l = grind (arith, common_steps)

rising_at : (low n : ℕ) (ts : List ℕ) → IsRising low ts → n < length ts → low ≤ get_or ts n 0
rising_at low n [] r l = absurd (omega arith)
rising_at low zero (t ∷ ts) r l = r.0
rising_at low (suc n) (t ∷ ts) r l = omega (arith, r.0, rising_at (suc t) n ts r.1 (omega arith))

-- where the last of the first few is before a time, all of them are
front_passes : (low n time : ℕ) (ts : List ℕ) → IsRising low ts → n < length ts → get_or ts n 0 < time → filter (λ t. nat_lt t time) (take (suc n) ts) ≡ take (suc n) ts
front_passes low n time [] r l h = absurd (omega arith)
front_passes low zero time (t ∷ ts) r l h = rw (test_yes t time h) refl
front_passes low (suc n) time (t ∷ ts) r l h =
    let first : t < time = omega (arith, rising_at (suc t) n ts r.1 (omega arith)) in
    rw (test_yes t time first) (ap (λ (xs : List ℕ). t ∷ xs) (front_passes (suc t) n time ts r.1 (omega arith) h))

-- none of the last few is
back_fails : (time : ℕ) (ts : List ℕ) → AllByRecursion (λ t. time ≤ t) ts → filter (λ t. nat_lt t time) ts ≡ []
back_fails time [] all = refl
back_fails time (t ∷ ts) all = rw (test_no t time all.0) (back_fails time ts all.1)

-- one more of the last
pub back_more : (time left : ℕ) (ts : List ℕ) (d : ℕ) → 0 < left → left ≤ length ts → time ≤ get_or ts (left - 1) d → AllByRecursion (λ t. time ≤ t) (drop left ts) → AllByRecursion (λ t. time ≤ t) (drop (left - 1) ts)
back_more time left ts d some l h all =
    let e : left ≡ suc (left - 1) = omega arith in
    go (left - 1) ts (omega arith) h (subst (λ (n : ℕ). AllByRecursion (λ (t : ℕ). time ≤ t) (drop n ts)) e all)
  where
    go : (n : ℕ) (ts : List ℕ) → n < length ts → time ≤ get_or ts n d → AllByRecursion (λ t. time ≤ t) (drop (suc n) ts) → AllByRecursion (λ t. time ≤ t) (drop n ts)
    go n [] l h all = absurd (omega arith)
    go zero (t ∷ ts) l h all = (h, all)
    go (suc n) (t ∷ ts) l h all = go n ts (omega arith) h all

-- those before a time are the first few
pub cut_is : (left time : ℕ) (ts : List ℕ) → IsRising 0 ts → left ≤ length ts → AllByRecursion (λ t. time ≤ t) (drop left ts) → (0 < left → get_or ts (left - 1) 0 < time) → take left ts ≡ filter (λ t. nat_lt t time) ts
cut_is left time ts r l late last =
    sym (ap (filter (λ (t : ℕ). nat_lt t time)) (sym (take-append-drop left ts))
    ∙ filter-append (λ (t : ℕ). nat_lt t time) (take left ts) (drop left ts)
    ∙ ap (λ (xs : List ℕ). filter (λ (t : ℕ). nat_lt t time) (take left ts) ++ xs) (back_fails time (drop left ts) late)
    ∙ append-nil (filter (λ (t : ℕ). nat_lt t time) (take left ts))
    ∙ front (none_or left))
  where
    none_or : (n : ℕ) → (n ≡ 0) ⊎ (0 < n)
    none_or n = grind arith

    front : (left ≡ 0) ⊎ (0 < left) → filter (λ t. nat_lt t time) (take left ts) ≡ take left ts
    front (inl none) = rw none refl
    front (inr some) =
        let e : suc (left - 1) ≡ left = omega arith in
        subst (λ (n : ℕ). filter (λ (t : ℕ). nat_lt t time) (take n ts) ≡ take n ts) e (front_passes 0 (left - 1) time ts r (omega arith) (last some))

-- ---- saved states that go

-- so many times of so many saved states go, of which the last is up to the floor
pub record IsOnWay (floor gone first : ℕ) (old : Played) : Type 0 where
  pub states : ℕ
  pub all : gone ≡ states * SAVE_EVERY
  pub there : gone ≤ length old.times
  pub mark : first ≡ mark_after states old
  pub low : 0 < states → first ≤ floor

pub way_begins : (floor : ℕ) (old : Played) → IsOnWay floor 0 old.first old
way_begins floor old = record { states = 0; all = refl; there = omega arith; mark = refl; low = λ l. absurd (omega arith) }

next_is : (n : ℕ) → n + 1 ≡ suc n
next_is n = omega arith

pub way_on : (floor gone first last : ℕ) (old : Played) → IsOnWay floor gone first old → SAVE_EVERY ≤ length old.times - gone → last ≡ get_or old.times (gone + SAVE_EVERY - 1) last → last < floor → IsOnWay floor (gone + SAVE_EVERY) (last + 1) old
way_on floor gone first last old way some is low =
    let e : gone ≡ way.states * SAVE_EVERY = way.all in
    let at : gone + SAVE_EVERY - 1 ≡ way.states * SAVE_EVERY + (SAVE_EVERY - 1) = omega (arith, e) in
    let within : way.states * SAVE_EVERY + (SAVE_EVERY - 1) < length old.times = omega (arith, e, way.there) in
    record {
      states = suc way.states;
      all = omega (arith, e);
      there = omega (arith, way.there);
      mark = next_is last ∙ ap suc (is ∙ ap (λ (n : ℕ). get_or old.times n last) at ∙ get_or_default old.times (way.states * SAVE_EVERY + (SAVE_EVERY - 1)) last 0 within);
      low = λ l. omega arith;
    }

pub way_ends : (floor gone first : ℕ) (old new : Played) → IsOnWay floor gone first old → (SAVE_EVERY ≤ length old.times - gone → floor ≤ get_or old.times (gone + SAVE_EVERY - 1) 0) → new ≡ record { first = first; times = drop gone old.times } → IsKept floor old new
way_ends floor gone first old new way newest e =
    let times : new.times ≡ drop gone old.times = ap (λ (p : Played). p.times) e in
    let many : length new.times ≡ length old.times - gone = ap length times ∙ length-drop gone old.times in
    let at : gone + (SAVE_EVERY - 1) ≡ gone + SAVE_EVERY - 1 = omega arith in
    record {
      states = way.states;
      there = omega (arith, way.all, way.there);
      first = ap (λ (p : Played). p.first) e ∙ way.mark;
      times = times ∙ ap (λ (n : ℕ). drop n old.times) way.all;
      low = λ l. subst (λ (n : ℕ). n ≤ floor) (sym (ap (λ (p : Played). p.first) e)) (way.low l);
      newest = λ l.
          subst (λ (n : ℕ). floor ≤ n) (sym (ap (λ (ts : List ℕ). get_or ts (SAVE_EVERY - 1) 0) times ∙ get_or-drop gone old.times (SAVE_EVERY - 1) 0 ∙ ap (λ (n : ℕ). get_or old.times n 0) at))
          (newest (omega (arith, many)));
    }

-- Lists of the times that pass a test.
use Rattle.std.proofs.Common.{◌≡◌, ℕ, zero, suc, Bool, true, false, ◌+◌, ◌-◌, ◌*◌, ◌<◌, ◌≤◌, ◌++◌, nat_lt, List, [], ◌∷◌, length, drop, get_or, All, inl, inr, refl, ap, sym, ◌∙◌, arith}
use Rattle.std.specs.List.{filter}
use Rattle.std.proofs.lemmas.Bool.{cases_lt, true≢false}
use Rattle.std.proofs.lemmas.Grind.{common_steps}
use Rattle.std.proofs.lemmas.List.Elements.{All-nil, All-cons}
use Rattle.event_times.specs.Marks.{Played, AreTimes, counted, later_marks, mark_after}
use Rattle.warp_process.proofs.SavingTimes.{times-split, times-none, times-one}
use Rattle.event_times.specs.declared.times.TheConstants.{SAVE_EVERY}
use Rattle.warp_block.specs.Inner.Held.{IsSparse}

test_yes : (t time : ℕ) → t < time → nat_lt t time ≡ true
test_yes t time l = grind (arith, common_steps)

test_no : (t time : ℕ) → time ≤ t → nat_lt t time ≡ false
test_no t time l = grind (arith, common_steps)

pub times_end : (busy : ℕ → Bool) (from end : ℕ) (ts : List ℕ) → AreTimes busy from end ts → from ≤ end
times_end busy from end [] h = h.0
times_end busy from end (t ∷ ts) h =
    let rest : suc t ≤ end = times_end busy (suc t) end ts h.3 in
    let low = h.0 in
    omega (arith, rest, low)

-- each is before the end
pub times_below : (busy : ℕ → Bool) (from end : ℕ) (ts : List ℕ) → AreTimes busy from end ts → All (λ t. t < end) ts
times_below busy from end [] h = All-nil (λ t. t < end)
times_below busy from end (t ∷ ts) h =
    let rest : suc t ≤ end = times_end busy (suc t) end ts h.3 in
    All-cons (λ s. s < end) t ts (omega (arith, rest)) (times_below busy (suc t) end ts h.3)

-- the end moves on over times that don't pass
pub times_on : (busy : ℕ → Bool) (from end later : ℕ) (ts : List ℕ) → AreTimes busy from end ts → end ≤ later → ((t : ℕ) → end ≤ t → t < later → busy t ≡ false) → AreTimes busy from later ts
times_on busy from end later [] h on none = (
  (let low = h.0 in omega (arith, low, on)),
  λ t a b. elim (cases_lt t end) [ inl before ↦ h.1 t a before | inr since ↦ none t since b ],
)
times_on busy from end later (t ∷ ts) h on none = (h.0, h.1, h.2, times_on busy (suc t) end later ts h.3 on none)

-- one more
pub times_push : (busy : ℕ → Bool) (from end time : ℕ) (ts : List ℕ) → AreTimes busy from end ts → end ≤ time → ((t : ℕ) → end ≤ t → t < time → busy t ≡ false) → busy time ≡ true → AreTimes busy from (suc time) (ts ++ time ∷ [])
times_push busy from end time [] h on none now = (
  (let low = h.0 in omega (arith, low, on)),
  now,
  (λ t a b. elim (cases_lt t end) [ inl before ↦ h.1 t a before | inr since ↦ none t since b ]),
  (omega arith, λ t a b. absurd (omega (arith, a, b))),
)
times_push busy from end time (t ∷ ts) h on none now = (h.0, h.1, h.2, times_push busy (suc t) end time ts h.3 on none now)

-- none is before the first
none_kept : (busy : ℕ → Bool) (from end cut : ℕ) (ts : List ℕ) → AreTimes busy from end ts → cut ≤ from → filter (λ t. nat_lt t cut) ts ≡ []
none_kept busy from end cut [] h low = refl
none_kept busy from end cut (t ∷ ts) h low =
    let first = h.0 in
    rw (test_no t cut (omega (arith, first, low))) (none_kept busy (suc t) end cut ts h.3 (omega (arith, first, low)))

-- those before a time, where none is between it and an earlier end
pub times_cut : (busy : ℕ → Bool) (from end cut earlier : ℕ) (ts : List ℕ) → AreTimes busy from end ts → from ≤ earlier → cut ≤ earlier → earlier ≤ end → ((t : ℕ) → cut ≤ t → t < earlier → busy t ≡ false)
    → AreTimes busy from earlier (filter (λ t. nat_lt t cut) ts)
times_cut busy from end cut earlier [] h low back within none = (low, λ t a b. h.1 t a (omega (arith, b, within)))
times_cut busy from end cut earlier (t ∷ ts) h low back within none = elim (cases_lt t cut) [
  | inl kept ↦ rw (test_yes t cut kept) (h.0, h.1, h.2, times_cut busy (suc t) end cut earlier ts h.3 (omega (arith, kept, back)) back within none)
  | inr gone ↦ (let past : earlier ≤ t = elim (cases_lt t earlier) [ inl before ↦ absurd (true≢false (sym h.1 ∙ none t gone before)) | inr since ↦ since ] in
      rw (test_no t cut gone, none_kept busy (suc t) end cut ts h.3 (omega (arith, gone))) (low, λ s a b. h.2 s a (omega (arith, b, past))))
]

-- another test that agrees
pub times_same : (busy other : ℕ → Bool) (from end : ℕ) (ts : List ℕ) → ((t : ℕ) → from ≤ t → t < end → busy t ≡ other t) → AreTimes busy from end ts → AreTimes other from end ts
times_same busy other from end [] same h = (h.0, λ t a b. sym (same t a b) ∙ h.1 t a b)
times_same busy other from end (t ∷ ts) same h =
    let first = h.0 in
    let rest : suc t ≤ end = times_end busy (suc t) end ts h.3 in (
      first,
      sym (same t first (omega (arith, rest))) ∙ h.1,
      (λ s a b. sym (same s a (omega (arith, b, rest))) ∙ h.2 s a b),
      times_same busy other (suc t) end ts (λ s a b. same s (omega (arith, a, first)) b) h.3,
    )

-- right after so many
abbrev pub after : ℕ → List ℕ → ℕ → ℕ
after from ts zero = from
after from [] (suc n) = from
after from (t ∷ ts) (suc n) = after (suc t) ts n

pub after_is : (from n : ℕ) (ts : List ℕ) → n < length ts → after from ts (suc n) ≡ suc (get_or ts n 0)
after_is from n [] l = absurd (omega (arith, l))
after_is from zero (t ∷ ts) l = refl
after_is from (suc n) (t ∷ ts) l = after_is (suc t) n ts (omega (arith, l))

-- the later ones
pub times_drop : (busy : ℕ → Bool) (from end n : ℕ) (ts : List ℕ) → AreTimes busy from end ts → n ≤ length ts → AreTimes busy (after from ts n) end (drop n ts)
times_drop busy from end zero ts h l = h
times_drop busy from end (suc n) [] h l = absurd (omega (arith, l))
times_drop busy from end (suc n) (t ∷ ts) h l = times_drop busy (suc t) end n ts h.3 (omega (arith, l))

-- what was put behind is cut off again
pub push_cut : (time : ℕ) (ts : List ℕ) → All (λ t. t < time) ts → filter (λ t. nat_lt t time) (ts ++ time ∷ []) ≡ ts
push_cut time [] h = rw (test_no time time (omega arith)) refl
push_cut time (t ∷ ts) h =
    let first : t < time = h 0 t (omega arith) in
    let rest : filter (λ s. nat_lt s time) (ts ++ time ∷ []) ≡ ts = push_cut time ts (λ k d l. h (suc k) d (omega (arith, l))) in
    rw (test_yes t time first) (ap (λ ss. t ∷ ss) rest)

-- none of the later ones is before the first
pub after_low : (busy : ℕ → Bool) (from end n : ℕ) (ts : List ℕ) → AreTimes busy from end ts → from ≤ after from ts n
after_low busy from end zero ts h = omega arith
after_low busy from end (suc n) [] h = omega arith
after_low busy from end (suc n) (t ∷ ts) h =
    let first = h.0 in
    let rest : suc t ≤ after (suc t) ts n = after_low busy (suc t) end n ts h.3 in
    omega (arith, first, rest)

times_from : (busy : ℕ → Bool) (from end n : ℕ) (ts : List ℕ) → AreTimes busy from end ts → n < length ts → from ≤ get_or ts n 0
times_from busy from end n [] h l = absurd (omega (arith, l))
times_from busy from end zero (t ∷ ts) h l = h.0
times_from busy from end (suc n) (t ∷ ts) h l =
    let first = h.0 in
    let rest : suc t ≤ get_or ts n 0 = times_from busy (suc t) end n ts h.3 (omega (arith, l)) in
    omega (arith, first, rest)

-- marks after a floor, where the first of them is
pub later_late : (busy : ℕ → Bool) (from end floor left : ℕ) (ts : List ℕ) → AreTimes busy from end ts → (left < length ts → floor ≤ get_or ts left 0) → All (λ k. floor < k) (later_marks left ts)
later_late busy from end floor left [] h next = All-nil (λ k. floor < k)
later_late busy from end floor zero (t ∷ ts) h next =
    let first : floor ≤ t = next (omega arith) in
    All-cons (λ k. floor < k) (suc t) (later_marks (SAVE_EVERY - 1) ts) (omega (arith, first))
    (later_late busy (suc t) end floor (SAVE_EVERY - 1) ts h.3 (λ l. let low = times_from busy (suc t) end (SAVE_EVERY - 1) ts h.3 l in omega (arith, low, first)))
later_late busy from end floor (suc left) (t ∷ ts) h next = later_late busy (suc t) end floor left ts h.3 (λ l. next (omega (arith, l)))

-- the mark after so many saved states
pub mark_is : (p : Played) (n : ℕ) → n * SAVE_EVERY ≤ length p.times → mark_after n p ≡ after p.first p.times (n * SAVE_EVERY)
mark_is p zero l = refl
mark_is p (suc n) l =
    let e : suc n * SAVE_EVERY ≡ suc (n * SAVE_EVERY + (SAVE_EVERY - 1)) = omega arith in
    sym (ap (after p.first p.times) e ∙ after_is p.first (n * SAVE_EVERY + (SAVE_EVERY - 1)) p.times (omega (arith, l)))

-- as many as pass the test
pub times_counted : (busy : ℕ → Bool) (from end : ℕ) (ts : List ℕ) → AreTimes busy from end ts → counted busy from end ≡ length ts
times_counted busy from end [] h = times-none busy from end (λ t a b on. true≢false (sym on ∙ h.1 t a b))
times_counted busy from end (t ∷ ts) h =
    let first = h.0 in
    let until : suc t ≤ end = times_end busy (suc t) end ts h.3 in
    let all : counted busy from end ≡ counted busy from t + counted busy t end = times-split busy from t end first (omega (arith, until)) in
    let none : counted busy from t ≡ 0 = times-none busy from t (λ s a b on. true≢false (sym on ∙ h.2 s a b)) in
    let some : counted busy t end ≡ counted busy t (suc t) + counted busy (suc t) end = times-split busy t (suc t) end (omega arith) until in
    let one : counted busy t (suc t) ≡ 1 = times-one busy t (suc t) (omega arith) h.1 in
    let rest : counted busy (suc t) end ≡ length ts = times_counted busy (suc t) end ts h.3 in
    omega (arith, all, none, some, one, rest)

-- those from a time on
pub times_from_cut : (busy : ℕ → Bool) (from end cut : ℕ) (ts : List ℕ) → AreTimes busy from end ts → from ≤ cut → cut ≤ end
    → length ts - length (filter (λ t. nat_lt t cut) ts) ≡ counted busy cut end
times_from_cut busy from end cut ts h low high =
    let all : counted busy from end ≡ length ts = times_counted busy from end ts h in
    let before : counted busy from cut ≡ length (filter (λ t. nat_lt t cut) ts) =
    times_counted busy from cut (filter (λ t. nat_lt t cut) ts) (times_cut busy from end cut cut ts h low (omega arith) high (λ t a b. absurd (omega (arith, a, b)))) in
    let split : counted busy from end ≡ counted busy from cut + counted busy cut end = times-split busy from cut end low high in
    omega (arith, all, before, split)

-- one more behind some
ahead_of : (n time : ℕ) (ts : List ℕ) → n < length ts → get_or (ts ++ time ∷ []) n 0 ≡ get_or ts n 0
ahead_of n time [] l = absurd (omega (arith, l))
ahead_of zero time (t ∷ ts) l = refl
ahead_of (suc n) time (t ∷ ts) l = ahead_of n time ts (omega (arith, l))

behind_all : (n time : ℕ) (ts : List ℕ) → n ≡ length ts → get_or (ts ++ time ∷ []) n 0 ≡ time
behind_all zero time [] e = refl
behind_all zero time (t ∷ ts) e = absurd (omega (arith, e))
behind_all (suc n) time [] e = absurd (omega (arith, e))
behind_all (suc n) time (t ∷ ts) e = behind_all n time ts (omega (arith, e))

many_more : (time : ℕ) (ts : List ℕ) → length (ts ++ time ∷ []) ≡ suc (length ts)
many_more time [] = refl
many_more time (t ∷ ts) = ap (λ n. suc n) (many_more time ts)

-- those before a time are the first ones
first_ones : (busy : ℕ → Bool) (from end cut n : ℕ) (ts : List ℕ) → AreTimes busy from end ts → n < length (filter (λ t. nat_lt t cut) ts)
    → (n < length ts) × (get_or (filter (λ t. nat_lt t cut) ts) n 0 ≡ get_or ts n 0)
first_ones busy from end cut n [] h l = absurd (omega (arith, l))
first_ones busy from end cut zero (t ∷ ts) h l = elim (cases_lt t cut) [
  | inl kept ↦ (omega arith, rw (test_yes t cut kept) refl)
  | inr gone ↦ absurd (let none : filter (λ s. nat_lt s cut) (t ∷ ts) ≡ [] = rw (test_no t cut gone) (none_kept busy (suc t) end cut ts h.3 (omega (arith, gone))) in
      let few : length (filter (λ s. nat_lt s cut) (t ∷ ts)) ≡ 0 = ap (λ (ss : List ℕ). length ss) none in omega (arith, few, l))
]
first_ones busy from end cut (suc n) (t ∷ ts) h l = elim (cases_lt t cut) [
  | inl kept ↦ (let more : suc n < length (t ∷ filter (λ s. nat_lt s cut) ts) = rw (test_yes t cut kept) at l in
      let rest = first_ones busy (suc t) end cut n ts h.3 (omega (arith, more)) in
      let inside = rest.0 in
      (omega (arith, inside), rw (test_yes t cut kept) rest.1))
  | inr gone ↦ absurd (let none : filter (λ s. nat_lt s cut) (t ∷ ts) ≡ [] = rw (test_no t cut gone) (none_kept busy (suc t) end cut ts h.3 (omega (arith, gone))) in
      let few : length (filter (λ s. nat_lt s cut) (t ∷ ts)) ≡ 0 = ap (λ (ss : List ℕ). length ss) none in omega (arith, few, l))
]

-- no saved state more is up to the floor, where an event time that isn't below it comes, or where the last ones are taken back
pub sparse_push : (floor time : ℕ) (ts : List ℕ) → IsSparse floor ts → floor ≤ time → IsSparse floor (ts ++ time ∷ [])
sparse_push floor time ts h from l = elim (cases_lt (SAVE_EVERY - 1) (length ts)) [
  | inl more ↦ (let is = ahead_of (SAVE_EVERY - 1) time ts more in let low = h (omega (arith, more)) in omega (arith, is, low))
  | inr few ↦ (let many = many_more time ts in let is = behind_all (SAVE_EVERY - 1) time ts (omega (arith, few, many, l)) in omega (arith, is, from))
]

pub sparse_cut : (busy : ℕ → Bool) (from end cut floor : ℕ) (ts : List ℕ) → AreTimes busy from end ts → IsSparse floor ts → IsSparse floor (filter (λ t. nat_lt t cut) ts)
sparse_cut busy from end cut floor ts times h l =
    let first = first_ones busy from end cut (SAVE_EVERY - 1) ts times (omega (arith, l)) in
    let inside = first.0 in
    let is = first.1 in
    let low = h (omega (arith, inside)) in
    omega (arith, is, low)

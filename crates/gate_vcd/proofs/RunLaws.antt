-- Runs of bits, and the starts that they are kept by.
use Rattle.std.proofs.Common.{◌≡◌, ◌≢◌, ℕ, zero, suc, ◌+◌, ◌<◌, ◌≤◌, inl, inr, Bool, true, false, cond, ◌&&◌, nat_eq, nat_le, [], Option, Some, None, IsSome, refl, ap, sym, ◌∙◌, subst, arith}
use Rattle.std.proofs.lemmas.Bool.Decides.{nat_tests}
use Rattle.std.proofs.lemmas.Cmp.{nat_cmp_total, tied_itself}
use Rattle.std.specs.Ordering.{nat_cmp, is_gt, is_lt}
use Rattle.std.specs.BTreeMap.{get, is_at}
use Rattle.gate_vcd.specs.declared.runs.Kept.{Kept}
use Rattle.net_waves.specs.Inner.Pairs.{by_pair as in_order}
use Rattle.gate_vcd.specs.Inner.Runs.{Starts, kept_at, is_in}
use Rattle.net_waves.proofs.Compared.{eq_true, eq_false, le_true, le_false, lt_false, cases_eq, cases_lt, cases_three}
use Rattle.net_waves.proofs.Paired.{at_place, at_other}

-- ---- what stands at the last start

pub kept-last : (starts : Starts) (base bit start : ℕ) (v : Option Kept) → get in_order starts (base, start) ≡ Some v → start ≤ bit → ((j : ℕ) → start < j → j ≤ bit → get in_order starts (base, j) ≡ None) → kept_at starts base bit ≡ v
unfolding kept_at
kept-last starts base zero start v here h others =
    let e : start ≡ 0 = omega arith in
    rw (ap (λ k. get in_order starts (base, k)) (sym e) ∙ here) refl
kept-last starts base (suc bit) start v here h others = elim (cases_eq start (suc bit)) [
  | inl same ↦ rw (ap (λ k. get in_order starts (base, k)) (sym same) ∙ here) refl
  | inr other ↦ rw (others (suc bit) (omega arith) (omega arith)) (kept-last starts base bit start v here (omega arith) (λ j l r. others j l (omega arith)))
]

pub kept-none : (starts : Starts) (base bit : ℕ) → ((j : ℕ) → j ≤ bit → get in_order starts (base, j) ≡ None) → kept_at starts base bit ≡ None
unfolding kept_at
kept-none starts base zero others = rw (others 0 (omega arith)) refl
kept-none starts base (suc bit) others = rw (others (suc bit) (omega arith)) (kept-none starts base bit (λ j r. others j (omega arith)))

kept-same : (old new : Starts) (base bit : ℕ) → ((j : ℕ) → j ≤ bit → get in_order new (base, j) ≡ get in_order old (base, j)) → kept_at new base bit ≡ kept_at old base bit
unfolding kept_at
kept-same old new base zero same = rw (same 0 (omega arith)) refl
kept-same old new base (suc bit) same = rw (same (suc bit) (omega arith), kept-same old new base bit (λ j r. same j (omega arith))) refl

-- from a bit on that has the same vector
kept-from : (old new : Starts) (base bit from : ℕ) → kept_at new base from ≡ kept_at old base from → from ≤ bit → ((j : ℕ) → from < j → j ≤ bit → get in_order new (base, j) ≡ get in_order old (base, j)) → kept_at new base bit ≡ kept_at old base bit
unfolding kept_at
kept-from old new base zero from here h same = let e : from ≡ 0 = omega arith in subst (λ n. kept_at new base n ≡ kept_at old base n) e here
kept-from old new base (suc bit) from here h same = elim (cases_eq from (suc bit)) [
  | inl own ↦ subst (λ n. kept_at new base n ≡ kept_at old base n) own here
  | inr other ↦ rw (same (suc bit) (omega arith) (omega arith), kept-from old new base bit from here (omega arith) (λ j l r. same j l (omega arith))) refl
]

-- ---- what a range of the map says

cmp_same : (base a b : ℕ) → in_order (base, a) (base, b) ≡ nat_cmp a b
cmp_same base a b = rw (tied_itself nat_cmp_total base) refl

up_to : (base a b : ℕ) → a ≤ b → is_gt (in_order (base, a) (base, b)) ≡ false
up_to base a b h = rw (cmp_same base a b) (grind (arith, nat_tests))

not_past : (base a b : ℕ) → is_lt (in_order (base, a) (base, b)) ≡ false → b ≤ a
not_past base a b h = go (rw (cmp_same base a b) at h)
  where
    go : is_lt (nat_cmp a b) ≡ false → b ≤ a
    go e = grind (arith, nat_tests, e)

-- a key between two of one base is of that base
between : (base low high other bit : ℕ) → is_gt (in_order (base, low) (other, bit)) ≡ false → is_gt (in_order (other, bit) (base, high)) ≡ false → (other ≡ base) × (bit ≤ high)
between base low high other bit l r = elim (cases_three base other) [
  | inl more ↦ absurd (is_false l (rw (lt_false base other (omega arith), eq_false base other (λ e. omega arith)) refl))
  | inr (inl same) ↦ (sym same, up_to_is (subst (λ n. is_gt (in_order (n, bit) (base, high)) ≡ false) (sym same) r))
  | inr (inr less) ↦ absurd (is_false r (rw (lt_false other base (omega arith), eq_false other base (λ e. omega arith)) refl))
]
  where
    is_false : {b : Bool} → b ≡ false → b ≡ true → ⊥
    is_false e d = cc

    up_to_is : is_gt (in_order (base, bit) (base, high)) ≡ false → bit ≤ high
    up_to_is h = go (rw (cmp_same base bit high) at h)
      where
        go : is_gt (nat_cmp bit high) ≡ false → bit ≤ high
        go e = grind (arith, nat_tests, e)

no_others : (starts : Starts) (base start bit : ℕ) → ((q : ℕ × ℕ) → (is_gt (in_order (base, 0) q) ≡ false) × (is_gt (in_order q (base, bit)) ≡ false) → IsSome (get in_order starts q) → is_lt (in_order (base, start) q) ≡ false)
    → (j : ℕ) → start < j → j ≤ bit → get in_order starts (base, j) ≡ None
no_others starts base start bit last j l r = go (get in_order starts (base, j)) refl
  where
    go : (o : Option (Option Kept)) → get in_order starts (base, j) ≡ o → o ≡ None
    go None e = refl
    go (Some x) e =
        let some : IsSome (get in_order starts (base, j)) = rw e refl in
        let past : j ≤ start = not_past base start j (last (base, j) (up_to base 0 j (omega arith), up_to base j bit r) some) in
        absurd (omega arith)

-- the last entry up to a bit
pub at-last : (starts : Starts) (base bit : ℕ) (key : ℕ × ℕ) (v : Option Kept) → ((is_gt (in_order (base, 0) key) ≡ false) × (is_gt (in_order key (base, bit)) ≡ false)) × (get in_order starts key ≡ Some v)
    → ((q : ℕ × ℕ) → (is_gt (in_order (base, 0) q) ≡ false) × (is_gt (in_order q (base, bit)) ≡ false) → IsSome (get in_order starts q) → is_lt (in_order key q) ≡ false) → v ≡ kept_at starts base bit
at-last starts base bit (other, start) v ((low, high), here) last =
    let (same, within) = between base 0 bit other start low high in
    sym (kept-last starts base bit start v (subst (λ n. get in_order starts (n, start) ≡ Some v) same here) within
    (no_others starts base start bit (λ q h s. subst (λ n. is_lt (in_order (n, start) q) ≡ false) same (last q h s))))

pub at-none : (starts : Starts) (base bit : ℕ) → ((q : ℕ × ℕ) → (is_gt (in_order (base, 0) q) ≡ false) × (is_gt (in_order q (base, bit)) ≡ false) → get in_order starts q ≡ None) → None ≡ kept_at starts base bit
at-none starts base bit none = sym (kept-none starts base bit (λ j r. none (base, j) (up_to base 0 j (omega arith), up_to base j bit r)))

within : (a b c : Bool) → (a && (b && c)) ≡ true → (a ≡ true) × (b ≡ true) × (c ≡ true)
within true true true e = (refl, refl, refl)
within true true false e = cc
within true false c e = cc
within false b c e = cc

in_bounds : (base low high other bit : ℕ) → is_in base low high other bit ≡ true → (base ≡ other) × (low ≤ bit) × (bit ≤ high)
in_bounds base low high other bit e =
    let (own, l, r) = within (nat_eq base other) (nat_le low bit) (nat_le bit high) e in
    (grind (arith, nat_tests, own), grind (arith, nat_tests, l), grind (arith, nat_tests, r))

pub none-in : (starts : Starts) (base low high bit : ℕ) → ((q : ℕ × ℕ) → (is_gt (in_order (base, low) q) ≡ false) × (is_gt (in_order q (base, high)) ≡ false) → get in_order starts q ≡ None) → is_in base low high base bit ≡ true → get in_order starts (base, bit) ≡ None
none-in starts base low high bit none h =
    let (own, l, r) = in_bounds base low high base bit h in
    none (base, bit) (up_to base low bit l, up_to base bit high r)

-- ---- starts that are taken out

apart : (base low high start other bit : ℕ) → is_in base low high base start ≡ true → is_in base low high other bit ≡ false → is_at (in_order (base, start)) (other, bit) ≡ false
apart base low high start other bit stands off = at_other base start other bit (λ same here. two off (subst (λ (n : ℕ). is_in base low high n bit ≡ true) same (subst (λ (n : ℕ). is_in base low high base n ≡ true) here stands)))
  where
    two : {b : Bool} → b ≡ false → b ≡ true → ⊥
    two e d = cc

-- the starts outside stay as they were
abbrev pub KeepsOthers : (base low high : ℕ) → Starts → Starts → Type 0
KeepsOthers base low high old new = (other bit : ℕ) → is_in base low high other bit ≡ false → get in_order new (other, bit) ≡ get in_order old (other, bit)

pub keeps-more : (base low high start : ℕ) (first old new : Starts) → is_in base low high base start ≡ true → ((q : ℕ × ℕ) → get in_order new q ≡ cond (is_at (in_order (base, start)) q) None (get in_order old q)) → KeepsOthers base low high first old
    → KeepsOthers base low high first new
keeps-more base low high start first old new stands updates keeps other bit off = updates (other, bit) ∙ rw (apart base low high start other bit stands off) (keeps other bit off)

pub cleared : (base low high : ℕ) (old new : Starts) → KeepsOthers base low high old new → ((bit : ℕ) → is_in base low high base bit ≡ true → get in_order new (base, bit) ≡ None)
    → (other bit : ℕ) → get in_order new (other, bit) ≡ cond (is_in base low high other bit) None (get in_order old (other, bit))
cleared base low high old new keeps none other bit = go (is_in base low high other bit) refl
  where
    go : (b : Bool) → is_in base low high other bit ≡ b → get in_order new (other, bit) ≡ cond b None (get in_order old (other, bit))
    go false e = keeps other bit e
    go true e =
        let (own, l, r) = in_bounds base low high other bit e in
        subst (λ (n : ℕ). get in_order new (n, bit) ≡ None) own (none bit (subst (λ (n : ℕ). is_in base low high n bit ≡ true) (sym own) e))

-- ---- a run that is put

module _ (base low high : ℕ) (kept : Kept) (after : Option Kept) (old cleared ended new : Starts) where
  -- what stands at a start afterwards
  abbrev put_at : ℕ → ℕ → Option (Option Kept)
  put_at other bit = cond (is_at (in_order (base, low)) (other, bit)) (Some (Some kept)) (cond (is_at (in_order (base, high + 1)) (other, bit)) (Some after) (cond (is_in base low high other bit) None (get in_order old (other, bit))))

  abbrev IsPut : Type 0
  IsPut = (other bit : ℕ) → get in_order new (other, bit) ≡ put_at other bit

  put_all : ((other bit : ℕ) → get in_order cleared (other, bit) ≡ cond (is_in base low high other bit) None (get in_order old (other, bit)))
      → ((q : ℕ × ℕ) → get in_order ended q ≡ cond (is_at (in_order (base, high + 1)) q) (Some after) (get in_order cleared q))
      → ((q : ℕ × ℕ) → get in_order new q ≡ cond (is_at (in_order (base, low)) q) (Some (Some kept)) (get in_order ended q)) → IsPut
  put_all c e n other bit = n (other, bit) ∙ rw (e (other, bit), c other bit) refl

  other_base : IsPut → (other bit : ℕ) → base ≢ other → get in_order new (other, bit) ≡ get in_order old (other, bit)
  other_base put other bit ne = put other bit ∙ rw (at_other base low other bit (λ e _. ne e), at_other base (high + 1) other bit (λ e _. ne e), eq_false base other ne) refl

  before : IsPut → (bit : ℕ) → low ≤ high → bit < low → get in_order new (base, bit) ≡ get in_order old (base, bit)
  before put bit h l = put base bit ∙ rw (at_other base low base bit (λ _ e. omega (arith, e)), at_other base (high + 1) base bit (λ _ e. omega (arith, e)), le_false low bit l, eq_true base base refl) refl

  inside : IsPut → (bit : ℕ) → low < bit → bit ≤ high → get in_order new (base, bit) ≡ None
  inside put bit l r = put base bit ∙ rw (at_other base low base bit (λ _ e. omega (arith, e)), at_other base (high + 1) base bit (λ _ e. omega (arith, e)), le_true low bit (omega arith), le_true bit high r, eq_true base base refl) refl

  behind : IsPut → (bit : ℕ) → low ≤ high → high + 1 < bit → get in_order new (base, bit) ≡ get in_order old (base, bit)
  behind put bit h l = put base bit ∙ rw (at_other base low base bit (λ _ e. omega (arith, e)), at_other base (high + 1) base bit (λ _ e. omega (arith, e)), le_true low bit (omega arith), le_false bit high (omega arith), eq_true base base refl) refl

  first : IsPut → get in_order new (base, low) ≡ Some (Some kept)
  first put = put base low ∙ rw (at_place base low) refl

  next : IsPut → low ≤ high → get in_order new (base, high + 1) ≡ Some after
  next put h = put base (high + 1) ∙ rw (at_other base low base (high + 1) (λ _ e. omega (arith, e)), at_place base (high + 1)) refl

  own_base : IsPut → low ≤ high → after ≡ kept_at old base (high + 1) → (bit : ℕ) → kept_at new base bit ≡ cond (is_in base low high base bit) (Some kept) (kept_at old base bit)
  own_base put h e bit = elim (cases_lt bit low) [
    | inl less ↦ rw (le_false low bit less, eq_true base base refl) (kept-same old new base bit (λ j r. before put j h (omega arith)))
    | inr from ↦ elim (cases_lt high bit) [
      | inl more ↦ rw (le_true low bit from, le_false bit high more, eq_true base base refl)
          (kept-from old new base bit (high + 1) (kept-last new base (high + 1) (high + 1) after (next put h) (omega arith) (λ j l r. absurd (omega arith)) ∙ e) (omega arith) (λ j l r. behind put j h l))
      | inr within ↦ rw (le_true low bit from, le_true bit high within, eq_true base base refl) (kept-last new base bit low (Some kept) (first put) from (λ j l r. inside put j l (omega arith)))
    ]
  ]

  -- the bits of the run have the vector, and the others what they had
  pub run-put : low ≤ high → after ≡ kept_at old base (high + 1) → ((other bit : ℕ) → get in_order cleared (other, bit) ≡ cond (is_in base low high other bit) None (get in_order old (other, bit)))
      → ((q : ℕ × ℕ) → get in_order ended q ≡ cond (is_at (in_order (base, high + 1)) q) (Some after) (get in_order cleared q))
      → ((q : ℕ × ℕ) → get in_order new q ≡ cond (is_at (in_order (base, low)) q) (Some (Some kept)) (get in_order ended q))
      → (other bit : ℕ) → kept_at new other bit ≡ cond (is_in base low high other bit) (Some kept) (kept_at old other bit)
  run-put h e c d n other bit = elim (cases_eq base other) [
    | inl same ↦ subst (λ (o : ℕ). kept_at new o bit ≡ cond (is_in base low high o bit) (Some kept) (kept_at old o bit)) same (own_base (put_all c d n) h e bit)
    | inr ne ↦ rw (eq_false base other ne) (kept-same old new other bit (λ j r. other_base (put_all c d n) other j ne))
  ]

-- no bit has a vector where nothing stands
pub kept-empty : (starts : Starts) (base bit : ℕ) → starts.entries ≡ [] → kept_at starts base bit ≡ None
kept-empty starts base bit e = kept-none starts base bit (λ j r. rw e refl)

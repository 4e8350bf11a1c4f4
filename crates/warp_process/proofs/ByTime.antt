-- Rows by time: what a change of one leaves.
use Rattle.std.proofs.Common.{◌≡◌, ◌≢◌, ℕ, ◌+◌, ◌<◌, ◌≤◌, ◌&&◌, ◌==◌, Bool, true, false, cond, Option, Some, None, List, [], refl, ap, sym, ◌∙◌, subst, arith, inl, inr, is_eq, nat_cmp, is_some, IsSome, All, get_or}
use Rattle.std.proofs.lemmas.Bool.Decides.{nat_tests}
use Rattle.std.specs.BTreeMap.{BTreeMap, get, is_at, IsOrdered, WritesThrough}
use Rattle.std.proofs.lemmas.Bool.{cases_eq, cases_lt, cases_Bool, eq-eqb, ne_eqb}
use Rattle.smallvec.specs.SmallVec.{SmallVec}
use Rattle.warp_process.specs.declared.entry.Entry.{Entry}
use Rattle.warp_process.specs.declared.by_time.Rows.{Rows}
use Rattle.warp_process.specs.Entries.{no_messages}
use Rattle.warp_process.specs.Rows.{Standing, entry_on, IsRow}
use Rattle.warp_process.proofs.RowOrder.{entry_on-at}
use Rattle.warp_process.specs.Inner.Rows.{row_in, row_at, entry_at, AreRows, is_listed, AreSame, IsEntered}

pub same_time : (t u : ℕ) → is_eq (nat_cmp t u) ≡ (u == t)
same_time t u = grind (arith, nat_tests)

-- a map that has another value at a key
pub row_set : (old new : Rows) (time : ℕ) (v : SmallVec Standing) → ((q : ℕ) → get nat_cmp new.times q ≡ cond (is_at (nat_cmp time) q) (Some v) (get nat_cmp old.times q)) →
    (t : ℕ) → row_at new t ≡ cond (t == time) v.items (row_at old t)
row_set old new time v set t =
    ap row_in (set t ∙ ap (λ b. cond b (Some v) (get nat_cmp old.times t)) (same_time time t)) ∙ go (t == time)
  where
    go : (b : Bool) → row_in (cond b (Some v) (get nat_cmp old.times t)) ≡ cond b v.items (row_at old t)
    go true = refl
    go false = refl

module _ (old new : Rows) (time : ℕ) (row : List Standing) (set : (t : ℕ) → row_at new t ≡ cond (t == time) row (row_at old t)) where
  row_here : row_at new time ≡ row
  row_here = set time ∙ ap (λ b. cond b row (row_at old time)) (eq-eqb time time refl)

  row_else : (t : ℕ) → t ≢ time → row_at new t ≡ row_at old t
  row_else t ne = set t ∙ ap (λ b. cond b row (row_at old t)) (ne_eqb t time ne)

  pub rows_after : AreRows old → IsOrdered nat_cmp new.times → IsRow row → AreRows new
  rows_after are ordered is = record {
    ordered = ordered;
    each = λ t. elim (cases_eq t time) [
      | inl same ↦ subst (λ u. IsRow (row_at new u)) (sym same) (subst IsRow (sym row_here) is)
      | inr other ↦ subst IsRow (sym (row_else t other)) (are.each t)
    ];
  }

  pub entered : (place : ℕ) (entry : Entry) → ((i : ℕ) → entry_on row i ≡ cond (i == place) entry (entry_on (row_at old time) i)) → IsEntered old new time place entry
  entered place entry put t i = elim (cases_eq t time) [
    | inl same ↦ subst (λ u. entry_at new u i ≡ cond ((u == time) && (i == place)) entry (entry_at old u i)) (sym same)
        (ap (λ (ss : List Standing). entry_on ss i) row_here ∙ (put i ∙ ap (λ b. cond (b && (i == place)) entry (entry_at old time i)) (sym (eq-eqb time time refl))))
    | inr other ↦ ap (λ (ss : List Standing). entry_on ss i) (row_else t other) ∙ ap (λ b. cond (b && (i == place)) entry (entry_at old t i)) (sym (ne_eqb t time other))
  ]

  pub same_after : row ≡ row_at old time → AreSame old new
  same_after same t = elim (cases_eq t time) [
    | inl here ↦ subst (λ u. row_at new u ≡ row_at old u) (sym here) (row_here ∙ same)
    | inr other ↦ row_else t other
  ]

-- a row that isn't there holds nothing
pub row_none : (rows : Rows) (time : ℕ) → is_some (get nat_cmp rows.times time) ≡ false → row_at rows time ≡ []
row_none rows time none = go (get nat_cmp rows.times time) none
  where
    go : (o : Option (SmallVec Standing)) → is_some o ≡ false → row_in o ≡ []
    go None e = refl
    go (Some v) e = absurd cc

-- what is written through a row that is there
module _ (old : Rows) (times : BTreeMap ℕ (SmallVec Standing)) (time : ℕ) (was v : SmallVec Standing) (found : Some was ≡ get nat_cmp old.times time) (writes : WritesThrough nat_cmp (nat_cmp time) old.times v times) where
  abbrev written : Rows
  written = record { alloc = old.alloc; times = times }

  pub there : row_at old time ≡ was.items
  there = sym (ap row_in found)

  set : (t : ℕ) → row_at written t ≡ cond (t == time) v.items (row_at old t)
  set = row_set old written time v (writes.3 (subst (λ (o : Option (SmallVec Standing)). IsSome o) found refl)).0

  pub written_rows : AreRows old → IsRow v.items → AreRows written
  written_rows are is = rows_after old written time v.items set are writes.4 is

  pub written_entry : (place : ℕ) (entry : Entry) → ((i : ℕ) → entry_on v.items i ≡ cond (i == place) entry (entry_on was.items i)) → IsEntered old written time place entry
  written_entry place entry put = entered old written time v.items set place entry
      (λ i. put i ∙ ap (λ (ss : List Standing). cond (i == place) entry (entry_on ss i)) (sym there))

  pub written_same : v.items ≡ was.items → AreSame old written
  written_same same = same_after old written time v.items set (same ∙ sym there)

-- a time more is copied
module _ (old mid new : Rows) (time from : ℕ) (row : List Standing) (set : (t : ℕ) → row_at new t ≡ cond (t == time) row (row_at mid t)) where
  pub copied_more : (least : (t i : ℕ) → from ≤ t → t < time → entry_at old t i ≡ no_messages) → row ≡ row_at old time → ((t i : ℕ) → t < from → entry_at mid t i ≡ entry_at old t i) → ((t i : ℕ) → from ≤ t → entry_at mid t i ≡ no_messages) →
      (t i : ℕ) → t < time + 1 → entry_at new t i ≡ entry_at old t i
  copied_more least same copied rest t i l = elim (cases_eq t time) [
    | inl here ↦ subst (λ u. entry_at new u i ≡ entry_at old u i) (sym here) (ap (λ (ss : List Standing). entry_on ss i) (row_here mid new time row set ∙ same))
    | inr other ↦ ap (λ (ss : List Standing). entry_on ss i) (row_else mid new time row set t other) ∙ (elim (cases_lt t from) [
      | inl early ↦ copied t i early
      | inr late ↦ rest t i late ∙ sym (least t i late (let ne : t ≢ time = other in omega (arith, l, ne)))
    ])
  ]

  pub rest_more : from ≤ time → ((t i : ℕ) → from ≤ t → entry_at mid t i ≡ no_messages) → (t i : ℕ) → time + 1 ≤ t → entry_at new t i ≡ no_messages
  rest_more past rest t i l = ap (λ (ss : List Standing). entry_on ss i) (row_else mid new time row set t (let ne : t ≢ time = omega (arith, l) in ne)) ∙ rest t i (omega (arith, l, past))

-- where no row stands, there is no entry
pub unlisted_none : (rows : Rows) (t i : ℕ) → (is_listed rows t ≡ true → ⊥) → entry_at rows t i ≡ no_messages
unlisted_none rows t i not = elim (cases_Bool (is_listed rows t)) [
  | inl listed ↦ absurd (not listed)
  | inr none ↦ ap (λ (ss : List Standing). entry_on ss i) (row_none rows t none)
]

-- where entries from a place on are empty, a row has lesser places alone
pub row_places : (rows : Rows) (count : ℕ) → AreRows rows → ((t i : ℕ) → count ≤ i → entry_at rows t i ≡ no_messages) → (t : ℕ) (row : List Standing) → row ≡ row_at rows t → All (λ (s : Standing). s.place < count) row
row_places rows count are none t row e k d l = elim (cases_lt (get_or row k d).place count) [
  | inl within ↦ within
  | inr past ↦
      (let is : IsRow row = subst IsRow (sym e) (are.each t) in
      absurd (is.kept k d l (entry_on-at row k (get_or row k d).place d is.in_order l refl ∙ (ap (λ (ss : List Standing). entry_on ss (get_or row k d).place) e ∙ none t (get_or row k d).place past))))
]

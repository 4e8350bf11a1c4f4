-- Rows walked in the order of their times: those that are left.
use Rattle.std.proofs.Common.{◌≡◌, ◌≢◌, ℕ, ◌+◌, ◌<◌, ◌≤◌, cond, Some, List, [], ◌∷◌, refl, ap, sym, ◌∙◌, subst, arith, nat_cmp}
use Rattle.std.specs.Prelude.{⊤}
use Rattle.std.specs.List.Sorted.{IsStrictlySortedBy}
use Rattle.std.specs.Map.{keys_of, lookup}
use Rattle.std.specs.BTreeMap.{get, is_at, IsOrdered}
use Rattle.std.proofs.lemmas.Bool.{eq-eqb, ne_eqb}
use Rattle.warp_process.specs.declared.by_time.Rows.{Rows}
use Rattle.warp_process.specs.Entries.{no_messages}
use Rattle.warp_process.specs.Rows.{Standing, entry_on}
use Rattle.warp_process.specs.Inner.Rows.{row_in, row_at, entry_at}
use Rattle.warp_process.proofs.ByTime.{same_time}
use Rattle.warp_process.proofs.Queued.{Timed, Late, late_keys, late_lookup}

-- the first of some rows is of no earlier time than one
abbrev StartsAt : ℕ → List Timed → Type 0
StartsAt from [] = ⊤
StartsAt from (p ∷ ps) = from ≤ p.0

-- the rows that are left are those of the times from one on, in order
pub record AreLeft (rows : Rows) (from : ℕ) (ps : List Timed) : Type 0 where
  pub sorted : IsStrictlySortedBy nat_cmp (keys_of ps)
  pub starts : StartsAt from ps
  pub same : (t : ℕ) → from ≤ t → lookup (is_at (nat_cmp t)) ps ≡ get nat_cmp rows.times t

starts_at_zero : (ps : List Timed) → StartsAt 0 ps
starts_at_zero [] = tt
starts_at_zero (p ∷ ps) = omega arith

pub all_left : (rows : Rows) (ps : List Timed) → IsOrdered nat_cmp rows.times → ps ≡ rows.times.entries → AreLeft rows 0 ps
all_left rows ps ordered are = rw are (record { sorted = ordered; starts = starts_at_zero rows.times.entries; same = λ t l. refl })

-- where none is left, nothing stands from there on
pub none_left : (rows : Rows) (from : ℕ) (ps : List Timed) → AreLeft rows from ps → ps ≡ [] → (t i : ℕ) → from ≤ t → entry_at rows t i ≡ no_messages
none_left rows from ps left none t i l = ap (λ o. entry_on (row_in o) i) (sym (left.same t l) ∙ ap (lookup (is_at (nat_cmp t))) none)

module _ (rows : Rows) (from : ℕ) (p : Timed) (ps : List Timed) (left : AreLeft rows from (p ∷ ps)) where
  late : Late p.0 ps
  unfolding IsStrictlySortedBy
  late = late_keys p.0 ps left.sorted.0

  pub first_from : from ≤ p.0
  first_from = left.starts

  pub first_row : row_at rows p.0 ≡ p.1.items
  first_row = ap row_in (sym (left.same p.0 left.starts) ∙ ap (λ b. cond b (Some p.1) (lookup (is_at (nat_cmp p.0)) ps)) (same_time p.0 p.0 ∙ eq-eqb p.0 p.0 refl))

  -- nothing stands before the first
  pub first_quiet : (t i : ℕ) → from ≤ t → t < p.0 → entry_at rows t i ≡ no_messages
  first_quiet t i since before =
      let other : p.0 ≢ t = omega arith in
      ap (λ o. entry_on (row_in o) i) (sym (left.same t since)
      ∙ (ap (λ b. cond b (Some p.1) (lookup (is_at (nat_cmp t)) ps)) (same_time t p.0 ∙ ne_eqb p.0 t other) ∙ late_lookup p.0 t ps late (omega arith)))

  starts_after : (qs : List Timed) → Late p.0 qs → StartsAt (p.0 + 1) qs
  starts_after [] l = tt
  starts_after (q ∷ qs) l = (let after : p.0 < q.0 = l.0 in omega arith)

  pub rest_left : AreLeft rows (p.0 + 1) ps
  unfolding IsStrictlySortedBy
  rest_left = record {
    sorted = left.sorted.1;
    starts = starts_after ps late;
    same = λ t l. (let other : p.0 ≢ t = omega arith in let since : from ≤ t = (let f = first_from in omega (arith, f, l)) in
        sym (ap (λ b. cond b (Some p.1) (lookup (is_at (nat_cmp t)) ps)) (same_time t p.0 ∙ ne_eqb p.0 t other)) ∙ left.same t since);
  }

-- the row of the time that comes next
pub next_row : (rows : Rows) (from : ℕ) (qs : List Timed) (p : Timed) (ps : List Timed) (row : List Standing) → AreLeft rows from qs → qs ≡ p ∷ ps → row ≡ p.1.items → row ≡ row_at rows p.0
next_row rows from qs p ps row left next same = same ∙ sym (first_row rows from p ps (subst (AreLeft rows from) next left))

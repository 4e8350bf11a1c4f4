-- Times with effective values, found in rows.
use Rattle.std.proofs.Common.{◌≡◌, ℕ, ◌<◌, true, length, get_or, inl, inr, sym, subst, IsSome, List, ap, ◌∙◌}
use Rattle.std.proofs.lemmas.Bool.{cases_lt, true≢false}
use Rattle.warp_process.specs.declared.entry.Entry.{Entry}
use Rattle.warp_process.specs.declared.by_time.Rows.{Rows}
use Rattle.warp_process.specs.Entries.{effective_of, no_messages}
use Rattle.warp_process.specs.Rows.{Standing, entry_on}
use Rattle.warp_process.specs.Heard.{IsReceived}
use Rattle.warp_process.specs.Inner.Rows.{row_at, is_listed}
use Rattle.warp_process.specs.View.{View, entry_of, effective_at}
use Rattle.warp_process.proofs.Hearing.{IsRowed, stands_listed}

-- what is empty has no effective value
pub empty_silent : (e : Entry) → e ≡ no_messages → IsSome (effective_of e) → ⊥
empty_silent e none some = true≢false (sym (subst (λ (d : Entry). IsSome (effective_of d)) none some))

-- the entry of some net at a time has an effective value
abbrev pub IsHeardAt : View → ℕ → Type 0
IsHeardAt v t = (i : ℕ) × (i < length v.part.nets) × IsSome (effective_at v (get_or v.part.nets i 0) t)

module _ (v : View) (rows : Rows) (is : IsReceived v) (rowed : IsRowed v rows) where
  pub heard_listed : (t : ℕ) → IsHeardAt v t → is_listed rows t ≡ true
  heard_listed t h = stands_listed v rows rowed h.0 t h.1 (λ none. empty_silent (entry_of v (get_or v.part.nets h.0 0) t) none h.2)

  -- nothing is heard past the horizon
  pub heard_within : (t : ℕ) → v.horizon < t → IsHeardAt v t → ⊥
  heard_within t late h = empty_silent (entry_of v (get_or v.part.nets h.0 0) t) (is.within (get_or v.part.nets h.0 0) t late) h.2

  -- what is heard stands in the row
  pub heard_row : (t : ℕ) (row : List Standing) → row ≡ row_at rows t → IsHeardAt v t → (i : ℕ) × IsSome (effective_of (entry_on row i))
  heard_row t row e h = (h.0, subst (λ (x : Entry). IsSome (effective_of x)) (rowed.entries h.0 t h.1 ∙ ap (λ (ss : List Standing). entry_on ss h.0) (sym e)) h.2)

  pub row_heard : (t : ℕ) (row : List Standing) → row ≡ row_at rows t → ((i : ℕ) × IsSome (effective_of (entry_on row i))) → IsHeardAt v t
  row_heard t row e h = elim (cases_lt h.0 (length v.part.nets)) [
    | inl l ↦ (h.0, l, subst (λ (x : Entry). IsSome (effective_of x)) (sym (rowed.entries h.0 t l ∙ ap (λ (ss : List Standing). entry_on ss h.0) (sym e))) h.1)
    | inr m ↦ absurd (empty_silent (entry_on row h.0) (ap (λ (ss : List Standing). entry_on ss h.0) e ∙ rowed.within t h.0 m) h.1)
  ]

-- ---- what is asked of one net
module _ (v : View) (rows : Rows) (is : IsReceived v) (rowed : IsRowed v rows) (i : ℕ) (in_nets : i < length v.part.nets) (P : Entry → Type 0) (empty : P no_messages → ⊥) where
  -- its entry at a time is of a kind that an empty one isn't of
  abbrev pub IsOf : ℕ → Type 0
  IsOf t = P (entry_of v (get_or v.part.nets i 0) t)

  pub of_listed : (t : ℕ) → IsOf t → is_listed rows t ≡ true
  of_listed t h = stands_listed v rows rowed i t in_nets (λ none. empty (subst P none h))

  pub of_within : (t : ℕ) → v.horizon < t → IsOf t → ⊥
  of_within t late h = empty (subst P (is.within (get_or v.part.nets i 0) t late) h)

  pub of_row : (t : ℕ) (row : List Standing) → row ≡ row_at rows t → P (entry_on row i) → IsOf t
  of_row t row e h = subst P (ap (λ (ss : List Standing). entry_on ss i) e ∙ sym (rowed.entries i t in_nets)) h

  pub row_of : (t : ℕ) (row : List Standing) → row ≡ row_at rows t → IsOf t → P (entry_on row i)
  row_of t row e h = subst P (sym (ap (λ (ss : List Standing). entry_on ss i) e ∙ sym (rowed.entries i t in_nets))) h

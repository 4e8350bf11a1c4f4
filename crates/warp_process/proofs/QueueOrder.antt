-- Queues: what their entries are.
use Rattle.std.proofs.Common.{◌≡◌, ◌≢◌, ℕ, zero, suc, ◌<◌, Bool, true, false, cond, ◌⊎◌, List, [], ◌∷◌, ◌++◌, ◌==◌, ◌∙◌, sym, length, get_or, refl, arith, nat_eq, inl, inr}
use Rattle.std.specs.List.{All}
use Rattle.std.proofs.lemmas.Bool.{cases_eq, eq-eqb, eqb-true, ne_eqb}
use Rattle.warp_process.specs.Entries.{Received, entry_in, no_messages}
use Rattle.warp_process.proofs.Rising.{Rises}

abbrev pub time_of : Received → ℕ
time_of e = e.time

-- no entry of the queue is that of the time
abbrev pub Lacks : List Received → ℕ → Type 0
Lacks es t = All (λ (e : Received). e.time ≢ t) es

abbrev pub IsPlaced : List Received → ℕ → Type 0
IsPlaced es t = (i : ℕ) × (i < length es) × ((d : Received) → (get_or es i d).time ≡ t) × ((d : Received) → (get_or es i d).entry ≡ entry_in es t)

pub entry_in-none : (es : List Received) (t : ℕ) → Lacks es t → entry_in es t ≡ no_messages
entry_in-none [] t h = refl
entry_in-none (e ∷ es) t h = rw (ne_eqb e.time t (h 0 e (omega arith))) (entry_in-none es t (λ k d l. h (suc k) d (omega arith)))

place_step : (e : Received) (es : List Received) (t : ℕ) → (entry_in es t ≡ no_messages) ⊎ IsPlaced es t → (entry_in (e ∷ es) t ≡ no_messages) ⊎ IsPlaced (e ∷ es) t
place_step e es t later = go (nat_eq e.time t) refl later
  where
    go : (b : Bool) → nat_eq e.time t ≡ b → (entry_in es t ≡ no_messages) ⊎ IsPlaced es t
        → (cond b e.entry (entry_in es t) ≡ no_messages) ⊎ ((i : ℕ) × (i < suc (length es)) × ((d : Received) → (get_or (e ∷ es) i d).time ≡ t) × ((d : Received) → (get_or (e ∷ es) i d).entry ≡ cond b e.entry (entry_in es t)))
    go true is later = inr (0, omega arith, λ d. eqb-true e.time t is, λ d. refl)
    go false is (inl none) = inl none
    go false is (inr (i, l, at, entry)) = inr (suc i, omega (arith, l), at, entry)

-- an entry is empty, or it stands at a place
pub entry_in-place : (es : List Received) (t : ℕ) → (entry_in es t ≡ no_messages) ⊎ IsPlaced es t
entry_in-place [] t = inl refl
entry_in-place (e ∷ es) t = place_step e es t (entry_in-place es t)

-- where a place has the time, it has the entry
pub entry_in-at : (es : List Received) (i t : ℕ) (d : Received) → Rises time_of es → i < length es → (get_or es i d).time ≡ t → (get_or es i d).entry ≡ entry_in es t
entry_in-at [] i t d r l e = absurd (omega arith)
entry_in-at (x ∷ es) zero t d r l e = rw (eq-eqb x.time t e) refl
entry_in-at (x ∷ es) (suc i) t d r l e =
    let before : x.time < (get_or es i d).time = r 0 (suc i) d (omega arith) l in
    let other : x.time ≢ t = omega arith in
    rw (ne_eqb x.time t other) (entry_in-at es i t d (λ a b z h k. r (suc a) (suc b) z (omega arith) (omega arith)) (omega arith) e)

-- one entry more at the end
pub entry_in-pushed : (es : List Received) (e : Received) (t : ℕ) → Lacks es e.time → entry_in (es ++ e ∷ []) t ≡ cond (t == e.time) e.entry (entry_in es t)
entry_in-pushed [] e t lacks = elim (cases_eq e.time t) [
  | inl same ↦ rw (eq-eqb e.time t same, eq-eqb t e.time (sym same)) refl
  | inr other ↦ rw (ne_eqb e.time t other, ne_eqb t e.time (λ x. other (sym x))) refl
]
entry_in-pushed (x ∷ es) e t lacks = elim (cases_eq x.time t) [
  | inl same ↦ (let ne : t ≢ e.time = λ is. lacks 0 x (omega arith) (same ∙ is) in rw (eq-eqb x.time t same, ne_eqb t e.time ne) refl)
  | inr other ↦ rw (ne_eqb x.time t other) (entry_in-pushed es e t (λ k d l. lacks (suc k) d (omega arith)))
]

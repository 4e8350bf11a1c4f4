-- Rows: what their entries are, and what an edit leaves.
use Rattle.std.proofs.Common.{◌≡◌, ◌≢◌, ℕ, zero, suc, ◌+◌, ◌<◌, ◌≤◌, Bool, true, false, cond, ◌==◌, ◌⊎◌, List, [], ◌∷◌, length, get_or, refl, ap, sym, ◌∙◌, subst, arith, nat_eq, inl, inr}
use Rattle.std.specs.List.{All}
use Rattle.std.proofs.lemmas.List.{get_or_default}
use Rattle.std.specs.List.Sorted.{IsPartitionPoint}
use Rattle.std.proofs.lemmas.Bool.{cases_lt, cases_eq, eq-eqb, eqb-true, ne_eqb}
use Rattle.warp_process.specs.declared.entry.Entry.{Entry}
use Rattle.warp_process.specs.Entries.{no_messages}
use Rattle.warp_process.specs.Rows.{Standing, entry_on, IsRow}
use Rattle.warp_process.proofs.Rising.{Rises, rising-not_falling}

abbrev pub place_of : Standing → ℕ
place_of e = e.place

-- no entry of the row is that of the place
abbrev pub Lacks : List Standing → ℕ → Type 0
Lacks es t = All (λ (e : Standing). e.place ≢ t) es

abbrev pub IsPlaced : List Standing → ℕ → Type 0
IsPlaced es t = (i : ℕ) × (i < length es) × ((d : Standing) → (get_or es i d).place ≡ t) × ((d : Standing) → (get_or es i d).entry ≡ entry_on es t)

pub entry_on-none : (es : List Standing) (t : ℕ) → Lacks es t → entry_on es t ≡ no_messages
entry_on-none [] t h = refl
entry_on-none (e ∷ es) t h = rw (ne_eqb e.place t (h 0 e (omega arith))) (entry_on-none es t (λ k d l. h (suc k) d (omega arith)))

place_step : (e : Standing) (es : List Standing) (t : ℕ) → (entry_on es t ≡ no_messages) ⊎ IsPlaced es t → (entry_on (e ∷ es) t ≡ no_messages) ⊎ IsPlaced (e ∷ es) t
place_step e es t later = go (nat_eq e.place t) refl later
  where
    go : (b : Bool) → nat_eq e.place t ≡ b → (entry_on es t ≡ no_messages) ⊎ IsPlaced es t
        → (cond b e.entry (entry_on es t) ≡ no_messages) ⊎ ((i : ℕ) × (i < suc (length es)) × ((d : Standing) → (get_or (e ∷ es) i d).place ≡ t) × ((d : Standing) → (get_or (e ∷ es) i d).entry ≡ cond b e.entry (entry_on es t)))
    go true is later = inr (0, omega arith, λ d. eqb-true e.place t is, λ d. refl)
    go false is (inl none) = inl none
    go false is (inr (i, l, at, entry)) = inr (suc i, omega (arith, l), at, entry)

-- an entry is empty, or it stands at a place
pub entry_on-place : (es : List Standing) (t : ℕ) → (entry_on es t ≡ no_messages) ⊎ IsPlaced es t
entry_on-place [] t = inl refl
entry_on-place (e ∷ es) t = place_step e es t (entry_on-place es t)

-- where a place has the place, it has the entry
pub entry_on-at : (es : List Standing) (i t : ℕ) (d : Standing) → Rises place_of es → i < length es → (get_or es i d).place ≡ t → (get_or es i d).entry ≡ entry_on es t
entry_on-at [] i t d r l e = absurd (omega arith)
entry_on-at (x ∷ es) zero t d r l e = rw (eq-eqb x.place t e) refl
entry_on-at (x ∷ es) (suc i) t d r l e =
    let before : x.place < (get_or es i d).place = r 0 (suc i) d (omega arith) l in
    let other : x.place ≢ t = omega arith in
    rw (ne_eqb x.place t other) (entry_on-at es i t d (λ a b z h k. r (suc a) (suc b) z (omega arith) (omega arith)) (omega arith) e)

-- no place has the place, where the first that isn't before it is past it
pub lacks-split : (es : List Standing) (t i : ℕ) → Rises place_of es → IsPartitionPoint (λ e. e.place < t) (λ e. t ≤ e.place) es i → ((d : Standing) → i < length es → (get_or es i d).place ≢ t) → Lacks es t
lacks-split es t i r split other k d l = elim (cases_lt k i) [
  | inl lt ↦ (let b : (get_or es k d).place < t = split.0 k d (omega arith) lt in omega arith)
  | inr ge ↦ (let a : t ≤ (get_or es i d).place = split.1 i d (omega arith) (omega arith) in
      let ne : (get_or es i d).place ≢ t = other d (omega arith) in
      let order : (get_or es i d).place ≤ (get_or es k d).place = rising-not_falling place_of es r i k d ge l in
      omega arith)
]

abbrev pub nothing : Standing
nothing = record { place = 0; entry = no_messages }

-- what is true of an empty entry, and of all that stand, is true at each place
pub every_place : (P : Entry → Type 0) (ss : List Standing) → P no_messages → ((k : ℕ) (d : Standing) → k < length ss → P (get_or ss k d).entry) → (i : ℕ) → P (entry_on ss i)
every_place P ss empty all i = elim (entry_on-place ss i) [
  | inl none ↦ subst P (sym none) empty
  | inr (k, l, at, entry) ↦ subst P (entry nothing) (all k nothing l)
]

-- one entry more, of the first ones
pub one_more : (P : Entry → Type 0) (ss : List Standing) (k : ℕ) (s : Standing) → k < length ss → s ≡ get_or ss k s → P s.entry → ((j : ℕ) (d : Standing) → j < k → P (get_or ss j d).entry) → (j : ℕ) (d : Standing) → j < k + 1 → P (get_or ss j d).entry
one_more P ss k s l at here before j d h = elim (cases_eq j k) [
  | inl same ↦ subst (λ (x : Standing). P x.entry) (at ∙ (get_or_default ss k s d l ∙ ap (λ (i : ℕ). get_or ss i d) (sym same))) here
  | inr other ↦ before j d (let ne : j ≢ k = other in omega (arith, ne, h))
]

-- a row of one entry
pub one_row : (s : Standing) → s.entry ≢ no_messages → IsRow (s ∷ [])
one_row s some = record {
  in_order = λ i j d h l. absurd (omega arith);
  kept = λ k d l. (let e : k ≡ 0 = omega arith in subst (λ j. (get_or (s ∷ []) j d).entry ≢ no_messages) (sym e) some);
}

pub one_entry : (s : Standing) (i : ℕ) → entry_on (s ∷ []) i ≡ cond (i == s.place) s.entry no_messages
one_entry s i = elim (cases_eq s.place i) [
  | inl same ↦ rw (eq-eqb s.place i same, eq-eqb i s.place (sym same)) refl
  | inr other ↦ rw (ne_eqb s.place i other, ne_eqb i s.place (λ e. other (sym e))) refl
]

-- What can be committed, and what committing leaves.
use Rattle.std.proofs.Common.{◌≡◌, ℕ, true, ◌+◌, ◌<◌, ◌≤◌, Option, Some, None, [], length, get_or, inl, inr, refl, ap, sym, ◌∙◌, subst, arith}
use Rattle.std.proofs.lemmas.Bool.{cases_lt, cases_eq}
use Rattle.std.proofs.lemmas.List.Kept.{AllPairs-from_increasing}
use Rattle.warp_process.specs.declared.entry.Entry.{Entry}
use Rattle.warp_process.specs.Entries.{is_settled, entry_in}
use Rattle.warp_part.specs.Portion.{slot_of, at_slot}
use Rattle.warp_process.specs.View.{View, IsLeast}
use Rattle.warp_process.specs.Heard.{IsReceived}
use Rattle.warp_process.specs.Commit.{IsUnsettledBelow, IsFirstUnsettled}
use Rattle.warp_process.proofs.Hearing.{heard_entry}
use Rattle.warp_process.proofs.Settled.{settled-none}
use Rattle.warp_part.proofs.Slots.{slot_is}
use Rattle.warp_process.proofs.Unsettled.{IsUnsettledIn}

-- the first places have no unsettled entry below an end
abbrev pub NoneUnsettled : View → ℕ → ℕ → Type 0
NoneUnsettled v end n = (k t : ℕ) → k < n → IsUnsettledBelow v end (get_or v.part.nets k 0) t → ⊥

-- an unsettled entry stands at a place
pub unsettled_place : (v : View) (end n t : ℕ) → IsUnsettledBelow v end n t → (k : ℕ) × (k < length v.part.nets) × (get_or v.part.nets k 0 ≡ n)
unsettled_place v end n t h = go (slot_of v.part.nets n) refl
  where
    go : (o : Option ℕ) → slot_of v.part.nets n ≡ o → (k : ℕ) × (k < length v.part.nets) × (get_or v.part.nets k 0 ≡ n)
    go None e = absurd (h.1 (subst (λ (o : Option ℕ). is_settled (entry_in (at_slot v.queues [] o) t) ≡ true) (sym e) settled-none))
    go (Some k) e = (let at = slot_is v.part.nets n k e in (k, at.0, at.1))

module _ (v : View) (is : IsReceived v) (end i : ℕ) (in_nets : i < length v.part.nets) where
  abbrev net : ℕ
  net = get_or v.part.nets i 0

  -- all unsettled entries are from the floor on
  unsettled_in : (t : ℕ) → IsUnsettledBelow v end net t → IsUnsettledIn (get_or v.queues i []) v.floor end t
  unsettled_in t h = elim (cases_lt t v.floor) [
    | inl below ↦ absurd (h.1 (is.settled net t below))
    | inr from ↦ (from, h.0, λ settled. h.1 (subst (λ (e : Entry). is_settled e ≡ true) (sym (heard_entry v is i in_nets t)) settled))
  ]

  pub none_more : IsLeast (IsUnsettledIn (get_or v.queues i []) v.floor end) None → NoneUnsettled v end i → NoneUnsettled v end (i + 1)
  none_more none before k t l h = elim (cases_eq k i) [
    | inl here ↦ none t (unsettled_in t (subst (λ (j : ℕ). IsUnsettledBelow v end (get_or v.part.nets j 0) t) here h))
    | inr other ↦ before k t (let ne : k ≡ i → ⊥ = other in omega (arith, ne, l)) h
  ]

  pub first_found : (time : ℕ) → IsLeast (IsUnsettledIn (get_or v.queues i []) v.floor end) (Some time) → NoneUnsettled v end i → IsFirstUnsettled v end net time
  first_found time least before = (
    (least.0.1, λ settled. least.0.2 (subst (λ (e : Entry). is_settled e ≡ true) (heard_entry v is i in_nets time) settled)),
    λ n t h.
        (let place = unsettled_place v end n t h in
        let there : IsUnsettledBelow v end (get_or v.part.nets place.0 0) t = subst (λ (m : ℕ). IsUnsettledBelow v end m t) (sym place.2) h in
        elim (cases_lt place.0 i) [
          | inl lt ↦ absurd (before place.0 t lt there)
          | inr ge ↦ (elim (cases_eq place.0 i) [
            | inl here ↦ inr (sym (ap (λ j. get_or v.part.nets j 0) here) ∙ place.2, least.1 t (unsettled_in t (subst (λ (j : ℕ). IsUnsettledBelow v end (get_or v.part.nets j 0) t) here there)))
            | inr other ↦ (let ne : place.0 ≡ i → ⊥ = other in
                let past : i < place.0 = omega (arith, ne, ge) in
                let order : get_or v.part.nets i 0 < get_or v.part.nets place.0 0 = AllPairs-from_increasing v.part.nets is.part.ascending i place.0 0 past place.1 in
                let same : get_or v.part.nets place.0 0 ≡ n = place.2 in
                inl (omega arith))
          ])
        ]),
  )

pub none_unsettled : (v : View) (end n : ℕ) → length v.part.nets ≤ n → NoneUnsettled v end n → (m t : ℕ) → IsUnsettledBelow v end m t → ⊥
none_unsettled v end n all before m t h =
    let place = unsettled_place v end m t h in
    before place.0 t (let inside = place.1 in omega (arith, inside)) (subst (λ (j : ℕ). IsUnsettledBelow v end j t) (sym place.2) h)

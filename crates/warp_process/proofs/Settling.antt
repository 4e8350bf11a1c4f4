-- Entries below an end, looked at where rows stand.
use Rattle.std.proofs.Common.{◌≡◌, ℕ, ◌+◌, ◌<◌, ◌≤◌, true, List, Some, None, inl, inr, ap, sym, ◌∙◌, subst, arith}
use Rattle.std.proofs.lemmas.Bool.{cases_Bool, cases_lt, true≢false}
use Rattle.warp_process.specs.declared.entry.Entry.{Entry}
use Rattle.warp_process.specs.declared.by_time.Rows.{Rows}
use Rattle.warp_process.specs.Heard.{IsReceived}
use Rattle.warp_process.specs.Rows.{Standing, entry_on}
use Rattle.warp_process.specs.Inner.Rows.{row_at, is_listed}
use Rattle.warp_process.specs.Commit.{IsUnsettledBelow}
use Rattle.warp_process.specs.Entries.{is_settled}
use Rattle.warp_process.specs.View.{View, IsLeast, entry_of}
use Rattle.warp_process.proofs.Committing.{unsettled_place}
use Rattle.warp_process.proofs.Hearing.{IsRowed, stands_listed}
use Rattle.warp_process.proofs.Settled.{settled-none}

-- the entries at times before one, and below an end, are settled
abbrev pub AreSettledUntil : View → ℕ → ℕ → Type 0
AreSettledUntil v end from = (n t : ℕ) → t < from → IsUnsettledBelow v end n t → ⊥

module _ (v : View) (end : ℕ) (rows : Rows) (rowed : IsRowed v rows) where
  -- the row of an unsettled entry stands
  unsettled_listed : (n t : ℕ) → IsUnsettledBelow v end n t → is_listed rows t ≡ true
  unsettled_listed n t h =
      let at = unsettled_place v end n t h in
      stands_listed v rows rowed at.0 t at.1 (λ none. h.1 (subst (λ (m : ℕ). is_settled (entry_of v m t) ≡ true) at.2 (subst (λ (e : Entry). is_settled e ≡ true) (sym none) settled-none)))

  module _ (from : ℕ) (before : AreSettledUntil v end from) where
    -- where no row stands, there is none
    unlisted_until : (until : ℕ) → ((t : ℕ) → from ≤ t → t < until → ¬ (is_listed rows t ≡ true)) → AreSettledUntil v end until
    unlisted_until until none n t l h = elim (cases_lt t from) [
      | inl early ↦ before n t early h
      | inr late ↦ none t late l (unsettled_listed n t h)
    ]

    pub settled_nowhere : IsLeast (λ t. (from ≤ t) × (is_listed rows t ≡ true)) None → (n t : ℕ) → IsUnsettledBelow v end n t → ⊥
    settled_nowhere none n t h = unlisted_until end (λ u a b listed. none u (a, listed)) n t h.0 h

    module _ (time : ℕ) (least : IsLeast (λ t. (from ≤ t) × (is_listed rows t ≡ true)) (Some time)) where
      settled_before : AreSettledUntil v end time
      settled_before = unlisted_until time (λ u a b listed. (let below = least.1 u (a, listed) in omega (arith, below, b)))

      pub settled_past : end ≤ time → (n t : ℕ) → IsUnsettledBelow v end n t → ⊥
      settled_past done n t h = settled_before n t (let below = h.0 in omega (arith, below, done)) h

      pub settled_more : (row : List Standing) → row ≡ row_at rows time → ((i : ℕ) → is_settled (entry_on row i) ≡ true) → AreSettledUntil v end (time + 1)
      settled_more row is here n t l h = elim (cases_lt t time) [
        | inl early ↦ settled_before n t early h
        | inr late ↦ (let same : t ≡ time = omega (arith, late, l) in
            let at = unsettled_place v end n t h in
            h.1 (subst (λ u. is_settled (entry_of v n u) ≡ true) (sym same)
            (subst (λ (m : ℕ). is_settled (entry_of v m time) ≡ true) at.2
            (subst (λ (e : Entry). is_settled e ≡ true) (ap (λ (ss : List Standing). entry_on ss at.0) is ∙ sym (rowed.entries at.0 time at.1)) (here at.0)))))
      ]

-- what is settled below a floor serves as what is received from it on
pub floor_received : (v : View) (floor : ℕ) → IsReceived v → ((n t : ℕ) → IsUnsettledBelow v floor n t → ⊥) → IsReceived (record v { floor = floor })
floor_received v floor is none = record {
  part = is.part;
  horizon = is.horizon;
  queues = is.queues;
  ordered = is.ordered;
  own = is.own;
  settled = λ n t l. elim (cases_Bool (is_settled (entry_of v n t))) [
    | inl settled ↦ settled
    | inr not ↦ absurd (none n t (l, λ settled. true≢false (sym settled ∙ not)))
  ];
  within = is.within;
}

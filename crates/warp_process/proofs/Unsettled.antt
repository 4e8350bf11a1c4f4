-- The entries of a place that aren't settled.
use Rattle.std.proofs.Common.{◌≡◌, ℕ, true, ◌<◌, ◌≤◌, Option, List, [], length, get_or, sym, ◌∙◌, subst}
use Rattle.warp_process.specs.declared.entry.Entry.{Entry}
use Rattle.warp_process.specs.declared.by_time.Rows.{Rows}
use Rattle.warp_process.specs.Entries.{Received, is_settled, entry_in}
use Rattle.warp_process.specs.Heard.{IsReceived}
use Rattle.warp_process.specs.Inner.Rows.{entry_at}
use Rattle.warp_process.specs.View.{View, IsLeast}
use Rattle.warp_process.proofs.Hearing.{IsRowed, heard_entry}
use Rattle.warp_process.proofs.Rows.{same_least}

-- an entry from a time on and below an end isn't settled
abbrev pub IsUnsettledIn : List Received → ℕ → ℕ → ℕ → Type 0
IsUnsettledIn es from end t = (from ≤ t) × (t < end) × ¬ (is_settled (entry_in es t) ≡ true)

-- the first one in rows is that of the queue
pub least_row : (v : View) (rows : Rows) → IsReceived v → IsRowed v rows → (i end : ℕ) → i < length v.part.nets → (r : Option ℕ) →
    IsLeast (λ t. (v.floor ≤ t) × (t < end) × ¬ (is_settled (entry_at rows t i) ≡ true)) r → IsLeast (IsUnsettledIn (get_or v.queues i []) v.floor end) r
least_row v rows is rowed i end l r =
    same_least (λ t. (v.floor ≤ t) × (t < end) × ¬ (is_settled (entry_at rows t i) ≡ true)) (IsUnsettledIn (get_or v.queues i []) v.floor end) r
    (λ t h. (h.0, h.1, λ settled. h.2 (subst (λ (e : Entry). is_settled e ≡ true) (same t) settled)))
    (λ t h. (h.0, h.1, λ settled. h.2 (subst (λ (e : Entry). is_settled e ≡ true) (sym (same t)) settled)))
  where
    same : (t : ℕ) → entry_in (get_or v.queues i []) t ≡ entry_at rows t i
    same t = sym (heard_entry v is i l t) ∙ rowed.entries i t l

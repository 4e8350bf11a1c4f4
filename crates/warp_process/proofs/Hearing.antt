-- What a block has received at a place.
use Rattle.std.proofs.Common.{◌≡◌, ◌≢◌, ℕ, ◌<◌, ◌≤◌, Bool, true, false, cond, Option, Some, None, IfSome, List, [], length, get_or, ap, arith, subst, sym, ◌∙◌, inl, inr, nat_cmp, All}
use Rattle.std.specs.List.Sorted.{IsStrictlyIncreasing}
use Rattle.std.proofs.lemmas.List.{get_or_default}
use Rattle.std.proofs.lemmas.List.FromFn.{length-map-range_with_len, get_or-map-range_with_len}
use Rattle.std.specs.BTreeMap.{IsOrdered}
use Rattle.std.proofs.lemmas.Bool.{cases_Bool, cases_lt}
use Rattle.warp_part.specs.Portion.{slot_of, at_slot}
use Rattle.warp_part.proofs.Slots.{of_net-at, slot_is}
use Rattle.warp_process.specs.declared.by_time.Rows.{Rows}
use Rattle.warp_process.specs.declared.heard.Heard.TheInside.{Inside}
use Rattle.warp_process.specs.Entries.{Received, IsQueue, entry_in, no_messages}
use Rattle.warp_process.specs.Rows.{Standing, entry_on}
use Rattle.warp_process.specs.Shown.Rows.{queue_in}
use Rattle.warp_process.specs.Shown.Heard.{heard_by}
use Rattle.warp_process.specs.View.{View, queue_of, entry_of}
use Rattle.warp_process.specs.Heard.{IsReceived}
use Rattle.warp_process.specs.Inner.Rows.{row_at, entry_at, is_listed, AreRows}
use Rattle.warp_process.specs.Inner.Heard.{IsHeld}
use Rattle.warp_process.proofs.ByTime.{row_none, row_places}
use Rattle.warp_process.proofs.Queued.{queued, queued_entry}

module _ (v : View) (is : IsReceived v) (i : ℕ) (in_nets : i < length v.part.nets) where
  -- the queue at a place is that of its net
  pub heard_queue : queue_of v (get_or v.part.nets i 0) ≡ get_or v.queues i []
  heard_queue = of_net-at v.part.nets v.queues [] i is.part.ascending in_nets

  pub heard_ordered : IsQueue (get_or v.queues i [])
  heard_ordered = is.ordered i [] (omega (arith, is.queues, in_nets))

  pub heard_entry : (t : ℕ) → entry_of v (get_or v.part.nets i 0) t ≡ entry_in (get_or v.queues i []) t
  heard_entry t = ap (λ (q : List Received). entry_in q t) heard_queue

-- the fields have the nets that are seen
pub in_heard : (heard : Inside) (v : View) (i : ℕ) → heard_by heard ≡ v → i < length v.part.nets → i < length heard.part.nets
in_heard heard v i e h = let P : View → Type 0 = λ w. i < length w.part.nets in subst P (sym e) h

-- what is true of the fields, of the view that is seen
pub seen_received : (heard : Inside) (v : View) → heard_by heard ≡ v → IsHeld heard → IsReceived v
seen_received heard v e is = subst IsReceived e is.received

-- what a search finds is the place of the net
pub found_named : (nets : List ℕ) (b : Bool) (n : ℕ) (found : Option ℕ) → found ≡ cond b (slot_of nets n) None → IfSome found (λ i. (i < length nets) × (get_or nets i 0 ≡ n))
found_named nets b n None e = tt
found_named nets true n (Some i) e = slot_is nets n i (sym e)
found_named nets false n (Some i) e = absurd cc

-- ---- the fields, as they are seen
module _ (heard : Inside) (ordered : IsOrdered nat_cmp heard.rows.times) where
  abbrev queues : List (List Received)
  queues = (heard_by heard).queues

  pub queues_count : length (heard_by heard).queues ≡ length heard.part.nets
  queues_count = length-map-range_with_len (queue_in heard.rows.times.entries) 0 (length heard.part.nets)

  pub queue_is : (i : ℕ) → i < length heard.part.nets → get_or (heard_by heard).queues i [] ≡ queue_in heard.rows.times.entries i
  queue_is i l = get_or-map-range_with_len (queue_in heard.rows.times.entries) 0 (length heard.part.nets) i i [] l (omega arith)

  pub queues_are : All IsQueue (heard_by heard).queues
  queues_are k d l =
      subst IsQueue (sym (get_or_default (heard_by heard).queues k d [] l ∙ queue_is k (omega (arith, l, queues_count)))) (queued heard.rows.times.entries k ordered)

  pub queue_entry : (i t : ℕ) → i < length heard.part.nets → entry_in (get_or (heard_by heard).queues i []) t ≡ entry_at heard.rows t i
  queue_entry i t l = ap (λ (q : List Received). entry_in q t) (queue_is i l) ∙ queued_entry heard.rows.times.entries i t ordered

  -- the entry of the net at a place
  pub held_entry : IsStrictlyIncreasing heard.part.nets → (i t : ℕ) → i < length heard.part.nets → entry_of (heard_by heard) (get_or heard.part.nets i 0) t ≡ entry_at heard.rows t i
  held_entry rising i t l = ap (λ (q : List Received). entry_in q t) (of_net-at heard.part.nets (heard_by heard).queues [] i rising l) ∙ queue_entry i t l

-- what a block has received, in rows
pub record IsRowed (v : View) (rows : Rows) : Type 0 where
  pub are : AreRows rows
  pub entries : (i t : ℕ) → i < length v.part.nets → entry_of v (get_or v.part.nets i 0) t ≡ entry_at rows t i
  pub within : (t i : ℕ) → length v.part.nets ≤ i → entry_at rows t i ≡ no_messages

pub seen_rows : (heard : Inside) (v : View) → heard_by heard ≡ v → IsHeld heard → IsRowed v heard.rows
seen_rows heard v e is = subst (λ (w : View). IsRowed w heard.rows) e (record {
  are = is.rows;
  entries = held_entry heard is.rows.ordered is.received.part.ascending;
  within = is.within;
})

-- an entry that isn't empty stands in a row
pub stands_listed : (v : View) (rows : Rows) → IsRowed v rows → (i t : ℕ) → i < length v.part.nets → entry_of v (get_or v.part.nets i 0) t ≢ no_messages → is_listed rows t ≡ true
stands_listed v rows rowed i t l some = elim (cases_Bool (is_listed rows t)) [
  | inl yes_ ↦ yes_
  | inr none ↦ absurd (some (rowed.entries i t l ∙ ap (λ (ss : List Standing). entry_on ss i) (row_none rows t none)))
]

-- a net that has no place has no entry
pub no_place : (v : View) (n t : ℕ) → slot_of v.part.nets n ≡ None → entry_of v n t ≡ no_messages
no_place v n t e = ap (λ (o : Option ℕ). entry_in (at_slot v.queues [] o) t) e

-- a row has the places of nets alone
pub row_within : (v : View) (rows : Rows) → IsRowed v rows → (t : ℕ) (row : List Standing) → row ≡ row_at rows t → All (λ (s : Standing). s.place < length v.part.nets) row
row_within v rows rowed t row e = row_places rows (length v.part.nets) rowed.are rowed.within t row e

-- past the horizon no row has an entry
pub late_rows : (heard : Inside) → IsHeld heard → (t i : ℕ) → heard.horizon < t → entry_at heard.rows t i ≡ no_messages
late_rows heard is t i late = elim (cases_lt i (length heard.part.nets)) [
  | inl l ↦ sym (held_entry heard is.rows.ordered is.received.part.ascending i t l) ∙ is.received.within (get_or heard.part.nets i 0) t late
  | inr past ↦ is.within t i past
]

-- the place that was found of a net
pub place_of_net : (heard : Inside) (v : View) (n i : ℕ) → heard_by heard ≡ v → slot_of heard.part.nets n ≡ Some i → (i < length v.part.nets) × (get_or v.part.nets i 0 ≡ n)
place_of_net heard v n i e found = subst (λ (w : View). (i < length w.part.nets) × (get_or w.part.nets i 0 ≡ n)) e (slot_is heard.part.nets n i found)

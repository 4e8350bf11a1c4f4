-- Taking in an entry keeps what is true of what a block has received.
use Rattle.std.proofs.Common.{◌≡◌, ◌≢◌, ℕ, ◌<◌, ◌≤◌, ◌&&◌, ◌==◌, Bool, true, false, cond, not, Option, Some, None, List, [], ◌∷◌, length, get_or, map, inl, inr, refl, ap, sym, ◌∙◌, subst, arith, is_some, Result, Ok, Err, IfOk, OnErr}
use Rattle.std.specs.List.{range_with_len}
use Rattle.std.proofs.lemmas.Bool.{ne_eqb, eq-eqb, cases_eq, cases_lt, and_right, true≢false, and_parts}
use Rattle.std.proofs.lemmas.List.Kept.{AllPairs-from_increasing}
use Rattle.warp_process.specs.declared.entry.Entry.{Entry}
use Rattle.warp_process.specs.declared.by_time.Rows.{Rows}
use Rattle.warp_process.specs.declared.heard.Heard.TheInside.{Inside}
use Rattle.warp_part.specs.Portion.{owns, hears, reads, is_input, slot_of}
use Rattle.warp_part.proofs.Slots.{slot_is, slot_at}
use Rattle.warp_process.specs.Entries.{Received, IsQueue, entry_in, is_settled}
use Rattle.warp_process.specs.View.{View, entry_of}
use Rattle.warp_process.specs.Heard.{IsReceived}
use Rattle.warp_process.specs.Shown.Heard.{heard_by}
use Rattle.warp_process.specs.Shown.Rows.{queue_in}
use Rattle.warp_process.specs.Inner.Rows.{entry_at, AreRows, IsEntered}
use Rattle.warp_process.specs.Inner.Heard.{IsHeld}
use Rattle.warp_process.specs.Shown.Receive.{IsPut}
use Rattle.warp_process.proofs.Hearing.{held_entry, queue_entry, queues_are, queues_count, no_place}
use Rattle.warp_process.proofs.Queued.{queued, queued_entry, same_queues}
use Rattle.warp_process.proofs.Sure.{sure_put}

empty_queue : IsQueue []
empty_queue = record { in_order = λ i j d h l. absurd (omega arith); kept = λ k d l. absurd (omega arith) }

map_same : {A B : Type 0} (f g : A → B) (xs : List A) → ((x : A) → f x ≡ g x) → map f xs ≡ map g xs
map_same f g [] e = refl
map_same f g (x ∷ xs) e = ap (λ y. y ∷ map f xs) (e x) ∙ ap (λ ys. g x ∷ ys) (map_same f g xs e)

and_swap : (a b : Bool) → (a && b) ≡ (b && a)
and_swap true true = refl
and_swap true false = refl
and_swap false true = refl
and_swap false false = refl

-- rows with the same entries are seen alike
pub seen_alike : (h : Inside) (new : Rows) → AreRows h.rows → AreRows new → ((t i : ℕ) → entry_at new t i ≡ entry_at h.rows t i) →
    map (queue_in new.times.entries) (range_with_len 0 (length h.part.nets)) ≡ (heard_by h).queues
seen_alike h new are are_new same = map_same (queue_in new.times.entries) (queue_in h.rows.times.entries) (range_with_len 0 (length h.part.nets)) (λ i.
    same_queues (queue_in new.times.entries i) (queue_in h.rows.times.entries i) (queued new.times.entries i are_new.ordered) (queued h.rows.times.entries i are.ordered)
    (λ t. queued_entry new.times.entries i t are_new.ordered ∙ (same t i ∙ sym (queued_entry h.rows.times.entries i t are.ordered))))

module _ (h : Inside) (is : IsHeld h) (new : Rows) (sure : ℕ) (are : AreRows new) (slot time : ℕ) (entry : Entry) (in_nets : slot < length h.part.nets) (entered : IsEntered h.rows new time slot entry) where
  abbrev net : ℕ
  net = get_or h.part.nets slot 0

  abbrev after : Inside
  after = record { part = h.part; horizon = h.horizon; floor = h.floor; sure = sure; rows = new }

  -- nets are told apart by their places
  apart : (i : ℕ) → i < length h.part.nets → i ≢ slot → get_or h.part.nets i 0 ≢ net
  apart i l ne = elim (cases_lt i slot) [
    | inl lt ↦ (let order : get_or h.part.nets i 0 < net = AllPairs-from_increasing h.part.nets is.received.part.ascending i slot 0 lt in_nets in λ e. absurd (omega arith))
    | inr ge ↦ (let order : net < get_or h.part.nets i 0 = AllPairs-from_increasing h.part.nets is.received.part.ascending slot i 0 (omega (arith, ne, ge)) l in λ e. absurd (omega arith))
  ]

  same_slot : (i : ℕ) → i < length h.part.nets → (i == slot) ≡ (get_or h.part.nets i 0 == net)
  same_slot i l = elim (cases_eq i slot) [
    | inl same ↦ eq-eqb i slot same ∙ sym (eq-eqb (get_or h.part.nets i 0) net (ap (λ k. get_or h.part.nets k 0) same))
    | inr other ↦ ne_eqb i slot other ∙ sym (ne_eqb (get_or h.part.nets i 0) net (apart i l other))
  ]

  entry_here : (i t : ℕ) → i < length h.part.nets → entry_of (heard_by after) (get_or h.part.nets i 0) t ≡ cond ((get_or h.part.nets i 0 == net) && (t == time)) entry (entry_of (heard_by h) (get_or h.part.nets i 0) t)
  entry_here i t l =
      held_entry after are.ordered is.received.part.ascending i t l
      ∙ (entered t i
      ∙ (ap (λ b. cond b entry (entry_at h.rows t i)) (and_swap (t == time) (i == slot) ∙ ap (λ b. b && (t == time)) (same_slot i l))
      ∙ ap (cond ((get_or h.part.nets i 0 == net) && (t == time)) entry) (sym (held_entry h is.rows.ordered is.received.part.ascending i t l))))

  entries_after : (n t : ℕ) → entry_of (heard_by after) n t ≡ cond ((n == net) && (t == time)) entry (entry_of (heard_by h) n t)
  entries_after n t = go (slot_of h.part.nets n) refl
    where
      go : (o : Option ℕ) → slot_of h.part.nets n ≡ o → entry_of (heard_by after) n t ≡ cond ((n == net) && (t == time)) entry (entry_of (heard_by h) n t)
      go None e =
          let ne : n ≢ net = λ same. (let two : None ≡ Some slot = sym e ∙ (ap (slot_of h.part.nets) same ∙ slot_at h.part.nets slot is.received.part.ascending in_nets) in absurd cc) in
          no_place (heard_by after) n t e ∙ (sym (no_place (heard_by h) n t e) ∙ ap (λ b. cond (b && (t == time)) entry (entry_of (heard_by h) n t)) (sym (ne_eqb n net ne)))
      go (Some i) e =
          let at = slot_is h.part.nets n i e in
          subst (λ m. entry_of (heard_by after) m t ≡ cond ((m == net) && (t == time)) entry (entry_of (heard_by h) m t)) at.1 (entry_here i t at.0)

  pub put_is : IsPut (heard_by h) (heard_by after) net time entry
  put_is = record { part = refl; horizon = refl; floor = refl; entries = entries_after }

  -- entries at other times are as they were
  entry_elsewhere : (n t : ℕ) → t ≢ time → entry_of (heard_by after) n t ≡ entry_of (heard_by h) n t
  entry_elsewhere n t ne = entries_after n t ∙ ap (λ b. cond b entry (entry_of (heard_by h) n t)) (and_right (n == net) (t == time) (ne_eqb t time ne))

  not_own : hears h.part net ≡ true → owns h.part net ≡ true → ⊥
  not_own heard own =
      let read = and_parts (reads h.part net) (not (is_input h.part net)) heard in
      let foreign = and_parts (is_some (slot_of h.part.nets net)) (not (owns h.part net)) read.0 in
      true≢false (sym foreign.1 ∙ ap not own)

  own : hears h.part net ≡ true → (i : ℕ) → i < length h.part.nets → owns h.part (get_or h.part.nets i 0) ≡ true → get_or (heard_by after).queues i [] ≡ []
  own heard i l o =
      let ne : i ≢ slot = λ same. not_own heard (ap (λ k. owns h.part (get_or h.part.nets k 0)) (sym same) ∙ o) in
      same_queues (get_or (heard_by after).queues i []) [] (queues_are after are.ordered i [] (omega (arith, l, queues_count after are.ordered))) empty_queue
      (λ t. queue_entry after are.ordered i t l
      ∙ (entered t i ∙ (ap (λ b. cond b entry (entry_at h.rows t i)) (and_right (t == time) (i == slot) (ne_eqb i slot ne))
      ∙ (sym (queue_entry h is.rows.ordered i t l) ∙ ap (λ (q : List Received). entry_in q t) (is.received.own i l o)))))

  received_after : hears h.part net ≡ true → h.floor ≤ time → time ≤ h.horizon → IsReceived (heard_by after)
  received_after heard past until = record {
    part = is.received.part;
    horizon = is.received.horizon;
    queues = queues_count after are.ordered;
    ordered = queues_are after are.ordered;
    own = own heard;
    settled = λ n t l. subst (λ (e : Entry). is_settled e ≡ true) (sym (entry_elsewhere n t (let ne : t ≢ time = omega (arith, l, past) in ne))) (is.received.settled n t l);
    within = λ n t l. entry_elsewhere n t (let ne : t ≢ time = omega (arith, l, until) in ne) ∙ is.received.within n t l;
  }

  pub held_after : hears h.part net ≡ true → h.floor ≤ time → time ≤ h.horizon → sure ≤ h.sure → (time < sure → is_settled entry ≡ true) → IsHeld after
  held_after heard past until less settled = record {
    received = received_after heard past until;
    rows = are;
    within = λ t i l. entered t i ∙ (ap (λ b. cond b entry (entry_at h.rows t i)) (and_right (t == time) (i == slot) (ne_eqb i slot (let ne : i ≢ slot = omega (arith, l, in_nets) in ne))) ∙ is.within t i l);
    sure = sure_put (heard_by h) (heard_by after) net time h.sure sure entry put_is is.sure less settled;
  }

-- other rows with the same entries serve as well
module _ (h : Inside) (is : IsHeld h) (new : Rows) (are : AreRows new) (same : (t i : ℕ) → entry_at new t i ≡ entry_at h.rows t i) where
  pub view_alike : heard_by (record { part = h.part; horizon = h.horizon; floor = h.floor; sure = h.sure; rows = new }) ≡ heard_by h
  view_alike = ap (λ (qs : List (List Received)). record (heard_by h) { queues = qs }) (seen_alike h new is.rows are same)

  pub held_alike : IsHeld (record { part = h.part; horizon = h.horizon; floor = h.floor; sure = h.sure; rows = new })
  held_alike = record {
    received = subst IsReceived (sym view_alike) is.received;
    rows = are;
    within = λ t i l. same t i ∙ is.within t i l;
    sure = λ n t l. subst (λ (v : View). is_settled (entry_of v n t) ≡ true) (sym view_alike) (is.sure n t l);
  }

-- an answer that tells whether something was put
pub either_way : {E X : Type 0} (r : Result Bool E) (A B : Type 0) → IfOk r (λ put. put ≡ true → A) → IfOk r (λ put. put ≡ false → B) → OnErr r B → (A → X) → (B → X) → X
either_way (Ok true) A B put left err yes_ no_ = yes_ (put refl)
either_way (Ok false) A B put left err yes_ no_ = no_ (left refl)
either_way (Err e) A B put left err yes_ no_ = no_ err

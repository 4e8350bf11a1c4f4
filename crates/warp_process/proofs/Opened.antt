-- What a new block has received.
use Rattle.std.proofs.Common.{◌≡◌, ◌≢◌, ℕ, ◌+◌, ◌<◌, ◌≤◌, ◌++◌, ◌&&◌, ◌==◌, Bool, true, false, cond, List, [], ◌∷◌, map, length, get_or, take, inl, inr, refl, ap, sym, ◌∙◌, subst, arith, All}
use Rattle.std.proofs.lemmas.Bool.{cond-true, cond-false, true≢false, cases_lt, lt-ltb, le-ltb, ne_eqb}
use Rattle.std.proofs.lemmas.List.{get_or-map, get_or_default, get_or-take, length-map, length-take, map-append, take_more, same_lists}
use Rattle.gate_values.specs.declared.logic.Change.{Change}
use Rattle.gate_values.specs.Behaviour.{Outside}
use Rattle.gate_values.specs.Changes.{before_time}
use Rattle.gate_stimulus.specs.Given.{Given, changes_of}
use Rattle.net_waves.specs.Inner.Lists.{IsRising}
use Rattle.warp_part.specs.Portion.{Portion, at_slot, IsPortion, is_driven, is_input, owns}
use Rattle.warp_part.proofs.Slots.{of_net-at, of_net-map}
use Rattle.warp_process.specs.declared.entry.Entry.{Entry}
use Rattle.warp_process.specs.declared.by_time.Rows.{Rows}
use Rattle.warp_process.specs.declared.heard.Heard.TheInside.{Inside}
use Rattle.warp_process.specs.Entries.{Received, no_messages, one_message, entry_in, is_settled, IsQueue}
use Rattle.warp_process.specs.Limits.{most_horizon}
use Rattle.warp_process.specs.View.{View, entry_of}
use Rattle.warp_process.specs.Heard.{IsReceived}
use Rattle.warp_process.specs.Shown.Heard.{heard_by}
use Rattle.warp_process.specs.Shown.Rows.{queue_in}
use Rattle.warp_process.specs.Inner.Rows.{entry_at, AreRows}
use Rattle.warp_process.specs.Inner.Heard.{IsHeld}
use Rattle.warp_process.specs.Opening.{message_of, silent_view, opening_queue}
use Rattle.warp_process.proofs.Hearing.{queue_is, queues_count}
use Rattle.warp_process.proofs.QueueOrder.{Lacks, entry_in-pushed}
use Rattle.warp_process.proofs.Queued.{queued, queued_entry, same_queues}
use Rattle.warp_process.proofs.Settled.{settled-none, settled-one}

-- ---- the changes of an input, one after another
module _ (cs : List Change) (rising : IsRising cs) (k : ℕ) (c : Change) (l : k < length cs) (at : c ≡ get_or cs k c) where
  front_lacks : Lacks (map message_of (take k cs)) c.time
  front_lacks j d h =
      let front : List Change = take k cs in
      let size : length (map message_of front) ≡ length front = length-map front message_of in
      let short = length-take k cs in
      let here : get_or (map message_of front) j d ≡ message_of (get_or cs j c) = get_or-map message_of front j c d (omega arith) ∙ ap message_of (get_or-take k cs j c (omega arith)) in
      let early : (get_or cs j c).time < (get_or cs k c).time = rising j k c (omega arith) l in
      let same : (get_or (map message_of front) j d).time ≡ (get_or cs j c).time = ap (λ (e : Received). e.time) here in
      let now : c.time ≡ (get_or cs k c).time = ap (λ (x : Change). x.time) at in
      λ e. absurd (omega arith)

  pub change_more : (t : ℕ) → entry_in (map message_of (take (k + 1) cs)) t ≡ cond (t == c.time) (one_message c.value) (entry_in (map message_of (take k cs)) t)
  change_more t =
      ap (λ (es : List Received). entry_in es t) (ap (map message_of) (take_more cs k c l ∙ ap (λ (x : Change). take k cs ++ x ∷ []) (sym at)) ∙ map-append message_of (take k cs) (c ∷ []))
      ∙ entry_in-pushed (map message_of (take k cs)) (message_of c) t front_lacks

-- an entry at a time and a place, of a place's entries
pub at_both : (a b : Bool) (x y z : Entry) → cond (a && b) x (cond b y z) ≡ cond b (cond a x y) z
at_both true true x y z = refl
at_both true false x y z = refl
at_both false true x y z = refl
at_both false false x y z = refl

-- changes before an end leave no entry from it on
none_past : (end t : ℕ) (cs : List Change) → end ≤ t → entry_in (map message_of (before_time end cs)) t ≡ no_messages
none_past end t [] h = refl
none_past end t (c ∷ cs) h = elim (cases_lt c.time end) [
  | inl before ↦ rw (lt-ltb c.time end before) (rw (ne_eqb c.time t (let ne : c.time ≢ t = omega arith in ne)) (none_past end t cs h))
  | inr since ↦ rw (le-ltb c.time end since) (none_past end t cs h)
]

either_settled : (b : Bool) (x y : Entry) → is_settled x ≡ true → is_settled y ≡ true → is_settled (cond b x y) ≡ true
either_settled true x y a b = a
either_settled false x y a b = b

-- one message of each change stands
message_settled : (cs : List Change) (t : ℕ) → is_settled (entry_in (map message_of cs) t) ≡ true
message_settled [] t = settled-none
message_settled (c ∷ cs) t = either_settled (c.time == t) (one_message c.value) (entry_in (map message_of cs) t) (settled-one c.value) (message_settled cs t)

module _ (p : Portion) (is : IsPortion p) (stimulus : Given) (horizon : ℕ) where
  -- what an input begins with
  pub queue_of_input : (slot net : ℕ) (cs : List Change) → slot < length p.nets → get_or p.inputs slot false ≡ true → net ≡ get_or p.nets slot 0 → cs ≡ changes_of stimulus net →
      opening_queue p stimulus horizon (get_or p.nets slot 0) ≡ map message_of (before_time (horizon + 1) cs)
  queue_of_input slot net cs l input at given =
      cond-true (is_input p (get_or p.nets slot 0)) _ [] (of_net-at p.nets p.inputs false slot is.ascending l ∙ input)
      ∙ ap (λ (xs : List Change). map message_of (before_time (horizon + 1) xs)) (sym (given ∙ ap (changes_of stimulus) at))

  -- an own net is no input
  own_none : (i : ℕ) → i < length p.nets → owns p (get_or p.nets i 0) ≡ true → opening_queue p stimulus horizon (get_or p.nets i 0) ≡ []
  own_none i h own = go (is_input p (get_or p.nets i 0)) refl
    where
      go : (b : Bool) → is_input p (get_or p.nets i 0) ≡ b → opening_queue p stimulus horizon (get_or p.nets i 0) ≡ []
      go false e = cond-false (is_input p (get_or p.nets i 0)) _ [] e
      go true e =
          let outside = is.input i h (sym (of_net-at p.nets p.inputs false i is.ascending h) ∙ e) in
          absurd (true≢false (sym own ∙ (ap is_driven (of_net-at p.nets p.sources Outside i is.ascending h) ∙ ap is_driven outside)))

  -- what the net of a place, if it has one, begins with
  opening_entry : (n t : ℕ) → entry_of (silent_view p stimulus horizon) n t ≡ entry_in (opening_queue p stimulus horizon n) t
  opening_entry n t = ap (λ (q : List Received). entry_in q t) (of_net-map p.nets (opening_queue p stimulus horizon) [] n (λ none. cond-false (is_input p n) _ [] (ap (at_slot p.inputs false) none)))

  -- nothing is past the horizon
  none_late : (n t : ℕ) → horizon < t → entry_of (silent_view p stimulus horizon) n t ≡ no_messages
  none_late n t h = opening_entry n t ∙ go (is_input p n)
    where
      go : (b : Bool) → entry_in (cond b (map message_of (before_time (horizon + 1) (changes_of stimulus n))) []) t ≡ no_messages
      go false = refl
      go true = none_past (horizon + 1) t (changes_of stimulus n) (omega arith)

  pub all_settled : (n t : ℕ) → is_settled (entry_of (silent_view p stimulus horizon) n t) ≡ true
  all_settled n t = subst (λ (e : Entry). is_settled e ≡ true) (sym (opening_entry n t)) (go (is_input p n))
    where
      go : (b : Bool) → is_settled (entry_in (cond b (map message_of (before_time (horizon + 1) (changes_of stimulus n))) []) t) ≡ true
      go false = settled-none
      go true = message_settled (before_time (horizon + 1) (changes_of stimulus n)) t

  pub opening_received : horizon ≤ most_horizon → All IsQueue (map (opening_queue p stimulus horizon) p.nets) → IsReceived (silent_view p stimulus horizon)
  opening_received end queues = record {
    part = is;
    horizon = end;
    queues = length-map p.nets (opening_queue p stimulus horizon);
    ordered = queues;
    own = λ i h own. get_or-map (opening_queue p stimulus horizon) p.nets i 0 [] h ∙ own_none i h own;
    settled = λ n t l. absurd (omega arith);
    within = none_late;
  }

  -- rows that have what each place begins with
  module _ (rows : Rows) (sure : ℕ) (are : AreRows rows) (opened : (t i : ℕ) → i < length p.nets → entry_at rows t i ≡ entry_in (opening_queue p stimulus horizon (get_or p.nets i 0)) t)
      (queues : (i : ℕ) → i < length p.nets → IsQueue (opening_queue p stimulus horizon (get_or p.nets i 0))) (rest : (t i : ℕ) → length p.nets ≤ i → entry_at rows t i ≡ no_messages) where
    abbrev made : Inside
    made = record { part = p; horizon = horizon; floor = 0; sure = sure; rows = rows }

    queues_same : (heard_by made).queues ≡ map (opening_queue p stimulus horizon) p.nets
    queues_same = same_lists (heard_by made).queues (map (opening_queue p stimulus horizon) p.nets) (queues_count made are.ordered ∙ sym (length-map p.nets (opening_queue p stimulus horizon)))
        (λ k d l.
        (let in_nets : k < length p.nets = omega (arith, l, queues_count made are.ordered) in
        get_or_default (heard_by made).queues k d [] l ∙ (queue_is made are.ordered k in_nets
        ∙ (same_queues (queue_in rows.times.entries k) (opening_queue p stimulus horizon (get_or p.nets k 0)) (queued rows.times.entries k are.ordered) (queues k in_nets)
        (λ t. queued_entry rows.times.entries k t are.ordered ∙ opened t k in_nets)
        ∙ sym (get_or-map (opening_queue p stimulus horizon) p.nets k 0 d in_nets)))))

    pub made_view : heard_by made ≡ silent_view p stimulus horizon
    made_view = ap (λ (qs : List (List Received)). record (silent_view p stimulus horizon) { queues = qs }) queues_same

    opening_queues : All IsQueue (map (opening_queue p stimulus horizon) p.nets)
    opening_queues k d l =
        let in_nets : k < length p.nets = omega (arith, l, length-map p.nets (opening_queue p stimulus horizon)) in
        subst IsQueue (sym (get_or-map (opening_queue p stimulus horizon) p.nets k 0 d in_nets)) (queues k in_nets)

    pub made_held : horizon ≤ most_horizon → IsHeld made
    made_held end = record {
      received = subst IsReceived (sym made_view) (opening_received end opening_queues);
      rows = are;
      within = rest;
      sure = λ n t l. subst (λ (v : View). is_settled (entry_of v n t) ≡ true) (sym made_view) (all_settled n t);
    }

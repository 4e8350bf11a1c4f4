-- What a block holds at a place.
use Rattle.std.proofs.Common.{◌≡◌, ℕ, ◌+◌, ◌<◌, ◌≤◌, true, false, min, inl, inr, Option, Some, None, List, [], length, get_or, set, refl, ap, sym, ◌∙◌, subst, arith, IsSome, Vec, All}
use Rattle.std.specs.declared.alloc.Global.{Global}
use Rattle.std.proofs.lemmas.Bool.{cond-true, cond-false}
use Rattle.std.proofs.lemmas.List.{get_or-map, get_or_default, length-map}
use Rattle.std.proofs.Math.Seq.{map-set_same}
use Rattle.gate_values.specs.declared.logic.Logic.{Logic}
use Rattle.gate_values.specs.declared.logic.Logic.TheVariants.{X}
use Rattle.gate_values.specs.declared.logic.Change.{Change}
use Rattle.gate_values.specs.Behaviour.{Source, Outside, value, source_delay}
use Rattle.gate_values.specs.Changes.{pair_at, changes, latest, held, before_time}
use Rattle.gate_values.proofs.Behaving.{outside_is}
use Rattle.gate_values.proofs.ChangeLists.{before_time-changes}
use Rattle.gate_stimulus.proofs.WaveValues.{latest-changes}
use Rattle.warp_process.specs.Entries.{Received, IsQueue, entry_in}
use Rattle.warp_process.specs.Inner.Entries.{effective_in}
use Rattle.warp_process.specs.Inner.Logs.{IsLog}
use Rattle.warp_part.specs.Portion.{is_driven, source_of, owns}
use Rattle.warp_process.specs.View.{View, queue_of, entry_of, effective_at, log_of, news_of, block_value, IsLeast}
use Rattle.warp_process.specs.Lawful.{IsLawful, lawful_log}
use Rattle.warp_process.specs.Shown.Rows.{lists_in}
use Rattle.warp_process.specs.Inner.Advance.{IsQuiet}
use Rattle.warp_part.proofs.Slots.{of_net-at}
use Rattle.warp_process.proofs.LogOrder.{IsLog-run}
use Rattle.warp_process.proofs.Running.{run_log, given, IsDriven, delayed, le_cases}
use Rattle.warp_process.proofs.Views.{timed}
use Rattle.warp_process.proofs.Quiet.{quiet_log_to}

-- an element of a list of vectors, as a list
pub row_at : {T : Type 0} → (vs : List (Vec T Global)) (i : ℕ) (v : Vec T Global) → i < length vs → v ≡ get_or vs i v → get_or (lists_in vs) i [] ≡ v.items
row_at {T} vs i v h e = get_or-map (λ (v : Vec T Global). v.items) vs i v [] h ∙ ap (λ (w : Vec T Global). w.items) (sym e)

-- an element of a list of lists
pub list_at : {T : Type 0} → (ls : List (List T)) (i : ℕ) (l : List T) → i < length ls → l ≡ get_or ls i l → get_or ls i [] ≡ l
list_at ls i l h e = get_or_default ls i [] l h ∙ sym e

pub same_least : (P Q : ℕ → Type 0) (r : Option ℕ) → ((t : ℕ) → P t → Q t) → ((t : ℕ) → Q t → P t) → IsLeast P r → IsLeast Q r
same_least P Q None to back h = λ t q. h t (back t q)
same_least P Q (Some t) to back h = (to t h.0, λ u q. h.1 u (back u q))

-- the next time from a mark at which a function has a value, where another one has the same values
pub same_next : (m : ℕ) (f g : ℕ → Option Logic) (r : Option ℕ) → ((t : ℕ) → f t ≡ g t) → IsLeast (λ t. (m ≤ t) × IsSome (f t)) r → IsLeast (λ t. (m ≤ t) × IsSome (g t)) r
same_next m f g r e h =
    same_least (λ t. (m ≤ t) × IsSome (f t)) (λ t. (m ≤ t) × IsSome (g t)) r
    (λ t p. (p.0, subst (λ o. IsSome o) (e t) p.1)) (λ t p. (p.0, subst (λ o. IsSome o) (sym (e t)) p.1)) h

-- there is a log for each net
pub logs_len : (v : View) → IsLawful v → length v.logs ≡ length v.part.nets
logs_len v is = ap length is.logs ∙ length-map v.part.nets (lawful_log v)

module _ (v : View) (is : IsLawful v) (i : ℕ) (in_nets : i < length v.part.nets) where
  abbrev net : ℕ
  net = get_or v.part.nets i 0

  pub source_here : source_of v.part net ≡ get_or v.part.sources i Outside
  source_here = of_net-at v.part.nets v.part.sources Outside i is.part.ascending in_nets

  pub queue_here : queue_of v net ≡ get_or v.queues i []
  queue_here = of_net-at v.part.nets v.queues [] i is.part.ascending in_nets

  pub log_here : log_of v net ≡ get_or v.logs i []
  log_here = of_net-at v.part.nets v.logs [] i is.part.ascending in_nets

  -- the queue at a place is one
  pub queue_ordered : IsQueue (get_or v.queues i [])
  queue_ordered = is.ordered i [] (omega (arith, is.queues))

  -- the log at a place
  pub log_is : get_or v.logs i [] ≡ run_log (source_of v.part) (effective_at v) v.mark v.horizon net
  log_is = ap (λ (logs : List (List Change)). get_or logs i []) is.logs ∙ get_or-map (lawful_log v) v.part.nets i 0 [] in_nets

  pub log_rises : IsLog (get_or v.logs i [])
  log_rises = subst IsLog (sym log_is) (IsLog-run (source_of v.part) (effective_at v) v.mark v.horizon net)

  pub entry_here : (t : ℕ) → entry_of v net t ≡ entry_in (get_or v.queues i []) t
  entry_here t = ap (λ (q : List Received). entry_in q t) queue_here

  pub news_own : is_driven (get_or v.part.sources i Outside) ≡ true → (t : ℕ) → news_of v net t ≡ pair_at (get_or v.logs i []) t
  news_own own t = cond-true (owns v.part net) (pair_at (log_of v net) t) (effective_at v net t) (ap is_driven source_here ∙ own) ∙ ap (λ (log : List Change). pair_at log t) log_here

  pub news_read : is_driven (get_or v.part.sources i Outside) ≡ false → (t : ℕ) → news_of v net t ≡ effective_in (get_or v.queues i []) t
  news_read own t = cond-false (owns v.part net) (pair_at (log_of v net) t) (effective_at v net t) (ap is_driven source_here ∙ own) ∙ ap (λ (q : List Received). effective_in q t) queue_here

  -- the value of an own net, from a log that reaches past a time
  value_logged : is_driven (get_or v.part.sources i Outside) ≡ true → (m t : ℕ) → get_or v.logs i [] ≡ run_log (source_of v.part) (effective_at v) m v.horizon net → t ≤ m → t ≤ v.horizon →
      latest X (get_or v.logs i []) t ≡ block_value v net t
  value_logged own m t reaches below until =
      let driven : IsDriven (source_of v.part net) = ap is_driven source_here ∙ own in
      let pos : 0 < source_delay (source_of v.part net) = delayed (source_of v.part net) (timed v.part is.part net) driven in
      let end : t < min (m + source_delay (source_of v.part net)) (v.horizon + 1) = omega arith in
      ap (λ (log : List Change). latest X log t) (reaches
      ∙ cond-true (is_driven (source_of v.part net)) (before_time (m + source_delay (source_of v.part net)) (changes (value (source_of v.part) (given (effective_at v)) net) (v.horizon + 1))) [] driven
      ∙ before_time-changes (value (source_of v.part) (given (effective_at v)) net) (m + source_delay (source_of v.part net)) (v.horizon + 1))
      ∙ latest-changes (value (source_of v.part) (given (effective_at v)) net) (min (m + source_delay (source_of v.part net)) (v.horizon + 1)) t end

  -- the value of an own net, from its log, at a time that is processed, or before which nothing has happened since the mark
  pub value_own : is_driven (get_or v.part.sources i Outside) ≡ true → (t : ℕ) → t ≤ v.horizon → IsQuiet v t → latest X (get_or v.logs i []) t ≡ block_value v net t
  value_own own t until quiet = elim (le_cases v.mark t) [
    | inl from ↦ value_logged own t t (log_is ∙ sym (quiet_log_to v is t net from (omega arith) quiet)) (omega arith) until
    | inr past ↦ value_logged own v.mark t log_is (omega arith) until
  ]

  not_driven : (s : Source) → is_driven s ≡ false → s ≡ Outside
  not_driven Source.Outside e = refl
  not_driven (Source.Gate kind delay inputs) e = cc
  not_driven (Source.Flop delay d c j) e = cc

  -- the value of a net that is read, from its queue
  pub value_read : is_driven (get_or v.part.sources i Outside) ≡ false → (t : ℕ) → held (effective_in (get_or v.queues i [])) t ≡ block_value v net t
  value_read own t =
      ap (λ (q : List Received). held (effective_in q) t) (sym queue_here)
      ∙ sym (outside_is (source_of v.part) (given (effective_at v)) net t (source_here ∙ not_driven (get_or v.part.sources i Outside) own))

-- queues of which one was written back as it was
pub queues_kept : (vs : List (Vec Received Global)) (i : ℕ) (was kept : Vec Received Global) → was ≡ get_or vs i was → kept.items ≡ was.items → lists_in (set vs i kept) ≡ lists_in vs
queues_kept vs i was kept at same = map-set_same (λ (v : Vec Received Global). v.items) vs i kept was (same ∙ ap (λ (v : Vec Received Global). v.items) at)

-- all logs rise
pub all_rise : (v : View) → IsLawful v → All IsLog v.logs
all_rise v is k d h =
    let in_nets : k < length v.part.nets = omega (arith, h, logs_len v is) in
    subst IsLog (get_or_default v.logs k [] d h) (log_rises v is k in_nets)

-- What committing leaves.
use Rattle.std.proofs.Common.{◌≡◌, ℕ, zero, suc, Bool, true, false, cond, ◌+◌, ◌-◌, ◌<◌, ◌≤◌, nat_le, min, max, Option, Result, Ok, Err, List, [], ◌∷◌, drop, length, inl, inr, refl, ap, sym, ◌∙◌, subst, arith, All}
use Rattle.std.specs.Result.{IfErr, IsErrAnd}
use Rattle.std.specs.List.{count_by}
use Rattle.std.specs.List.Sorted.{IsPartitionPoint}
use Rattle.std.proofs.lemmas.Bool.{cases_Bool, cases_lt, lt-leb, true≢false}
use Rattle.std.proofs.lemmas.List.Elements.{All-drop}
use Rattle.std.proofs.lemmas.List.Sums.{sum_by-cons}
use Rattle.gate_values.specs.declared.logic.Logic.{Logic}
use Rattle.gate_values.specs.Behaviour.{Source, value, source_delay}
use Rattle.gate_values.specs.Changes.{changes, before_time}
use Rattle.gate_values.proofs.ChangeLists.{before_time-changes}
use Rattle.warp_process.specs.declared.fault.BlockFault.{BlockFault}
use Rattle.warp_process.specs.Entries.{is_settled}
use Rattle.warp_part.specs.Portion.{is_driven, source_of}
use Rattle.warp_process.specs.View.{View, Saved, entry_of, effective_at, is_busy, busy_times}
use Rattle.warp_process.specs.Lawful.{IsLawful, IsSaved, AreSpaced, AreSaved, IsLawfulProcess, lawful_log}
use Rattle.warp_process.specs.Inner.Advance.{IsQuiet}
use Rattle.warp_process.specs.Commit.{IsCommittable, IsCommitted, IsCommitRefusal}
use Rattle.warp_process.proofs.Running.{given, run_log, le_cases}
use Rattle.warp_process.proofs.Quiet.{quiet_log_to}
use Rattle.warp_process.proofs.SavingTimes.{times-split, times-none}
use Rattle.warp_process.proofs.SavingStates.{map_same}
use Rattle.warp_process.proofs.Going.{idle_past}

-- from the horizon on a log has all its changes
full_log : (source : ℕ → Source) (at : ℕ → ℕ → Option Logic) (m horizon n : ℕ) → suc horizon ≤ m → run_log source at m horizon n ≡ run_log source at (suc horizon) horizon n
full_log source at m horizon n l = go (is_driven (source n))
  where
    go : (b : Bool) → cond b (before_time (m + source_delay (source n)) (changes (value source (given at) n) (horizon + 1))) []
        ≡ cond b (before_time (suc horizon + source_delay (source n)) (changes (value source (given at) n) (horizon + 1))) []
    go false = refl
    go true =
        let same : min (m + source_delay (source n)) (horizon + 1) ≡ min (suc horizon + source_delay (source n)) (horizon + 1) = omega arith in
        before_time-changes (value source (given at) n) (m + source_delay (source n)) (horizon + 1)
        ∙ (ap (changes (value source (given at) n)) same ∙ sym (before_time-changes (value source (given at) n) (suc horizon + source_delay (source n)) (horizon + 1)))

-- states past a time
none_until : (time : ℕ) (ss : List Saved) → All (λ (s : Saved). time < s.mark) ss → count_by (λ (s : Saved). nat_le s.mark time) ss ≡ 0
none_until time [] h = refl
none_until time (s ∷ ss) h =
    let past : time < s.mark = h 0 s (omega arith) in
    let rest : count_by (λ (s : Saved). nat_le s.mark time) ss ≡ 0 = none_until time ss (λ k d l. h (suc k) d (omega arith)) in
    sum_by-cons (λ (s : Saved). cond (nat_le s.mark time) 1 0) s ss ∙ rw (lt-leb s.mark time past) (omega (arith, rest))

pub one_until : (time : ℕ) (s : Saved) (ss : List Saved) → All (λ (s : Saved). time < s.mark) ss → count_by (λ (s : Saved). nat_le s.mark time) (s ∷ ss) ≤ 1
one_until time s ss h =
    let none = none_until time ss h in
    subst (λ (n : ℕ). n ≤ 1) (sym (sum_by-cons (λ (s : Saved). cond (nat_le s.mark time) 1 0) s ss)) (go (nat_le s.mark time) (count_by (λ (s : Saved). nat_le s.mark time) ss) none)
  where
    go : (b : Bool) (n : ℕ) → n ≡ 0 → cond b 1 0 + n ≤ 1
    go true n e = omega (arith, e)
    go false n e = omega (arith, e)

module _ (v : View) (is : IsLawful v) (floor : ℕ) (can : IsCommittable v floor) where
  -- the block afterwards, its saved states aside
  abbrev pub after : View
  after = record v { floor = floor; mark = max v.mark floor }

  -- nothing happens from the mark on and below the floor
  pub quiet_until : IsQuiet v floor
  quiet_until t from below busy = elim (le_cases t v.horizon) [
    | inl within ↦ can.processed t (below, (from, within, busy))
    | inr past ↦ idle_past v is t past busy
  ]

  same_log : (n : ℕ) → run_log (source_of v.part) (effective_at v) (max v.mark floor) v.horizon n ≡ run_log (source_of v.part) (effective_at v) v.mark v.horizon n
  same_log n = elim (le_cases floor v.mark) [
    | inl back ↦ (let e : max v.mark floor ≡ v.mark = omega arith in ap (λ m. run_log (source_of v.part) (effective_at v) m v.horizon n) e)
    | inr on ↦ (let e : max v.mark floor ≡ floor = omega arith in
        ap (λ m. run_log (source_of v.part) (effective_at v) m v.horizon n) e
        ∙ (elim (le_cases floor (suc v.horizon)) [
          | inl within ↦ quiet_log_to v is floor n (omega arith) within quiet_until
          | inr past ↦ full_log (source_of v.part) (effective_at v) floor v.horizon n (omega arith)
              ∙ (elim (le_cases v.mark (suc v.horizon)) [
                | inl before ↦ quiet_log_to v is (suc v.horizon) n before (omega arith) (λ t a b. quiet_until t a (omega arith))
                | inr since ↦ sym (full_log (source_of v.part) (effective_at v) v.mark v.horizon n (omega arith))
              ])
        ]))
  ]

  pub committed_lawful : IsLawful after
  committed_lawful = record {
    part = is.part;
    horizon = is.horizon;
    queues = is.queues;
    ordered = is.ordered;
    own = is.own;
    logs = is.logs ∙ map_same (lawful_log v) (lawful_log after) v.part.nets (λ n. sym (same_log n));
    floor = omega arith;
    settled = λ n t l. elim (cases_Bool (is_settled (entry_of v n t))) [
      | inl settled ↦ settled
      | inr not ↦ absurd (can.settled n t (l, λ settled. true≢false (sym settled ∙ not)))
    ];
    within = is.within;
  }

  -- no busy time lies between
  spaced_after : (m : ℕ) (ss : List Saved) → AreSpaced v m ss → AreSpaced after m ss
  spaced_after m [] h =
      let split : busy_times v m (max v.mark floor) ≡ busy_times v m v.mark + busy_times v v.mark (max v.mark floor) = times-split (is_busy v) m v.mark (max v.mark floor) h.0 (omega arith) in
      let none : busy_times v v.mark (max v.mark floor) ≡ 0 = times-none (is_busy v) v.mark (max v.mark floor) (λ t a b. quiet_until t a (omega (arith, a, b))) in
      let few = h.1 in
      (omega (arith, h.0), omega (arith, split, none, few))
  spaced_after m (s ∷ ss) h = (h.0, h.1, h.2, spaced_after s.mark ss h.3)

  -- the newest saved state up to the floor, and the later ones
  kept : (s : Saved) (ss : List Saved) (k : ℕ) → AreSpaced v s.mark ss → IsPartitionPoint (λ (s : Saved). s.mark ≤ floor) (λ (s : Saved). floor < s.mark) (s ∷ ss) (suc k) → suc k ≤ length (s ∷ ss)
      → AreSaved after (drop k (s ∷ ss)) × (count_by (λ (s : Saved). nat_le s.mark floor) (drop k (s ∷ ss)) ≤ 1)
  kept s ss zero h point l = ((point.0 0 s (omega arith) (omega arith), spaced_after s.mark ss h), one_until floor s ss (λ j d b. point.1 (suc j) d (omega arith) (omega arith)))
  kept s [] (suc k) h point l = absurd (omega arith)
  kept s (r ∷ ss) (suc k) h point l = kept r ss k h.3 ((λ j d a b. point.0 (suc j) d (omega arith) (omega arith)), (λ j d a b. point.1 (suc j) d (omega arith) (omega arith))) (omega arith)

  kept_from : (ss : List Saved) (k : ℕ) → AreSaved v ss → IsPartitionPoint (λ (s : Saved). s.mark ≤ floor) (λ (s : Saved). floor < s.mark) ss k → k ≤ length ss
      → AreSaved after (drop (k - 1) ss) × (count_by (λ (s : Saved). nat_le s.mark floor) (drop (k - 1) ss) ≤ 1)
  kept_from [] k h point l = absurd h
  kept_from (s ∷ ss) zero h point l =
      let past = point.1 0 s (omega arith) (omega arith) in
      let first = h.0 in
      let forward = can.forward in
      absurd (omega (arith, past, first, forward))
  kept_from (s ∷ ss) (suc k) h point l =
      let e : suc k - 1 ≡ k = omega arith in
      subst (λ (j : ℕ). AreSaved after (drop j (s ∷ ss)) × (count_by (λ (s : Saved). nat_le s.mark floor) (drop j (s ∷ ss)) ≤ 1)) (sym e) (kept s ss k h.1 point l)

  module _ (ss : List Saved) (law : IsLawfulProcess (record { seen = v; saved = ss })) (k : ℕ)
      (point : IsPartitionPoint (λ (s : Saved). s.mark ≤ floor) (λ (s : Saved). floor < s.mark) ss k) (within : k ≤ length ss) where
    pub committed_process : IsLawfulProcess (record { seen = after; saved = drop (k - 1) ss })
    committed_process = record {
      seen = committed_lawful;
      states = λ j d l. (let saved = All-drop (IsSaved v) (k - 1) ss law.states j d l in record { values = saved.values; contents = saved.contents });
      saved = (kept_from ss k law.saved point within).0;
    }

    pub committed : IsCommitted (record { seen = v; saved = ss }) (record { seen = after; saved = drop (k - 1) ss }) floor
    committed = record {
      part = refl;
      horizon = refl;
      floor = refl;
      mark = refl;
      entries = λ n t. refl;
      logs = λ n. refl;
      events = λ t. (
        (λ h. (let from = h.0 in omega (arith, from), h.1, h.2)),
        (λ h. (let from = h.0 in elim (cases_lt t floor) [
          | inl below ↦ absurd (can.processed t (below, h))
          | inr past ↦ (omega (arith, from, past), h.1, h.2)
        ])),
      );
      few = (kept_from ss k law.saved point within).1;
    }

-- a refusal is handed on
pub refused_with : (v : View) (floor : ℕ) (r : Result (Unit {0}) BlockFault) (fault : BlockFault) → IsErrAnd r (λ f. f ≡ fault) → IsCommitRefusal v floor fault → IfErr r (IsCommitRefusal v floor)
refused_with v floor (Ok x) fault h refusal = tt
refused_with v floor (Err f) fault h refusal = subst (IsCommitRefusal v floor) (sym h) refusal

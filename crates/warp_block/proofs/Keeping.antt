-- What a commit leaves of a block.
use Rattle.std.proofs.Common.{◌≡◌, ◌∙◌, ℕ, suc, false, ◌-◌, ◌*◌, ◌<◌, ◌≤◌, List, [], ◌∷◌, map, inl, inr, refl, ap, sym, subst, arith, All}
use Rattle.std.proofs.lemmas.Bool.{cases_lt, true≢false, false_from_ne_true}
use Rattle.std.proofs.lemmas.List.Elements.{All-nil, All-cons, All-head, All-tail}
use Rattle.gate_values.specs.declared.logic.Change.{Change}
use Rattle.event_times.specs.Marks.{Played, AreTimes, IsKept, mark_after, later_marks}
use Rattle.event_times.specs.declared.times.TheConstants.{SAVE_EVERY}
use Rattle.warp_engine.specs.Runs.{Run, IsRun, HasDropped}
use Rattle.warp_journal.specs.Books.{Book}
use Rattle.warp_part.specs.Placing.{place_source, place_given}
use Rattle.warp_process.specs.Heard.{IsReceived}
use Rattle.warp_process.specs.View.{View, Saved, log_of, is_busy, given_by}
use Rattle.warp_process.specs.Commit.{IsCommittable, IsCommitted}
use Rattle.warp_process.specs.Played.{played_view, was_busy}
use Rattle.warp_process.proofs.Committed.{one_until}
use Rattle.part_engine.specs.Runs.{state_of}
use Rattle.warp_block.specs.Shown.Block.{mark_by, seen_by, process_by}
use Rattle.warp_block.specs.Inner.Held.{IsAt}
use Rattle.warp_block.proofs.Times.{after, times_end, times_drop, after_low, later_late, mark_is}
use Rattle.warp_block.proofs.Resting.{next_was, past_not, rest_shown, busy_same}
use Rattle.warp_block.proofs.Stepping.{parted_like}

late_states : (book : Book) (floor : ℕ) (ms : List ℕ) → All (λ k. floor < k) ms → All (λ (s : Saved). floor < s.mark) (map (state_of book) ms)
late_states book floor [] h = All-nil (λ (s : Saved). floor < s.mark)
late_states book floor (k ∷ ms) h =
    All-cons (λ (s : Saved). floor < s.mark) (state_of book k) (map (state_of book) ms) (All-head (λ j. floor < j) k ms h) (late_states book floor ms (All-tail (λ j. floor < j) k ms h))

module _ (v : View) (run : Run) (played : Played) (at : IsAt v run played) (floor : ℕ) (can : IsCommittable (seen_by v run) floor) where
  abbrev m : ℕ
  m = run.book.mark

  abbrev w : View
  w = record v { floor = floor }

  received : IsReceived v
  received = at.engine.received

  -- nothing happens from the mark on and below the new floor
  shown_quiet : (t : ℕ) → run.book.mark ≤ t → t < floor → is_busy (played_view v run.book.mark) t ≡ false
  shown_quiet t a b = elim (cases_lt t v.floor) [
    | inl below ↦ rest_shown v run played at t a below
    | inr since ↦ (elim (cases_lt v.horizon t) [
      | inl past ↦ past_not v received run.book.mark t past
      | inr within ↦ false_from_ne_true (is_busy (played_view v run.book.mark) t) (λ busy. can.processed t (b, (omega (arith, a, since), within, busy_same v run played at t ∙ busy)))
    ])
  ]

  was_quiet : (t : ℕ) → run.book.mark ≤ t → t < floor → was_busy v t ≡ false
  was_quiet t a b = elim (cases_lt v.horizon t) [
    | inl past ↦ past_not v received (suc t) t past
    | inr within ↦ sym (next_was v received run.book.mark t a within (λ u f g busy. true≢false (sym busy ∙ shown_quiet u f (omega (arith, g, b))))) ∙ shown_quiet t a b
  ]

  module _ (kept_times : Played) (kept : IsKept floor played kept_times) (new : Run) (dropped : HasDropped kept_times.first run new) (rw' : IsReceived (record v { floor = floor })) where
    abbrev count : ℕ
    count = kept.states * SAVE_EVERY

    first_is : kept_times.first ≡ after played.first played.times (kept.states * SAVE_EVERY)
    first_is = kept.first ∙ mark_is played kept.states kept.there

    times_are : AreTimes (was_busy v) kept_times.first run.book.mark kept_times.times
    times_are =
        subst (λ k. AreTimes (was_busy v) k run.book.mark kept_times.times) (sym first_is)
        (subst (λ (ts : List ℕ). AreTimes (was_busy v) (after played.first played.times (kept.states * SAVE_EVERY)) run.book.mark ts) (sym kept.times)
        (times_drop (was_busy v) played.first run.book.mark (kept.states * SAVE_EVERY) played.times at.times kept.there))

    first_high : kept_times.first ≤ run.book.mark
    first_high = times_end (was_busy v) kept_times.first run.book.mark kept_times.times times_are

    first_low : played.first ≤ kept_times.first
    first_low = (let low = after_low (was_busy v) played.first run.book.mark (kept.states * SAVE_EVERY) played.times at.times in omega (arith, low, first_is))

    first_floor : kept_times.first ≤ floor
    first_floor = elim (cases_lt 0 kept.states) [
      | inl some ↦ kept.low some
      | inr none ↦ (let zero_states : kept.states ≡ 0 = omega (arith, none) in
          let same : kept_times.first ≡ played.first = kept.first ∙ ap (λ n. mark_after n played) zero_states in
          let low = at.low in
          let forward = can.forward in
          omega (arith, same, low, forward))
    ]

    runs : IsRun (place_source v.part) (place_given v.part (given_by v)) kept_times.first new
    runs = dropped.keeps (place_source v.part) (place_given v.part (given_by v)) played.first at.engine.run.is first_low first_high

    -- what is left is at at
    pub kept_at : IsAt (record v { floor = floor }) new kept_times
    kept_at = record {
      engine = record {
        received = rw';
        run = record {
          is = runs;
          horizon = dropped.like.horizon ∙ at.engine.run.horizon;
          cells = dropped.like.alike.cells ∙ at.engine.run.cells;
          parted = parted_like v.part run new dropped.like at.engine.run.parted;
        };
      };
      low = first_floor;
      within = (let within = at.within in let mark = dropped.mark in omega (arith, within, mark));
      times = subst (λ k. AreTimes (was_busy v) kept_times.first k kept_times.times) (sym dropped.mark) times_are;
      quiet = λ t a b. was_quiet t (let same = dropped.mark in omega (arith, a, same)) b;
      sparse = kept.newest;
    }

    pub logs_kept : (seen_by (record v { floor = floor }) new).logs ≡ (seen_by v run).logs
    logs_kept = ap (λ (m : ℕ). (played_view v m).logs) dropped.mark

    busy_kept : (t : ℕ) → is_busy (seen_by (record v { floor = floor }) new) t ≡ is_busy (seen_by v run) t
    busy_kept t = ap (λ (logs : List (List Change)). is_busy (record v { floor = floor; mark = mark_by (record v { floor = floor }) new; logs = logs }) t) logs_kept

    -- and what is below the floor is committed
    pub kept_committed : IsCommitted (process_by v run played) (process_by (record v { floor = floor }) new kept_times) floor
    kept_committed = record {
      part = refl;
      horizon = refl;
      floor = refl;
      mark = (let mark = dropped.mark in let forward = can.forward in omega (arith, mark, forward));
      entries = λ n t. refl;
      logs = λ n. ap (λ (logs : List (List Change)). log_of (record v { floor = floor; mark = mark_by (record v { floor = floor }) new; logs = logs }) n) logs_kept;
      events = λ t. (
        (λ e. ((let from = e.0 in let mark = dropped.mark in let forward = can.forward in omega (arith, from, mark, forward)), e.1, sym (busy_kept t) ∙ e.2)),
        (λ e. (
          (elim (cases_lt t floor) [ inl below ↦ absurd (can.processed t (below, e)) | inr since ↦ (let from = e.0 in let mark = dropped.mark in omega (arith, since, from, mark)) ]),
          e.1,
          busy_kept t ∙ e.2,
        )),
      );
      few = one_until floor (state_of new.book kept_times.first) (map (state_of new.book) (later_marks (SAVE_EVERY - 1) kept_times.times))
          (late_states new.book floor (later_marks (SAVE_EVERY - 1) kept_times.times)
          (later_late (was_busy v) kept_times.first run.book.mark floor (SAVE_EVERY - 1) kept_times.times times_are (λ l. kept.newest (omega (arith, l)))));
    }

-- a block can commit what is below its own floor, and nothing is left to do
module _ (v : View) (run : Run) (played : Played) (at : IsAt v run played) where
  pub own_committable : IsCommittable (seen_by v run) v.floor
  own_committable = record {
    forward = omega arith;
    processed = λ t e. (let below = e.0 in let from = e.1.0 in omega (arith, below, from));
    settled = λ n t e. e.1 (at.engine.received.settled n t e.0);
  }

  pub own_committed : IsCommitted (process_by v run played) (process_by v run played) v.floor
  own_committed = record {
    part = refl;
    horizon = refl;
    floor = refl;
    mark = omega arith;
    entries = λ n t. refl;
    logs = λ n. refl;
    events = λ t. ((λ e. e), (λ e. e));
    few = one_until v.floor (state_of run.book played.first) (map (state_of run.book) (later_marks (SAVE_EVERY - 1) played.times))
        (late_states run.book v.floor (later_marks (SAVE_EVERY - 1) played.times)
        (later_late (was_busy v) played.first run.book.mark v.floor (SAVE_EVERY - 1) played.times at.times (λ l. at.sparse (omega (arith, l)))));
  }

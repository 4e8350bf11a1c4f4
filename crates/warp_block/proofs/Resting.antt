-- What a block shows whose engine has played what it has received.
use Rattle.std.proofs.Common.{◌≡◌, ℕ, zero, suc, true, false, max, ◌+◌, ◌-◌, ◌<◌, ◌≤◌, Option, Some, None, List, [], ◌∷◌, map, inl, inr, refl, ap, sym, ◌∙◌, arith, All}
use Rattle.std.proofs.lemmas.Bool.{cases_lt, true≢false, false_from_ne_true}
use Rattle.std.proofs.lemmas.List.Elements.{All-nil, All-cons}
use Rattle.gate_values.specs.declared.logic.Change.{Change}
use Rattle.event_times.specs.Marks.{Played, AreTimes, later_marks, marks_of}
use Rattle.event_times.specs.Marks as marks
use Rattle.event_times.specs.declared.times.TheConstants.{SAVE_EVERY}
use Rattle.event_times.proofs.Spacing.{spaced}
use Rattle.warp_engine.specs.Runs.{Run}
use Rattle.warp_process.specs.Entries.{Received}
use Rattle.warp_process.specs.Heard.{IsReceived}
use Rattle.warp_part.specs.Portion.{Portion}
use Rattle.warp_process.specs.View.{View, is_busy, busy_times, IsLeast, IsEventTime, IsDone}
use Rattle.warp_process.specs.Lawful.{IsLawful, IsSaved, AreSpaced, IsLawfulProcess, lawful_log}
use Rattle.warp_process.specs.Played.{played_view, was_busy}
use Rattle.warp_process.specs.Commit.{IsCommittable}
use Rattle.warp_process.specs.Inner.Advance.{IsQuiet}
use Rattle.warp_process.proofs.Playing.{played_lawful}
use Rattle.warp_process.proofs.SavingBusy.{busy_is, busy_is-next, busy_agree}
use Rattle.warp_process.proofs.SavingStep.{quiet_before_least, same_effective}
use Rattle.warp_process.proofs.SavingTimes.{times-agree}
use Rattle.warp_process.proofs.Going.{idle_past}
use Rattle.warp_process.proofs.Committed.{committed_lawful}
use Rattle.part_engine.specs.Runs.{state_of}
use Rattle.part_engine.proofs.RunLogs.{states_are}
use Rattle.warp_block.specs.Shown.Block.{mark_by, seen_by, process_by}
use Rattle.warp_block.specs.Inner.Held.{IsAt}
use Rattle.warp_block.proofs.Times.{times_end, times_on}

-- a time before a mark
pub busy_was : (v w : View) → IsReceived v → IsLawful w → w.part ≡ v.part → w.horizon ≡ v.horizon → w.queues ≡ v.queues → (t : ℕ) → t < w.mark → is_busy w t ≡ was_busy v t
busy_was v w r isw part horizon queues t l =
    busy_agree w (played_view v (suc t)) isw (played_lawful v (suc t) r) (sym part) (sym horizon) t (omega (arith, l)) (omega arith)
    (λ n u _. same_effective w v (sym part) (sym queues) n u)

-- a time before which nothing happens from a mark on
pub next_was : (v : View) → IsReceived v → (m t : ℕ) → m ≤ t → t ≤ v.horizon → IsQuiet (played_view v m) t → is_busy (played_view v m) t ≡ was_busy v t
next_was v r m t from until quiet =
    busy_is-next (played_view v m) (played_lawful v m r) t from until quiet ∙ sym (busy_is (played_view v (suc t)) (played_lawful v (suc t) r) t (omega arith))

-- a time past the horizon
pub past_not : (v : View) → IsReceived v → (m t : ℕ) → v.horizon < t → is_busy (played_view v m) t ≡ false
past_not v r m t l = false_from_ne_true (is_busy (played_view v m) t) (idle_past (played_view v m) (played_lawful v m r) t l)

quiet_steps : (v : View) → IsReceived v → (m end : ℕ) → ((t : ℕ) → m ≤ t → t < end → was_busy v t ≡ false) → (k t : ℕ) → m ≤ t → t < m + k → t < end → is_busy (played_view v m) t ≡ false
quiet_steps v r m end none zero t a b c = absurd (omega (arith, a, b))
quiet_steps v r m end none (suc k) t a b c = elim (cases_lt t (m + k)) [
  | inl before ↦ quiet_steps v r m end none k t a before c
  | inr last ↦ (elim (cases_lt v.horizon t) [
    | inl past ↦ past_not v r m t past
    | inr within ↦ next_was v r m t a within (λ u f g busy. true≢false (sym busy ∙ quiet_steps v r m end none k u f (omega (arith, g, b)) (omega (arith, g, c)))) ∙ none t a c
  ])
]

-- where no time from a mark on was busy, none is
pub quiet_from : (v : View) → IsReceived v → (m end : ℕ) → ((t : ℕ) → m ≤ t → t < end → was_busy v t ≡ false) → (t : ℕ) → m ≤ t → t < end → is_busy (played_view v m) t ≡ false
quiet_from v r m end none t a b = quiet_steps v r m end none (suc t) t a (omega arith) b

-- the least event time is the least that was busy
module _ (v : View) (r : IsReceived v) (m time : ℕ) (least : IsLeast (IsEventTime (played_view v m)) (Some time)) where
  pub least_none : (t : ℕ) → m ≤ t → t < time → was_busy v t ≡ false
  least_none t a b =
      let quiet : IsQuiet (played_view v m) time = quiet_before_least (played_view v m) time least in
      let end = least.0.1 in
      sym (next_was v r m t a (omega (arith, b, end)) (λ u f g. quiet u f (omega (arith, g, b)))) ∙ false_from_ne_true (is_busy (played_view v m) t) (quiet t a b)

  pub least_now : was_busy v time ≡ true
  least_now = sym (next_was v r m time least.0.0 least.0.1 (quiet_before_least (played_view v m) time least)) ∙ least.0.2

pub least_from : (v : View) → IsReceived v → (m time : ℕ) → m ≤ time → time ≤ v.horizon → ((t : ℕ) → m ≤ t → t < time → was_busy v t ≡ false) → was_busy v time ≡ true
    → IsLeast (IsEventTime (played_view v m)) (Some time)
least_from v r m time low within none now =
    let quiet : IsQuiet (played_view v m) time = λ t a b busy. true≢false (sym busy ∙ quiet_from v r m time none t a b) in (
      (low, within, next_was v r m time low within quiet ∙ now),
      λ u e. elim (cases_lt u time) [ inl before ↦ absurd (quiet u e.0 before e.2) | inr since ↦ since ],
    )

module _ (v : View) (run : Run) (played : Played) (at : IsAt v run played) where
  abbrev m : ℕ
  m = run.book.mark

  abbrev base : View
  base = played_view v run.book.mark

  received : IsReceived v
  received = at.engine.received

  -- nothing happens from the mark on and below the floor
  pub rest_quiet : (t : ℕ) → run.book.mark ≤ t → t < v.floor → was_busy v t ≡ false
  rest_quiet = at.quiet

  pub rest_shown : (t : ℕ) → run.book.mark ≤ t → t < v.floor → is_busy base t ≡ false
  rest_shown = quiet_from v received run.book.mark v.floor rest_quiet

  pub rest_can : IsCommittable base v.floor
  rest_can = record {
    forward = omega arith;
    processed = λ t e. true≢false (sym e.1.2 ∙ rest_shown t e.1.0 e.0);
    settled = λ n t u. u.1 (received.settled n t u.0);
  }

  pub rest_lawful : IsLawful (seen_by v run)
  rest_lawful = committed_lawful base (played_lawful v run.book.mark received) v.floor rest_can

  -- what is busy is what is busy with nothing committed
  pub busy_same : (t : ℕ) → is_busy (seen_by v run) t ≡ is_busy base t
  busy_same t = refl

  pub event_up : (t : ℕ) → IsEventTime base t → IsEventTime (seen_by v run) t
  event_up t e = (
    (elim (cases_lt t v.floor) [ inl below ↦ absurd (true≢false (sym e.2 ∙ rest_shown t e.0 below)) | inr since ↦ (let from = e.0 in omega (arith, since, from)) ]),
    e.1,
    busy_same t ∙ e.2,
  )

  pub event_down : (t : ℕ) → IsEventTime (seen_by v run) t → IsEventTime base t
  event_down t e = ((let from = e.0 in omega (arith, from)), e.1, sym (busy_same t) ∙ e.2)

  pub least_up : (r : Option ℕ) → IsLeast (IsEventTime base) r → IsLeast (IsEventTime (seen_by v run)) r
  least_up None h = λ t e. h t (event_down t e)
  least_up (Some t) h = (event_up t h.0, λ u e. h.1 u (event_down u e))

  -- a time before the mark
  pub seen_was : (t : ℕ) → t < mark_by v run → is_busy (seen_by v run) t ≡ was_busy v t
  seen_was t l = busy_was v (seen_by v run) received rest_lawful refl refl refl t l

  -- the event times up to what is processed
  pub rest_times : AreTimes (was_busy v) played.first (mark_by v run) played.times
  rest_times = times_on (was_busy v) played.first run.book.mark (mark_by v run) played.times at.times (omega arith) (λ t a b. rest_quiet t a (omega (arith, a, b)))

  -- marks up to what is played
  marks_within : (from left : ℕ) (ts : List ℕ) → AreTimes (was_busy v) from run.book.mark ts → played.first ≤ from → All (λ k. (played.first ≤ k) × (k ≤ run.book.mark)) (later_marks left ts)
  marks_within from left [] h low = All-nil (λ k. (played.first ≤ k) × (k ≤ run.book.mark))
  marks_within from zero (t ∷ ts) h low =
      let first = h.0 in
      let end : suc t ≤ run.book.mark = times_end (was_busy v) (suc t) run.book.mark ts h.3 in
      All-cons (λ k. (played.first ≤ k) × (k ≤ run.book.mark)) (suc t) (later_marks (SAVE_EVERY - 1) ts) (omega (arith, first, low), end) (marks_within (suc t) (SAVE_EVERY - 1) ts h.3 (omega (arith, first, low)))
  marks_within from (suc left) (t ∷ ts) h low =
      let first = h.0 in
      marks_within (suc t) left ts h.3 (omega (arith, first, low))

  saved_all : (ms : List ℕ) → All (λ k. (played.first ≤ k) × (k ≤ run.book.mark)) ms → All (IsSaved (seen_by v run)) (map (state_of run.book) ms)
  saved_all [] h = All-nil (IsSaved (seen_by v run))
  saved_all (k ∷ ms) h =
      let within = h 0 k (omega arith) in
      let state = states_are v run played.first k at.engine within.0 within.1 in
      All-cons (IsSaved (seen_by v run)) (state_of run.book k) (map (state_of run.book) ms) (record { values = state.values; contents = state.contents })
      (saved_all ms (λ i d l. h (suc i) d (omega (arith, l))))

  marks_end : (mark : ℕ) (ms : List ℕ) → marks.AreSpaced (was_busy v) (mark_by v run) mark ms → mark ≤ mark_by v run
  marks_end mark [] h = h.0
  marks_end mark (k ∷ ms) h = (let on = h.0 in let at = marks_end k ms h.3 in omega (arith, on, at))

  pub count_same : (a b : ℕ) → b ≤ mark_by v run → busy_times (seen_by v run) a b ≡ marks.counted (was_busy v) a b
  count_same a b within = times-agree (is_busy (seen_by v run)) (was_busy v) a b (λ t f g. seen_was t (omega (arith, g, within)))

  spaced_seen : (mark : ℕ) (ms : List ℕ) → marks.AreSpaced (was_busy v) (mark_by v run) mark ms → AreSpaced (seen_by v run) mark (map (state_of run.book) ms)
  spaced_seen mark [] h = (h.0, (let same = count_same mark (mark_by v run) (omega arith) in let few = h.1 in omega (arith, same, few)))
  spaced_seen mark (k ∷ ms) h =
      let end = marks_end k ms h.3 in
      let on = h.0 in (
        on,
        count_same mark k end ∙ h.1,
        seen_was (k - 1) (omega (arith, on, end)) ∙ h.2,
        spaced_seen k ms h.3,
      )

  -- the saved states are lawful
  pub rest_process : IsLawfulProcess (process_by v run played)
  rest_process = record {
    seen = rest_lawful;
    states =
        (let low = times_end (was_busy v) played.first run.book.mark played.times at.times in
        saved_all (marks_of played) (All-cons (λ k. (played.first ≤ k) × (k ≤ run.book.mark)) played.first (later_marks (SAVE_EVERY - 1) played.times) (omega arith, low)
        (marks_within played.first (SAVE_EVERY - 1) played.times at.times (omega arith))));
    saved = (at.low, spaced_seen played.first (later_marks (SAVE_EVERY - 1) played.times) (spaced (was_busy v) played.first (mark_by v run) played.times rest_times));
  }

-- two engines that have played as much show the same
pub same_seen : (v : View) (run new : Run) → new.book.mark ≡ run.book.mark → seen_by v new ≡ seen_by v run
same_seen v run new mark = ap (λ (m : ℕ). record v { mark = max m v.floor; logs = (played_view v m).logs }) mark

-- nothing is left where nothing is
pub done_up : (v : View) (run : Run) (played : Played) → IsAt v run played → IsDone (played_view v run.book.mark) → IsDone (seen_by v run)
done_up v run played at done t event = done t (event_down v run played at t event)

-- ---- what was played from a time on is taken back

-- an engine that has gone back shows the logs up to the time
pub seen_back : (v : View) (old new : Run) (time : ℕ) → new.book.mark ≡ time → v.floor ≤ time
    → seen_by v new ≡ record (seen_by v old) { mark = time; logs = map (lawful_log (record (seen_by v old) { mark = time })) v.part.nets }
seen_back v old new time mark floor =
    let top : max time v.floor ≡ time = omega (arith, floor) in
    ap (λ (m : ℕ). record v { mark = max m v.floor; logs = (played_view v m).logs }) mark
    ∙ ap (λ (m : ℕ). record v { mark = m; logs = (played_view v time).logs }) top

-- what is lawful shows these at its mark
pub seen_stays : (w : View) → IsLawful w → (time : ℕ) → w.mark ≡ time → w ≡ record w { mark = time; logs = map (lawful_log (record w { mark = time })) w.part.nets }
seen_stays w lawful time mark =
    ap (λ (ls : List (List Change)). record w { logs = ls }) lawful.logs
    ∙ ap (λ (m : ℕ). record w { mark = m; logs = map (lawful_log (record w { mark = m })) w.part.nets }) mark

-- back at a mark, all is as it was
module _ (old mid : View) (lawful : IsLawful old) (part : mid.part ≡ old.part) (horizon : mid.horizon ≡ old.horizon) (floor : mid.floor ≡ old.floor) (queues : mid.queues ≡ old.queues) where
  abbrev back_by : (time : ℕ) → Portion → ℕ → ℕ → List (List Received) → View
  back_by time p h f q = record mid {
    part = p;
    horizon = h;
    floor = f;
    queues = q;
    mark = time;
    logs = map (lawful_log (record mid { part = p; horizon = h; floor = f; queues = q; mark = time })) p.nets;
  }

  pub given_back : (time : ℕ) → time ≡ old.mark → record mid { mark = time; logs = map (lawful_log (record mid { mark = time })) mid.part.nets } ≡ old
  given_back time mark =
      ap (λ p. back_by time p mid.horizon mid.floor mid.queues) part
      ∙ ap (λ h. back_by time old.part h mid.floor mid.queues) horizon
      ∙ ap (λ f. back_by time old.part old.horizon f mid.queues) floor
      ∙ ap (λ q. back_by time old.part old.horizon old.floor q) queues
      ∙ sym (seen_stays old lawful time (sym mark))

-- What an engine under way is after a step.
use Rattle.std.proofs.Common.{◌≡◌, ◌≢◌, ℕ, suc, ◌+◌, max, true, false, ◌<◌, ◌≤◌, ◌++◌, nat_lt, Option, Some, None, List, [], ◌∷◌, length, inl, inr, refl, ap, sym, ◌∙◌, subst, arith, All}
use Rattle.std.proofs.lemmas.Bool.{cases_lt, true≢false}
use Rattle.event_times.specs.Marks.{Played, AreTimes}
use Rattle.warp_stores.specs.Words.{Move}
use Rattle.std.specs.List.{filter}
use Rattle.warp_stores.specs.Dated.{Dated}
use Rattle.warp_journal.specs.Books.{IsBrought}
use Rattle.warp_engine.specs.Runs.{Run, IsRun, Ran, IsLike, makings, MayReturn, HasReturned}
use Rattle.warp_engine.specs.Nexts.{AreParted}
use Rattle.warp_engine.proofs.Making.{makings_later}
use Rattle.part_engine.proofs.RunLogs.{cells_are}
use Rattle.part_engine.proofs.Heeding.{heard_busy}
use Rattle.warp_process.proofs.Playing.{played_lawful}
use Rattle.warp_part.specs.Portion.{Portion}
use Rattle.warp_part.specs.Placing.{place_source, place_given}
use Rattle.warp_part.proofs.Placing.{nothing_past}
use Rattle.warp_process.specs.Heard.{IsReceived}
use Rattle.warp_process.specs.View.{View, IsLeast, IsEventTime, given_by, is_busy}
use Rattle.warp_process.specs.Played.{played_view, was_busy}
use Rattle.part_engine.specs.Runs.{IsEngineOf, IsNextBrought}
use Rattle.warp_block.specs.Inner.Held.{IsAt, IsQuietBelow}
use Rattle.warp_block.proofs.Times.{times_below, times_on, times_push, times_cut, push_cut, sparse_push, sparse_cut}
use Rattle.warp_block.proofs.Resting.{least_none, least_now, least_from, quiet_from, next_was}

-- queues of the same places
pub parted_like : (p : Portion) (old new : Run) → IsLike old new → AreParted (place_source p) old.book → AreParted (place_source p) new.book
parted_like p old new like h = record {
  used = λ place used delay. rw (like.alike.numbers, like.alike.read) (h.used place (rw like.alike.cells at used) delay);
  first = λ place delay below. rw like.alike.cells (h.first place delay (rw (like.alike.numbers, like.alike.read) at below));
}

-- an engine that has gone on is the part's
pub engine_on : (v : View) (floor : ℕ) (old new : Run) → IsEngineOf v floor old → IsLike old new → IsRun (place_source v.part) (place_given v.part (given_by v)) floor new → IsEngineOf v floor new
engine_on v floor old new h like runs = record {
  received = h.received;
  run = record {
    is = runs;
    horizon = like.horizon ∙ h.run.horizon;
    cells = like.alike.cells ∙ h.run.cells;
    parted = parted_like v.part old new like h.run.parted;
  };
}

-- what is brought to the places of a view's part
abbrev pub IsBroughtTo : View → ℕ → ℕ → List Move → Type 0
IsBroughtTo v mark time words = IsBrought (place_source v.part) (place_given v.part (given_by v)) mark time words

pub brought_as : (v : View) (mark time : ℕ) (items words : List Move) → words ≡ items → IsBroughtTo v mark time items → IsBroughtTo v mark time words
brought_as v mark time items words e h = subst (IsBroughtTo v mark time) (sym e) h

module _ (v : View) (run : Run) (played : Played) (at : IsAt v run played) where
  abbrev m : ℕ
  m = run.book.mark

  received : IsReceived v
  received = at.engine.received

  -- what the engine has played
  abbrev pub ran : Ran run
  ran = record { source = place_source v.part; given = place_given v.part (given_by v); floor = played.first; is = at.engine.run.is }

  pub at_shown : (t : ℕ) → run.book.mark ≤ t → t < v.floor → is_busy (played_view v run.book.mark) t ≡ false
  at_shown = quiet_from v received run.book.mark v.floor at.quiet

  -- the event times are before the mark
  pub at_below : (time : ℕ) → run.book.mark ≤ time → All (λ t. t < time) played.times
  at_below time l k d h = (let below = times_below (was_busy v) played.first run.book.mark played.times at.times k d h in omega (arith, below, l))

  -- the same engine with the same times
  pub at_kept : (new : Run) → new.book.mark ≡ run.book.mark → IsLike run new → IsRun (place_source v.part) (place_given v.part (given_by v)) played.first new → IsAt v new played
  at_kept new mark like runs = record {
    engine = engine_on v played.first run new at.engine like runs;
    low = at.low;
    within = subst (λ k. k ≤ suc v.horizon) (sym mark) at.within;
    times = subst (λ k. AreTimes (was_busy v) played.first k played.times) (sym mark) at.times;
    quiet = λ t a b. at.quiet t (omega (arith, a, mark)) b;
    sparse = at.sparse;
  }

  -- the next event time
  module _ (time : ℕ) (least : IsLeast (IsEventTime (played_view v run.book.mark)) (Some time)) where
    pub least_quiet : (t : ℕ) → run.book.mark ≤ t → t < time → is_busy (played_view v run.book.mark) t ≡ false
    least_quiet = quiet_from v received run.book.mark time (least_none v received run.book.mark time least)

    -- isn't below the floor
    pub least_floor : v.floor ≤ time
    least_floor = elim (cases_lt time v.floor) [
      | inl below ↦ absurd (true≢false (sym (least_now v received run.book.mark time least) ∙ at.quiet time least.0.0 below))
      | inr since ↦ since
    ]

    -- it is played
    pub at_played : (new : Run) → new.book.mark ≡ suc time → IsLike run new → IsRun (place_source v.part) (place_given v.part (given_by v)) played.first new
        → IsAt v new (record played { times = played.times ++ time ∷ [] })
    at_played new mark like runs = record {
      engine = engine_on v played.first run new at.engine like runs;
      low = at.low;
      within = (let end = least.0.1 in omega (arith, mark, end));
      times = subst (λ k. AreTimes (was_busy v) played.first k (played.times ++ time ∷ [])) (sym mark)
          (times_push (was_busy v) played.first run.book.mark time played.times at.times least.0.0 (least_none v received run.book.mark time least) (least_now v received run.book.mark time least));
      quiet = λ t a b. at.quiet t (let low = least.0.0 in omega (arith, a, mark, low)) b;
      sparse = sparse_push v.floor time played.times at.sparse least_floor;
    }

    -- and isn't, after an error
    pub at_unplayed : (new : Run) → new.book.mark ≡ run.book.mark → IsLike run new → IsRun (place_source v.part) (place_given v.part (given_by v)) played.first new
        → (after : Played) → after ≡ record played { times = filter (λ t. nat_lt t time) (played.times ++ time ∷ []) } → IsAt v new after
    at_unplayed new mark like runs after e =
        let cut : record played { times = filter (λ t. nat_lt t time) (played.times ++ time ∷ []) } ≡ played = ap (λ (ts : List ℕ). record played { times = ts }) (push_cut time played.times (at_below time least.0.0)) in
        subst (λ (p : Played). IsAt v new p) (sym (e ∙ cut)) (at_kept new mark like runs)

    -- where a quiet time is passed over, it is the next one still
    pub least_on : (mark : ℕ) → run.book.mark ≤ mark → mark ≤ time → IsLeast (IsEventTime (played_view v mark)) (Some time)
    least_on mark low high =
        least_from v received mark time high least.0.1 (λ t a b. least_none v received run.book.mark time least t (omega (arith, a, low)) b) (least_now v received run.book.mark time least)

    -- nothing is brought before it
    brought_since : (at : ℕ) → IsNextBrought v run.book.mark (Some at) → time ≤ at
    brought_since at h =
        let from : max run.book.mark v.floor ≤ at = h.0.0 in
        let busy : is_busy (played_view v run.book.mark) at ≡ true = heard_busy (played_view v run.book.mark) (played_lawful v run.book.mark received) h.0.1.0 at h.0.1.1 h.0.1.2 in
        elim (cases_lt at time) [
          | inl before ↦ absurd (true≢false (sym busy ∙ least_quiet at (omega (arith, from)) before))
          | inr since ↦ since
        ]

    -- what is brought next stays so at a mark that isn't past it
    brought_from : (brought : Option ℕ) → IsNextBrought v run.book.mark brought → (mark : ℕ) → run.book.mark ≤ mark → ((at : ℕ) → brought ≡ Some at → mark ≤ at) → IsNextBrought v mark brought
    brought_from None h mark low high = λ t heard. let from : max mark v.floor ≤ t = heard.0 in h t (omega (arith, low, from), heard.1)
    brought_from (Some at) h mark low high =
        let until : mark ≤ at = high at refl in
        let from : max run.book.mark v.floor ≤ at = h.0.0 in
        ((omega (arith, until, from), h.0.1), λ t heard. let later : max mark v.floor ≤ t = heard.0 in h.1 t (omega (arith, low, later), heard.1))

    module _ (brought : Option ℕ) (next : IsNextBrought v run.book.mark brought) where
      since_brought : (at : ℕ) → brought ≡ Some at → time ≤ at
      since_brought at e = brought_since at (subst (IsNextBrought v run.book.mark) e next)

      -- where a quiet time is passed over
      pub brought_on : (mark : ℕ) → run.book.mark ≤ mark → mark ≤ time → IsNextBrought v mark brought
      brought_on mark low high = brought_from brought next mark low (λ at e. let since = since_brought at e in omega (arith, high, since))

      -- and where it is played, and nothing was brought at it
      pub brought_past : (mark : ℕ) → mark ≡ time + 1 → brought ≢ Some time → IsNextBrought v mark brought
      brought_past mark is other = brought_from brought next mark (let low = least.0.0 in omega (arith, is, low)) (λ at e. elim (cases_lt time at) [
        | inl later ↦ omega (arith, is, later)
        | inr until ↦ absurd (other (e ∙ ap (λ (t : ℕ). Some t) (let since = since_brought at e in let same : at ≡ time = omega (arith, since, until) in same)))
      ])

  -- time 0, at which nothing happens, is played
  pub at_begun : run.book.mark ≡ 0 → is_busy (played_view v 0) 0 ≡ false → (new : Run) → new.book.mark ≡ 1 → IsLike run new → IsRun (place_source v.part) (place_given v.part (given_by v)) played.first new
      → IsAt v new played
  at_begun zero_mark still new mark like runs = record {
    engine = engine_on v played.first run new at.engine like runs;
    low = at.low;
    within = omega (arith, mark);
    times = subst (λ k. AreTimes (was_busy v) played.first k played.times) (sym mark)
        (times_on (was_busy v) played.first run.book.mark 1 played.times at.times (omega (arith, zero_mark))
        (λ t a b. let first : t ≡ 0 = omega (arith, b) in ap (was_busy v) first ∙ sym (next_was v received 0 0 (omega arith) (omega arith) (λ u f g busy. absurd (omega (arith, g)))) ∙ still));
    quiet = λ t a b. at.quiet t (omega (arith, zero_mark)) b;
    sparse = at.sparse;
  }

  -- what was played from a time on is taken back
  module _ (time : ℕ) (low : played.first ≤ time) (high : time ≤ run.book.mark) (quiet : IsQuietBelow v time) where
    pub may_give_up : MayReturn time run
    may_give_up = record { of = ran; low = low; high = high }

    pub at_given_up : (new : Run) → HasReturned time run new → (after : Played) → after ≡ record played { times = filter (λ t. nat_lt t time) played.times } → IsAt v new after
    at_given_up new back after e =
        let runs : IsRun (place_source v.part) (place_given v.part (given_by v)) played.first new =
        back.anew (place_source v.part) (place_given v.part (given_by v)) (place_given v.part (given_by v)) played.first at.engine.run.is low (λ t place l. refl)
        (λ place t far. nothing_past v.part received.part (given_by v) place t (let cells = cells_are v played.first run at.engine in omega (arith, far, cells))) in
        subst (λ (p : Played). IsAt v new p) (sym e) (record {
          engine = engine_on v played.first run new at.engine back.like runs;
          low = at.low;
          within = (let mark = back.mark in let end = at.within in omega (arith, mark, high, end));
          times = subst (λ k. AreTimes (was_busy v) played.first k (filter (λ t. nat_lt t time) played.times)) (sym back.mark)
              (times_cut (was_busy v) played.first run.book.mark time time played.times at.times low (omega arith) high (λ t a b. absurd (omega (arith, a, b))));
          quiet = λ t a b. quiet t (let mark = back.mark in omega (arith, a, mark)) b;
          sparse = sparse_cut (was_busy v) played.first run.book.mark time v.floor played.times at.times at.sparse;
        })

-- what is made is of places that there are, later than the step, and up to the horizon
module _ (v : View) (run : Run) (played : Played) (at : IsAt v run played) (step : ℕ) where
  made_there : All (λ (d : Dated Move). d.1.place < length v.part.nets) (makings step run)
  made_there k d l = (let h = (makings_later run step (ran v run played at) k d l).0 in let e = cells_are v played.first run at.engine in omega (arith, h, e))

  made_later : All (λ (d : Dated Move). step < d.0) (makings step run)
  made_later k d l = (makings_later run step (ran v run played at) k d l).1

  made_until : All (λ (d : Dated Move). d.0 ≤ v.horizon) (makings step run)
  made_until k d l = (let h = (makings_later run step (ran v run played at) k d l).2 in let e = at.engine.run.horizon in omega (arith, h, e))

  pub batch_there : (batch : List (Dated Move)) → batch ≡ makings step run → All (λ (d : Dated Move). d.1.place < length v.part.nets) batch
  batch_there batch e = subst (λ (ws : List (Dated Move)). All (λ (d : Dated Move). d.1.place < length v.part.nets) ws) (sym e) made_there

  pub batch_later : (batch : List (Dated Move)) → batch ≡ makings step run → All (λ (d : Dated Move). step < d.0) batch
  batch_later batch e = subst (λ (ws : List (Dated Move)). All (λ (d : Dated Move). step < d.0) ws) (sym e) made_later

  pub batch_until : (batch : List (Dated Move)) → batch ≡ makings step run → All (λ (d : Dated Move). d.0 ≤ v.horizon) batch
  batch_until batch e = subst (λ (ws : List (Dated Move)). All (λ (d : Dated Move). d.0 ≤ v.horizon) ws) (sym e) made_until

-- What an engine plays that is told nothing but the stimulus.
use Rattle.std.proofs.Common.{◌≡◌, ◌≢◌, ℕ, ◌+◌, ◌<◌, ◌≤◌, max, false, Option, Some, None, IfSome, inl, inr, ap, ◌∙◌, arith}
use Rattle.std.proofs.lemmas.Bool.{cases_lt, false_from_ne_true}
use Rattle.warp_part.specs.Placing.{place_source, place_given}
use Rattle.warp_process.specs.Heard.{IsHeardFrom}
use Rattle.warp_process.specs.View.{View, IsLeast, IsEventTime, given_by, is_busy}
use Rattle.warp_process.specs.Played.{played_view}
use Rattle.warp_engine.specs.Runs.{Run, Ran, HasDropped}
use Rattle.part_engine.specs.Runs.{IsEngine, IsEngineOf, IsNextBrought}
use Rattle.warp_block.proofs.Stepping.{parted_like}

-- what the engine has played
abbrev pub ran : (v : View) (run : Run) (floor : ℕ) → IsEngineOf v floor run → Ran run
ran v run floor engine = record { source = place_source v.part; given = place_given v.part (given_by v); floor = floor; is = engine.run.is }

-- an engine that forgot what only a way back to times before its mark needs
pub forgotten : (v : View) (time : ℕ) (old new : Run) → IsEngine v old → HasDropped time old new → time ≡ old.book.mark → IsEngine v new
forgotten v time old new h dropped at = (
  time,
  record {
    received = h.1.received;
    run = record {
      is = dropped.keeps (place_source v.part) (place_given v.part (given_by v)) h.0 h.1.run.is (let low = h.1.run.is.low in omega (arith, low, at)) (omega (arith, at));
      horizon = dropped.like.horizon ∙ h.1.run.horizon;
      cells = dropped.like.alike.cells ∙ h.1.run.cells;
      parted = parted_like v.part old new dropped.like h.1.run.parted;
    };
  },
)

-- where time 0 is no event time, nothing happens at it
pub not_first : (v : View) (next : Option ℕ) → IsLeast (IsEventTime (played_view v 0)) next → next ≢ Some 0 → is_busy (played_view v 0) 0 ≡ false
not_first v None least other = false_from_ne_true (is_busy (played_view v 0) 0) (λ busy. least 0 (omega arith, omega arith, busy))
not_first v (Some t) least other = false_from_ne_true (is_busy (played_view v 0) 0) (λ busy.
    (let low = least.1 0 (omega arith, omega arith, busy) in
    let same : t ≡ 0 = omega (arith, low) in
    other (ap (λ (k : ℕ). Some k) same)))

-- a time up to which something is brought at its end alone
module _ (v : View) (m time : ℕ) (brought : Option ℕ) (next : IsNextBrought v m brought) (until : IfSome brought (λ at. m ≤ at → time ≤ at)) where
  -- nothing is brought before it
  pub none_before : v.floor ≡ 0 → (t : ℕ) → m ≤ t → t < time → IsHeardFrom v 0 t → ⊥
  none_before none t from to heard = go brought next until
    where
      go : (o : Option ℕ) → IsNextBrought v m o → IfSome o (λ at. m ≤ at → time ≤ at) → ⊥
      go None h u = h t (omega (arith, from, none), heard.1)
      go (Some at) h u =
          let low : max m v.floor ≤ at = h.0.0 in
          let first : at ≤ t = h.1 t (omega (arith, from, none), heard.1) in
          let end : time ≤ at = u (omega (arith, low)) in
          omega (arith, first, end, to)

  -- what is brought next stays so once it is played, if nothing was brought at it
  pub past : m ≤ time → (mark : ℕ) → mark ≡ time + 1 → brought ≢ Some time → IsNextBrought v mark brought
  past ahead mark is other = go brought next until other
    where
      go : (o : Option ℕ) → IsNextBrought v m o → IfSome o (λ at. m ≤ at → time ≤ at) → o ≢ Some time → IsNextBrought v mark o
      go None h u n = λ t heard. (let from : max mark v.floor ≤ t = heard.0 in h t (omega (arith, is, ahead, from), heard.1))
      go (Some at) h u n =
          let low : max m v.floor ≤ at = h.0.0 in
          let end : time ≤ at = u (omega (arith, low)) in
          let later : time < at = elim (cases_lt time at) [
            | inl l ↦ l
            | inr back ↦ absurd (n (let same : at ≡ time = omega (arith, end, back) in ap (λ (k : ℕ). Some k) same))
          ] in
          ((omega (arith, later, is, low), h.0.1), λ t heard. (let l : max mark v.floor ≤ t = heard.0 in h.1 t (omega (arith, is, ahead, l), heard.1)))

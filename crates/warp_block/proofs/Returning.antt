-- What taking an entry makes of a block's engine.
use Rattle.std.proofs.Common.{◌≡◌, ◌≢◌, ℕ, suc, cond, ◌<◌, ◌≤◌, ◌⊎◌, ◌==◌, nat_lt, List, length, get_or, inl, inr, refl, ap, sym, ◌∙◌, subst, arith}
use Rattle.std.specs.List.{filter}
use Rattle.std.proofs.lemmas.Bool.{cases_eq, and_left, and_right, ne_eqb, eq-eqb}
use Rattle.gate_values.specs.declared.logic.Logic.{Logic}
use Rattle.gate_values.specs.declared.logic.Logic.TheVariants.{X}
use Rattle.gate_values.specs.declared.logic.Change.{Change}
use Rattle.gate_values.proofs.ChangeLists.{held-agree}
use Rattle.event_times.specs.Marks.{Played, AreTimes}
use Rattle.warp_stores.specs.Lists.{AreLonger}
use Rattle.warp_engine.specs.Runs.{Run, IsRun, HasReturned, makings}
use Rattle.warp_part.specs.Portion.{Portion}
use Rattle.warp_part.specs.Placing.{place_source, place_given}
use Rattle.warp_part.proofs.Placing.{nothing_past}
use Rattle.warp_process.specs.declared.entry.Entry.{Entry}
use Rattle.warp_process.specs.Entries.{effective_of}
use Rattle.warp_process.specs.Heard.{IsReceived}
use Rattle.warp_process.specs.View.{View, entry_of, effective_at, given_by}
use Rattle.warp_process.specs.Played.{played_view, was_busy}
use Rattle.warp_process.specs.Shown.Receive.{IsPut}
use Rattle.warp_process.proofs.Playing.{played_lawful}
use Rattle.warp_process.proofs.SavingBusy.{busy_agree}
use Rattle.part_engine.specs.Runs.{IsRunOf, IsEngineOf}
use Rattle.part_engine.proofs.GoingOn.{runs_go_on}
use Rattle.part_engine.proofs.RunLogs.{cells_are, logs_agree, logs_longer}
use Rattle.warp_block.specs.Shown.Block.{seen_by}
use Rattle.warp_block.specs.Inner.Held.{IsAt, IsSparse}
use Rattle.warp_block.proofs.Times.{times_cut, times_same, sparse_cut}
use Rattle.warp_block.proofs.Stepping.{parted_like}

module _ (v w : View) (net time : ℕ) (entry : Entry) (put : IsPut v w net time entry) where
  -- at other times the effective values are as they were
  pub effective_other : (n t : ℕ) → t ≢ time → effective_at v n t ≡ effective_at w n t
  effective_other n t ne = sym (ap effective_of (put.entries n t ∙ ap (λ b. cond b entry (entry_of v n t)) (and_right (n == net) (t == time) (ne_eqb t time ne))))

  -- and everywhere, where the entry has the effective value that was there
  pub effective_same : effective_of entry ≡ effective_at v net time → (n t : ℕ) → effective_at v n t ≡ effective_at w n t
  effective_same kept n t = elim (cases_eq t time) [
    | inl now ↦ (elim (cases_eq n net) [
      | inl here ↦ subst (λ (k : ℕ). effective_at v k t ≡ effective_at w k t) (sym here) (subst (λ (u : ℕ). effective_at v net u ≡ effective_at w net u) (sym now) (sym kept ∙ sym new_here))
      | inr there ↦ sym (ap effective_of (put.entries n t ∙ ap (λ b. cond b entry (entry_of v n t)) (and_left (n == net) (t == time) (ne_eqb n net there))))
    ])
    | inr other ↦ effective_other n t other
  ]
    where
      new_here : effective_at w net time ≡ effective_of entry
      new_here =
          let here : entry_of w net time ≡ entry = put.entries net time ∙ rw (eq-eqb net net refl, eq-eqb time time refl) refl in
          ap effective_of here

  module _ (rv : IsReceived v) (rw' : IsReceived w) where
    -- what was busy is busy, as far as the effective values agree
    pub was_same : (t : ℕ) → ((n u : ℕ) → u ≤ t → effective_at v n u ≡ effective_at w n u) → was_busy v t ≡ was_busy w t
    was_same t agree =
        busy_agree (played_view v (suc t)) (played_view w (suc t)) (played_lawful v (suc t) rv) (played_lawful w (suc t) rw') put.part put.horizon t (omega arith) (omega arith) agree

    pub given_same : (end : ℕ) → ((n u : ℕ) → u < end → effective_at v n u ≡ effective_at w n u) → (t n : ℕ) → t < end → given_by v t n ≡ given_by w t n
    given_same end agree t n l = held-agree (effective_at v n) (effective_at w n) (suc t) (λ u m. agree n u (omega (arith, m, l))) t (omega arith)

    -- an entry that changes nothing that is played
    module _ (run : Run) (played : Played) (at : IsAt v run played) (from : v.floor ≤ time) (in_time : (run.book.mark ≤ time) ⊎ (effective_of entry ≡ effective_at v net time)) where
      agree : (n u : ℕ) → u < run.book.mark ⊎ (u < v.floor) → effective_at v n u ≡ effective_at w n u
      agree n u l = elim in_time [
        | inl late ↦ effective_other n u (λ e. elim l [ inl a ↦ absurd (omega (arith, a, late, e)) | inr b ↦ absurd (omega (arith, b, from, e)) ])
        | inr kept ↦ effective_same kept n u
      ]

      pub taken_at : IsAt w run played
      taken_at = record {
        engine = record {
          received = rw';
          run = subst (λ (p : Portion). IsRunOf p (given_by w) w.horizon played.first run) (sym put.part)
              (subst (λ h. IsRunOf v.part (given_by w) h played.first run) (sym put.horizon)
              (runs_go_on v.part rv.part (given_by v) (given_by w) v.horizon played.first run at.engine.run
              (given_same run.book.mark (λ n u l. agree n u (inl l)))));
        };
        low = (let low = at.low in let same = put.floor in omega (arith, low, same));
        within = (let within = at.within in let same = put.horizon in omega (arith, within, same));
        times = times_same (was_busy v) (was_busy w) played.first run.book.mark played.times (λ t a b. was_same t (λ n u m. agree n u (inl (omega (arith, m, b))))) at.times;
        quiet = λ t a b. sym (was_same t (λ n u m. agree n u (inr (let same = put.floor in omega (arith, m, b, same))))) ∙ at.quiet t a (let same = put.floor in omega (arith, b, same));
        sparse = subst (λ (f : ℕ). IsSparse f played.times) (sym put.floor) at.sparse;
      }

      -- the logs stay
      pub taken_logs : (seen_by w run).logs ≡ (seen_by v run).logs
      taken_logs = sym (logs_agree v w rv.part (sym put.part) (sym put.horizon) run.book.mark (given_same run.book.mark (λ n u l. agree n u (inl l))))

    -- an entry that changes what is played: the engine has gone back to its time
    module _ (run : Run) (played : Played) (at : IsAt v run played) (from : v.floor ≤ time) (late : time < run.book.mark) (new : Run) (back : HasReturned time run new)
        (after : Played) (cut : after ≡ record played { times = filter (λ t. nat_lt t time) played.times }) where
      low_time : played.first ≤ time
      low_time = (let low = at.low in omega (arith, low, from))

      agree_below : (n u : ℕ) → u < time → effective_at v n u ≡ effective_at w n u
      agree_below n u l = effective_other n u (λ e. absurd (omega (arith, l, e)))

      given_below : (t place : ℕ) → t < time → place_given v.part (given_by v) t place ≡ place_given v.part (given_by w) t place
      given_below t place l = ap (λ (x : Logic). cond (nat_lt place (length v.part.nets)) x X) (given_same time agree_below t (get_or v.part.nets place 0) l)

      runs : IsRun (place_source v.part) (place_given v.part (given_by w)) played.first new
      runs =
          back.anew (place_source v.part) (place_given v.part (given_by v)) (place_given v.part (given_by w)) played.first at.engine.run.is low_time given_below
          (λ place t far. nothing_past v.part rv.part (given_by w) place t (let e = cells_are v played.first run at.engine in omega (arith, far, e)))

      engine_new : IsEngineOf w played.first new
      engine_new = record {
        received = rw';
        run = subst (λ (p : Portion). IsRunOf p (given_by w) w.horizon played.first new) (sym put.part)
            (subst (λ h. IsRunOf v.part (given_by w) h played.first new) (sym put.horizon)
            (record {
              is = runs;
              horizon = back.like.horizon ∙ at.engine.run.horizon;
              cells = back.like.alike.cells ∙ at.engine.run.cells;
              parted = parted_like v.part run new back.like at.engine.run.parted;
            }));
      }

      pub returned_at : IsAt w new after
      returned_at = subst (λ (p : Played). IsAt w new p) (sym cut) (record {
        engine = engine_new;
        low = (let low = at.low in let same = put.floor in omega (arith, low, same));
        within = (let within = at.within in let same = put.horizon in let mark = back.mark in omega (arith, within, same, mark, late));
        times =
            subst (λ k. AreTimes (was_busy w) played.first k (filter (λ t. nat_lt t time) played.times)) (sym back.mark)
            (times_same (was_busy v) (was_busy w) played.first time (filter (λ t. nat_lt t time) played.times) (λ t a b. was_same t (λ n u m. agree_below n u (omega (arith, m, b))))
            (times_cut (was_busy v) played.first run.book.mark time time played.times at.times low_time (omega arith) (omega (arith, late)) (λ t a b. absurd (omega (arith, a, b)))));
        quiet = λ t a b. absurd (let same = put.floor in let mark = back.mark in omega (arith, a, b, same, mark, from));
        sparse = subst (λ (f : ℕ). IsSparse f (filter (λ t. nat_lt t time) played.times)) (sym put.floor)
            (sparse_cut (was_busy v) played.first run.book.mark time v.floor played.times at.times at.sparse);
      })

      -- what was made from the time on stood behind the logs that are left
      pub returned_longer : AreLonger (makings time run) (seen_by w new).logs (seen_by v run).logs
      returned_longer =
          let left : (seen_by w new).logs ≡ (played_view v time).logs =
          ap (λ (m : ℕ). (played_view w m).logs) back.mark ∙ sym (logs_agree v w rv.part (sym put.part) (sym put.horizon) time (given_same time agree_below)) in
          subst (λ (ls : List (List Change)). AreLonger (makings time run) ls (seen_by v run).logs) (sym left)
          (logs_longer v run played.first at.engine time low_time (omega (arith, late)))

-- Nothing is due, so nothing changes.
use Rattle.std.proofs.Common.{◌≡◌, ◌∙◌, ℕ, zero, suc, ◌+◌, ◌<◌, ◌≤◌, ◌==◌, inl, inr, false, cond, List, [], ◌++◌, ap, sym, subst, arith, nat_lt}
use Rattle.std.specs.List.{filter, flat_map}
use Rattle.std.proofs.lemmas.Bool.{cases_lt}
use Rattle.gate_values.specs.declared.logic.Logic.{Logic}
use Rattle.gate_values.specs.Behaviour.{Source}
use Rattle.warp_stores.specs.Words.{Move}
use Rattle.warp_stores.specs.Dated.{Dated, undated}
use Rattle.warp_stores.specs.Delays.{Delayed, true_since, queue_at, empty_after, due_by, least_due}
use Rattle.warp_stores.proofs.Telling.{lt_false}
use Rattle.warp_gates.specs.Cells.{cell_at}
use Rattle.place_moves.specs.Moves.{value_before, made_before}
use Rattle.place_moves.specs.Journals.{Journal, IsPlayed, AreBrought, marked, queue_of}
use Rattle.place_moves.specs.Inner.Journals.{IsDueFrom}
use Rattle.place_moves.proofs.Filtering.{filter-none, flat_map-none, every-weaker}
use Rattle.place_moves.proofs.Moving.{move_of-none, moves-quiet}
use Rattle.place_moves.proofs.Queueing.{read-quiet, none_due}
use Rattle.place_moves.proofs.Due.{moves_now}
use Rattle.place_moves.proofs.Sourcing.{made-quiet}

module _ (source : ℕ → Source) (given : ℕ → ℕ → Logic) (floor : ℕ) (j : Journal) (played : IsPlayed source given floor j)
    (none : (number : ℕ) → IsDueFrom (suc j.mark) (queue_at j.queues number)) (still : AreBrought source given j.mark []) where
  nothing_due : flat_map (due_by j.mark) j.queues ≡ []
  nothing_due =
      flat_map-none (due_by j.mark) (empty_after 0) j.queues
      (λ i. let q : Delayed = queue_at j.queues i in
      ap undated (filter-none (λ (d : Dated Move). nat_lt (d.0 + q.delay) (suc j.mark)) q.line.ahead
      (every-weaker (λ (d : Dated Move). suc j.mark ≤ d.0 + q.delay) (λ (d : Dated Move). nat_lt (d.0 + q.delay) (suc j.mark) ≡ false) q.line.ahead (λ d l. lt_false (d.0 + q.delay) (suc j.mark) l) (none i))))

  still_values : (place : ℕ) → value_before source given place (suc j.mark) ≡ value_before source given place j.mark
  still_values place =
      move_of-none place (value_before source given place j.mark) (value_before source given place (suc j.mark))
      (sym (moves_now source given floor j played [] still place) ∙ ap (λ (ws : List Move). filter (λ (w : Move). w.place == place) (ws ++ [])) nothing_due)

  still_made : (place : ℕ) → made_before source given place (suc j.mark) ≡ made_before source given place j.mark
  still_made place = made-quiet source given place j.mark (cell_at j.gates.cells place) (played.gates.sources place) still_values

  quiet_once : IsPlayed source given floor (marked (suc j.mark) j)
  quiet_once =
      record {
        forgotten = omega (arith, played.forgotten);
        past = played.past;
        gates = played.gates;
        showing = record { values = λ p. played.showing.values p ∙ sym (still_values p); outputs = λ p. played.showing.outputs p ∙ sym (still_made p) };
        history = record { each = λ p. played.history.each p ∙ sym (moves-quiet p (value_before source given p) j.mark (still_values p)); order = played.history.order };
        queues = λ number. read-quiet j.mark (queue_at j.queues number) (played.queues number) (none number);
        made = λ number place.
            played.made number place
            ∙ ap (λ (ws : List (Dated Move)). cond (number == queue_of j.gates place) (true_since (queue_at j.queues number).delay floor ws) []) (sym (moves-quiet place (made_before source given place) j.mark (still_made place)));
      }

-- Where nothing is due before a time, and nothing is brought, the same is played up to it.
pub quiet_plays : (source : ℕ → Source) (given : ℕ → ℕ → Logic) (floor time : ℕ) (j : Journal) → IsPlayed source given floor j → j.mark ≤ time → ((number : ℕ) → IsDueFrom time (queue_at j.queues number))
    → ((t : ℕ) → j.mark ≤ t → t < time → AreBrought source given t []) → IsPlayed source given floor (marked time j)
quiet_plays source given floor zero j played l none still =
    let e : j.mark ≡ 0 = omega arith in
    subst (λ (t : ℕ). IsPlayed source given floor (marked t j)) e played
quiet_plays source given floor (suc time) j played l none still =
    elim (cases_lt time j.mark) [
      | inl here ↦
          let e : j.mark ≡ suc time = omega arith in
          subst (λ (t : ℕ). IsPlayed source given floor (marked t j)) e played
      | inr past ↦
          let sooner : (number : ℕ) → IsDueFrom time (queue_at j.queues number) = λ number.
          every-weaker (λ (d : Dated Move). suc time ≤ d.0 + (queue_at j.queues number).delay) (λ (d : Dated Move). time ≤ d.0 + (queue_at j.queues number).delay) (queue_at j.queues number).line.ahead (λ d k. omega arith) (none number) in
          quiet_once source given floor (marked time j) (quiet_plays source given floor time j played past sooner (λ t a b. still t a (omega arith))) none (still time past (omega arith))
    ]

-- the same by the least time at which a word comes true
pub quiet_until : (source : ℕ → Source) (given : ℕ → ℕ → Logic) (floor time : ℕ) (j : Journal) → IsPlayed source given floor j → j.mark ≤ time → time ≤ least_due j.queues
    → ((t : ℕ) → j.mark ≤ t → t < time → AreBrought source given t []) → IsPlayed source given floor (marked time j)
quiet_until source given floor time j played l due still = quiet_plays source given floor time j played l (none_due time j.queues due) still

-- What is given from a time on changes nothing before it.
use Rattle.std.proofs.Common.{◌≡◌, ◌∙◌, ℕ, zero, suc, ◌<◌, ◌≤◌, ◌==◌, cond, List, [], length, refl, ap, arith}
use Rattle.gate_values.specs.declared.logic.Logic.{Logic}
use Rattle.gate_values.specs.declared.logic.Logic.TheVariants.{X}
use Rattle.gate_values.specs.Behaviour.{Source, Moment, history, with_next, back, beginning, before, output}
use Rattle.warp_stores.specs.Dated.{Dated}
use Rattle.warp_stores.specs.Words.{Move}
use Rattle.warp_stores.specs.Delays.{true_since, queue_at}
use Rattle.place_moves.specs.Moves.{value_before, made_before}
use Rattle.place_moves.specs.Journals.{Journal, IsPlayed, queue_of}
use Rattle.place_moves.proofs.Moving.{moves-agree}

module _ (source : ℕ → Source) (given given' : ℕ → ℕ → Logic) where
  history-agree : (t : ℕ) → ((s p : ℕ) → s < t → given s p ≡ given' s p) → history source given t ≡ history source given' t
  unfolding history
  history-agree zero h = refl
  history-agree (suc t) h =
      let past : history source given t ≡ history source given' t = history-agree t (λ s p l. h s p (omega arith)) in
      let now : given t ≡ given' t = λ i p. h t p (omega arith) i in
      ap (λ (xs : List Moment). with_next source (given t) xs) past ∙ ap (λ (f : ℕ → Logic). with_next source f (history source given' t)) now

  before-agree : (t : ℕ) → ((s p : ℕ) → s < t → given s p ≡ given' s p) → before source given t ≡ before source given' t
  before-agree t h = ap (λ (xs : List Moment). back (beginning source) xs 1) (history-agree t h)

  pub value-agree : (place t : ℕ) → ((s p : ℕ) → s < t → given s p ≡ given' s p) → value_before source given place t ≡ value_before source given' place t
  value-agree place t h = ap (λ (m : Moment). m.value place) (before-agree t h)

  pub made-agree : (place t : ℕ) → ((s p : ℕ) → s < t → given s p ≡ given' s p) → made_before source given place t ≡ made_before source given' place t
  made-agree place t h = ap (λ (m : Moment). output (source place) m place) (before-agree t h)

-- What is played is played of whatever is given that agrees before the mark.
pub given_plays : (source : ℕ → Source) (given given' : ℕ → ℕ → Logic) (floor : ℕ) (j : Journal) → IsPlayed source given floor j
    → ((t p : ℕ) → t < j.mark → given t p ≡ given' t p) → ((p t : ℕ) → length j.gates.cells ≤ p → given' t p ≡ X) → IsPlayed source given' floor j
given_plays source given given' floor j played agree past =
    let values : (p t : ℕ) → t ≤ j.mark → value_before source given p t ≡ value_before source given' p t = λ p t l. value-agree source given given' p t (λ s q k. agree s q (omega arith)) in
    let made : (p t : ℕ) → t ≤ j.mark → made_before source given p t ≡ made_before source given' p t = λ p t l. made-agree source given given' p t (λ s q k. agree s q (omega arith)) in
    record {
      forgotten = played.forgotten;
      past = past;
      gates = played.gates;
      showing = record {
        values = λ p. played.showing.values p ∙ values p j.mark (omega arith);
        outputs = λ p. played.showing.outputs p ∙ made p j.mark (omega arith);
      };
      history = record {
        each = λ p. played.history.each p ∙ moves-agree p (value_before source given p) (value_before source given' p) j.mark (λ t l. values p t l);
        order = played.history.order;
      };
      queues = played.queues;
      made = λ number p.
          played.made number p
          ∙ ap (λ (ws : List (Dated Move)). cond (number == queue_of j.gates p) (true_since (queue_at j.queues number).delay floor ws) [])
          (moves-agree p (made_before source given p) (made_before source given' p) j.mark (λ t l. made p t l));
    }

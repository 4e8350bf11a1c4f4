-- What is given from a mark on doesn't matter to the logs up to it.
use Rattle.std.proofs.Common.{◌≡◌, ◌∙◌, ℕ, zero, suc, ◌+◌, ◌-◌, ◌<◌, ◌≤◌, inl, inr, List, ap, sym, arith}
use Rattle.std.proofs.lemmas.Bool.{cases_lt}
use Rattle.gate_values.specs.declared.logic.Logic.{Logic}
use Rattle.gate_values.specs.declared.logic.Change.{Change}
use Rattle.gate_values.specs.Behaviour.{Source, source_delay, value}
use Rattle.gate_values.specs.Changes.{changes}
use Rattle.warp_stores.specs.Words.{Move}
use Rattle.warp_stores.specs.Dated.{Dated}
use Rattle.warp_stores.specs.Lists.{changes_at}
use Rattle.warp_gates.specs.Cells.{Cell}
use Rattle.place_moves.specs.Moves.{value_before, made_before}
use Rattle.place_moves.specs.Journals.{IsSetBy}
use Rattle.place_moves.proofs.Telling.{up_to, changes_are}
use Rattle.place_moves.proofs.Logging.{log-driven, log-outside}
use Rattle.place_moves.proofs.Moving.{moves-agree}
use Rattle.place_moves.proofs.Coming.{value-later, value-first, value-none}
use Rattle.place_moves.proofs.Sourcing.{driven_or_not}
use Rattle.place_moves.proofs.Regiving.{made-agree}
use Rattle.warp_engine.specs.Logs.{log_up_to}

module _ (source : ℕ → Source) (given given' : ℕ → ℕ → Logic) (mark : ℕ) (agree : (t place : ℕ) → t < mark → given t place ≡ given' t place) where
  made_same : (place t : ℕ) → t ≤ mark → made_before source given place t ≡ made_before source given' place t
  made_same place t l = made-agree source given given' place t (λ s p h. agree s p (omega arith))

  -- what a place shows up to one delay past the mark is made before the mark
  shown_same : (place : ℕ) → 0 < source_delay (source place) → (t : ℕ) → t ≤ mark + source_delay (source place) → value_before source given place t ≡ value_before source given' place t
  shown_same place driven zero l = value-none source given place ∙ sym (value-none source given' place)
  shown_same place driven (suc t) l =
      let delay : ℕ = source_delay (source place) in
      elim (cases_lt (suc t) (delay + 1)) [
        | inl early ↦ value-first source given place (suc t) (omega arith) early ∙ made_same place 0 (omega arith) ∙ sym (value-first source given' place (suc t) (omega arith) early)
        | inr late ↦
            let is : suc t ≡ (suc t - delay) + delay = omega arith in
            ap (value_before source given place) is ∙ value-later source given place (suc t - delay) driven
            ∙ made_same place (suc t - delay) (omega arith)
            ∙ sym (ap (value_before source given' place) is ∙ value-later source given' place (suc t - delay) driven)
      ]

  pub logs_agree_at : (horizon place : ℕ) (cell : Cell) → IsSetBy cell (source place) → log_up_to source given horizon mark place ≡ log_up_to source given' horizon mark place
  logs_agree_at horizon place cell set =
      let delay : ℕ = source_delay (source place) in
      let all : (ℕ → ℕ → Logic) → List Change = λ g. changes (value source g place) (horizon + 1) in
      elim (driven_or_not cell (source place) set) [
        | inl out ↦ log-outside (source place) mark (all given) out ∙ sym (log-outside (source place) mark (all given') out)
        | inr driven ↦
            log-driven (source place) mark (all given) driven
            ∙ sym (changes_are source given place horizon (mark + delay))
            ∙ ap (λ (ms : List (Dated Move)). changes_at place (up_to horizon ms)) (moves-agree place (value_before source given place) (value_before source given' place) (mark + delay) (shown_same place driven))
            ∙ changes_are source given' place horizon (mark + delay)
            ∙ sym (log-driven (source place) mark (all given') driven)
      ]

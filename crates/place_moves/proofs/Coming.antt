-- What comes true of what sources make.
use Rattle.std.proofs.Common.{◌≡◌, ◌∙◌, ℕ, zero, suc, ◌+◌, ◌-◌, ◌<◌, refl, ap, arith}
use Rattle.gate_values.specs.declared.logic.Logic.{Logic}
use Rattle.gate_values.specs.declared.logic.Logic.TheVariants.{X}
use Rattle.gate_values.specs.Behaviour.{Source, history, output, before, source_delay}
use Rattle.gate_values.proofs.Behaving.{value_is}
use Rattle.place_moves.specs.Moves.{value_before, made_before}

module _ (source : ℕ → Source) (given : ℕ → ℕ → Logic) where
  -- what a source makes comes true a delay later
  at_end : (place time end : ℕ) → 0 < source_delay (source place) → time + source_delay (source place) ≡ suc end → value_before source given place (suc end) ≡ made_before source given place time
  at_end place time end h e =
      let at : suc end - source_delay (source place) ≡ time = omega arith in
      value_is source given place end (source place) refl h ∙ ap (λ (t : ℕ). output (source place) (before source given t) place) at

  pub value-later : (place time : ℕ) → 0 < source_delay (source place) → value_before source given place (time + source_delay (source place)) ≡ made_before source given place time
  value-later place time h =
      let e : time + source_delay (source place) ≡ suc (time + source_delay (source place) - 1) = omega arith in
      ap (value_before source given place) e ∙ at_end place time (time + source_delay (source place) - 1) h e

  -- until a delay has passed stands what it makes of the beginning
  first_at : (place time : ℕ) → time < source_delay (source place) → value_before source given place (suc time) ≡ made_before source given place 0
  first_at place time l =
      let at : suc time - source_delay (source place) ≡ 0 = omega arith in
      value_is source given place time (source place) refl (omega arith) ∙ ap (λ (t : ℕ). output (source place) (before source given t) place) at

  pub value-first : (place time : ℕ) → 0 < time → time < source_delay (source place) + 1 → value_before source given place time ≡ made_before source given place 0
  value-first place zero some l = absurd (omega arith)
  value-first place (suc time) some l = first_at place time (omega arith)

  -- at the beginning nothing is known
  pub value-none : (place : ℕ) → value_before source given place 0 ≡ X
  unfolding history
  value-none place = refl

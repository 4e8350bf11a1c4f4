use Rattle.std.proofs.Common.{◌≡◌, ◌∙◌, ◌⊎◌, inl, inr, List, [], ◌∷◌, take, refl, ap}
use Rattle.gate_values.specs.declared.logic.Logic.{Logic}
use Rattle.gate_values.specs.declared.gate.Kind.{Kind}
use Rattle.gate_values.specs.declared.gate.Kind.TheVariants.{Not, Buff}
use Rattle.gate_values.specs.Tables.{table_of}
use Rattle.warp_gates.proofs.outputs.output.Goals as goal

first_alone : (kind : Kind) (a b c d : Logic) → (kind ≡ Not) ⊎ (kind ≡ Buff) → table_of kind (a ∷ []) ≡ table_of kind (a ∷ b ∷ c ∷ d ∷ [])
unfolding table_of
first_alone Not a b c d h = refl
first_alone Buff a b c d h = refl
first_alone kind a b c d h = elim h [ inl e ↦ cc | inr e ↦ cc ]

pub returns-in-Not : goal.returns-in-Not
returns-in-Not c =
    c.table.ensures
    ∙ ap (λ (vs : List Logic). table_of c.args.kind (take 1 vs)) c.values-inputs.ensures
    ∙ first_alone c.args.kind _ _ _ _ c.in-Not.is

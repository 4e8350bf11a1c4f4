-- What gates put out for two inputs, as a table.
use Rattle.std.specs.Prelude.{List, [], ◌∷◌}
use Rattle.gate_values.specs.declared.logic.Logic.{Logic}
use Rattle.gate_values.specs.declared.logic.Logic.TheVariants.{Zero, One, X, Z}
use Rattle.gate_values.specs.declared.gate.Kind.{Kind}
use Rattle.gate_values.specs.declared.gate.Kind.TheVariants.{And, Nand, Or, Nor, Xor, Xnor, Not, Buff}
use Rattle.gate_values.specs.Tables.{table_of}

-- something for each kind of gate, in their order
abbrev pub by_kind : {A : Type 0} → (Kind → A) → List A
by_kind f = f And ∷ f Nand ∷ f Or ∷ f Nor ∷ f Xor ∷ f Xnor ∷ f Not ∷ f Buff ∷ []

-- something for each value, in their order
abbrev pub by_value : {A : Type 0} → (Logic → A) → List A
by_value f = f Zero ∷ f One ∷ f X ∷ f Z ∷ []

-- by the kind, then the first input, then the second
abbrev pub pairs : List (List (List Logic))
pairs = by_kind (λ kind. by_value (λ first. by_value (λ second. table_of kind (first ∷ second ∷ []))))

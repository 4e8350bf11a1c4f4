-- The tests by which two parts are compared.
use Rattle.std.specs.Prelude.{ℕ, Bool, ◌==◌, List, [], ◌∷◌}
use Rattle.std.specs.Ordering.{on, eq_of_both}
use Rattle.std.specs.Bool.{beq}
use lib.Pointwise.{pointwise}
use Rattle.gate_values.specs.declared.logic.Logic.{Logic}
use Rattle.gate_values.specs.declared.logic.Logic.TheVariants.{Zero, One, X, Z}
use Rattle.gate_values.specs.declared.gate.Kind.{Kind}
use Rattle.gate_values.specs.declared.gate.Kind.TheVariants.{And, Nand, Or, Nor, Xor, Xnor, Not, Buff}
use Rattle.gate_values.specs.Behaviour.{Source, Outside, Gate, Flop}
use Rattle.warp_part.specs.Portion.{Portion}

-- the place of a kind among all kinds
abbrev pub kind_place : Kind → ℕ
kind_place And = 0
kind_place Nand = 1
kind_place Or = 2
kind_place Nor = 3
kind_place Xor = 4
kind_place Xnor = 5
kind_place Not = 6
kind_place Buff = 7

-- the place of a value among all values
abbrev pub logic_place : Logic → ℕ
logic_place Zero = 0
logic_place One = 1
logic_place X = 2
logic_place Z = 3

-- a source as a list of numbers, which no other source has
abbrev pub numbers_of : Source → List ℕ
numbers_of Outside = []
numbers_of (Gate kind delay inputs) = 0 ∷ kind_place kind ∷ delay ∷ inputs
numbers_of (Flop delay data_net clock initial) = 1 ∷ delay ∷ data_net ∷ clock ∷ logic_place initial ∷ []

-- field by field: block, nets, sources, inputs and readers
abbrev pub same_part : Portion → Portion → Bool
same_part =
    eq_of_both (on (λ p. p.block) ◌==◌)
    (eq_of_both (on (λ p. p.nets) (pointwise ◌==◌))
    (eq_of_both (on (λ p. p.sources) (pointwise (on numbers_of (pointwise ◌==◌))))
    (eq_of_both (on (λ p. p.inputs) (pointwise beq))
    (on (λ p. p.readers) (pointwise (pointwise ◌==◌))))))

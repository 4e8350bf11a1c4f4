-- A gate of unknown inputs puts out unknown, and before its delay a net is as it began.
use Rattle.std.proofs.Common.{◌≡◌, ℕ, suc, ◌-◌, ◌<◌, ◌∙◌, List, [], ◌∷◌, map, length, false, refl, arith}
use Rattle.std.specs.List.{list_any}
use Rattle.gate_values.specs.declared.logic.Logic.{Logic}
use Rattle.gate_values.specs.declared.logic.Logic.TheVariants.{X}
use Rattle.gate_values.specs.declared.gate.Kind.{Kind}
use Rattle.gate_values.specs.declared.gate.Kind.TheVariants.{And, Nand, Or, Nor, Xor, Xnor, Not, Buff}
use Rattle.gate_values.specs.Tables.{table_of, HasInputs, is_zero, is_one}
use Rattle.gate_values.specs.Behaviour.{Source, Outside, Gate, Flop, initial_of, beginning, output, value, source_delay, history, IsWellFormed}
use Rattle.gate_values.proofs.Behaving.{value_is}

all_x : List ℕ → List Logic
all_x ns = map (λ _. X) ns

none_zero : (ns : List ℕ) → list_any is_zero (map (λ (n : ℕ). X) ns) ≡ false
none_zero [] = refl
none_zero (n ∷ ns) = none_zero ns

none_one : (ns : List ℕ) → list_any is_one (map (λ (n : ℕ). X) ns) ≡ false
none_one [] = refl
none_one (n ∷ ns) = none_one ns

pub table_of-unknown : (kind : Kind) (ns : List ℕ) → HasInputs kind (length ns) → table_of kind (map (λ (n : ℕ). X) ns) ≡ X
unfolding table_of
table_of-unknown And [] h = absurd (omega arith)
table_of-unknown Nand [] h = absurd (omega arith)
table_of-unknown Or [] h = absurd (omega arith)
table_of-unknown Nor [] h = absurd (omega arith)
table_of-unknown Xor [] h = absurd (omega arith)
table_of-unknown Xnor [] h = absurd (omega arith)
table_of-unknown Not [] h = refl
table_of-unknown Buff [] h = refl
table_of-unknown And (n ∷ ns) h = rw (none_zero ns) refl
table_of-unknown Nand (n ∷ ns) h = rw (none_zero ns) refl
table_of-unknown Or (n ∷ ns) h = rw (none_one ns) refl
table_of-unknown Nor (n ∷ ns) h = rw (none_one ns) refl
table_of-unknown Xor (n ∷ ns) h = refl
table_of-unknown Xnor (n ∷ ns) h = refl
table_of-unknown Not (n ∷ ns) h = refl
table_of-unknown Buff (n ∷ ns) h = refl

-- what a source makes of a moment before time 0
output-beginning : (source : ℕ → Source) (n : ℕ) (s : Source) → source n ≡ s → IsWellFormed s → output s (beginning source) n ≡ initial_of s
output-beginning source n Outside e w = refl
output-beginning source n (Gate kind delay inputs) e w = table_of-unknown kind inputs w.1
output-beginning source n (Flop delay d c i) e w = rw e refl

pub initial_before : (source : ℕ → Source) (given : ℕ → ℕ → Logic) (n t : ℕ) → IsWellFormed (source n) → t < source_delay (source n) → value source given n t ≡ initial_of (source n)
unfolding history
initial_before source given n t w h =
    let positive : 0 < source_delay (source n) = omega arith in
    let start : suc t - source_delay (source n) ≡ 0 = omega arith in
    value_is source given n t (source n) refl positive ∙ rw start (output-beginning source n (source n) refl w)

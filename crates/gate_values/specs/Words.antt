-- The words of the kinds of gates.
use Rattle.std.specs.Prelude.{ℕ, List, codes}
use Rattle.gate_values.specs.declared.gate.Kind.{Kind}
use Rattle.gate_values.specs.declared.gate.Kind.TheVariants as kind

-- the word of a kind of gate
abbrev pub word_of : Kind → List ℕ
word_of kind.And = codes "AND"
word_of kind.Nand = codes "NAND"
word_of kind.Or = codes "OR"
word_of kind.Nor = codes "NOR"
word_of kind.Xor = codes "XOR"
word_of kind.Xnor = codes "XNOR"
word_of kind.Not = codes "NOT"
word_of kind.Buff = codes "BUFF"

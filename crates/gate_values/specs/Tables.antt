-- The tables of gates and of the flip-flop.
use Rattle.std.specs.Prelude.{◌≡◌, ◌<◌, ℕ, Bool, true, false, if◌then◌else◌, nat_eq, ◌%◌, count_by, List, [], ◌∷◌}
use Rattle.std.specs.List.{list_any, list_all}
use Rattle.gate_values.specs.declared.logic.Logic.{Logic}
use Rattle.gate_values.specs.declared.logic.Logic.TheVariants.{Zero, One, X, Z}
use Rattle.gate_values.specs.declared.gate.Kind.{Kind}
use Rattle.gate_values.specs.declared.gate.Kind.TheVariants.{And, Nand, Or, Nor, Xor, Xnor, Not, Buff}

abbrev pub is_zero : Logic → Bool
is_zero Zero = true
is_zero _ = false

abbrev pub is_one : Logic → Bool
is_one One = true
is_one _ = false

-- known: 0 or 1
abbrev pub is_known : Logic → Bool
is_known Zero = true
is_known One = true
is_known _ = false

-- the number of ones is odd
abbrev pub odd_ones : List Logic → Bool
odd_ones vs = nat_eq (count_by is_one vs % 2) 1

abbrev pub inverted : Logic → Logic
inverted Zero = One
inverted One = Zero
inverted _ = X

-- z counts as x
abbrev pub passed : Logic → Logic
passed Z = X
passed v = v

abbrev pub and_of : List Logic → Logic
and_of vs = if list_any is_zero vs then Zero else if list_all is_one vs then One else X

abbrev pub or_of : List Logic → Logic
or_of vs = if list_any is_one vs then One else if list_all is_zero vs then Zero else X

abbrev pub xor_of : List Logic → Logic
xor_of vs = if list_all is_known vs then (if odd_ones vs then One else Zero) else X

-- the one input of NOT and BUFF
abbrev pub only_of : List Logic → Logic
only_of [] = X
only_of (v ∷ vs) = v

unfoldable pub table_of : Kind → List Logic → Logic
table_of And vs = and_of vs
table_of Nand vs = inverted (and_of vs)
table_of Or vs = or_of vs
table_of Nor vs = inverted (or_of vs)
table_of Xor vs = xor_of vs
table_of Xnor vs = inverted (xor_of vs)
table_of Not vs = inverted (only_of vs)
table_of Buff vs = passed (only_of vs)

-- kept where it is what would be loaded, else unknown
abbrev pub kept : Logic → Logic → Logic
kept Zero Zero = Zero
kept One One = One
kept _ _ = X

-- the content, the clock before the moment and at it, and the data before it
unfoldable pub flip_of : Logic → Logic → Logic → Logic → Logic
flip_of content Zero One d = passed d
flip_of content Zero X d = kept content (passed d)
flip_of content Zero Z d = kept content (passed d)
flip_of content X One d = kept content (passed d)
flip_of content Z One d = kept content (passed d)
flip_of content _ _ d = content

-- how many inputs a gate of the kind may have
abbrev pub HasInputs : Kind → ℕ → Type 0
HasInputs Not n = n ≡ 1
HasInputs Buff n = n ≡ 1
HasInputs _ n = 0 < n

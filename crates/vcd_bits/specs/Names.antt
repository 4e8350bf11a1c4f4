-- The bits of a dump, by their names.
use Rattle.std.specs.Prelude.{ℕ, zero, suc, ◌+◌, ◌-◌, Bool, nat_eq, nat_le, if◌then◌else◌, List, [], ◌∷◌, ◌++◌, length, take, drop, codes, decimal, Option, Some, None, position}
use Rattle.std.specs.Int.{abs_diff}
use Rattle.std.specs.List.{ends_with, list_any}
use Rattle.std.specs.Str.{bytes_eq}
use Rattle.gate_vcd.specs.Declarations.{Variable}
use Rattle.gate_vcd.specs.Changes.{Source}
use Rattle.gate_vcd.specs.Vectors.{Vector, vector_of}

-- a bit: its name, and where it takes its values from
pub record Bit : Type 0 where
  pub name : List ℕ
  pub source : Source

-- what follows a scope's text in a path: nothing, or a dot and the path below it
abbrev pub after_scope : List ℕ → Option (List ℕ)
after_scope [] = Some []
after_scope (b ∷ bs) = if nat_eq b 46 then Some bs else None

-- The path below a scope: none where it doesn't lead through it. All paths are below the empty scope.
abbrev pub below : List ℕ → List ℕ → Option (List ℕ)
below scope path =
    if nat_eq (length scope) 0 then Some path
    else if bytes_eq (take (length scope) path) scope then after_scope (drop (length scope) path)
    else None

-- the name of something in a path
abbrev pub named_in : List ℕ → List ℕ → List ℕ
named_in [] name = name
named_in (b ∷ bs) name = (b ∷ bs) ++ 46 ∷ name

-- the number of a bit of a vector, counted from the left and from 0
abbrev pub number_from_left : Vector → ℕ → ℕ
number_from_left v n = if nat_le v.right v.left then v.left - n else v.left + n

-- the bit of a vector so far from the left, of a variable with this code in a path
abbrev pub vector_bit : List ℕ → List ℕ → Vector → ℕ → Bit
vector_bit path code v n = record {
  name = named_in path (v.base ++ codes "[" ++ decimal (number_from_left v n) ++ codes "]");
  source = record { code = code; place = abs_diff (number_from_left v n) v.right };
}

-- so many bits of a vector, from the left
abbrev pub vector_bits : List ℕ → List ℕ → Vector → ℕ → List Bit
vector_bits path code v zero = []
vector_bits path code v (suc n) = vector_bits path code v n ++ vector_bit path code v n ∷ []

-- all bits of what is a vector
abbrev pub bits_in : List ℕ → List ℕ → Option Vector → List Bit
bits_in path code None = []
bits_in path code (Some v) = vector_bits path code v (abs_diff v.left v.right + 1)

-- the name of a variable of one bit: its reference, without a range from 0 to 0
abbrev pub single_name : List ℕ → List ℕ
single_name reference = if ends_with nat_eq reference (codes "[0:0]") then take (length reference - 5) reference else reference

-- the bits of a variable in a path: one of its name where its size is 1
abbrev pub bits_of : List ℕ → Variable → List Bit
bits_of path v = if nat_eq v.size 1 then record { name = named_in path (single_name v.reference); source = record { code = v.code; place = 0 } } ∷ [] else bits_in path v.code (vector_of v)

-- the same, where the variable has bits and stands in the scope
abbrev pub bits_if : Bool → Option (List ℕ) → Variable → List Bit
bits_if valued None v = []
bits_if valued (Some path) v = if valued then bits_of path v else []

abbrev pub bits_below : List ℕ → List ℕ → Variable → List Bit
bits_below scope path v = bits_if v.valued (below scope path) v

-- the bits in a scope, of variables in these paths, in the order of their declarations
abbrev pub all_bits : List ℕ → List (List ℕ) → List Variable → List Bit
all_bits scope (path ∷ paths) (v ∷ vs) = bits_below scope path v ++ all_bits scope paths vs
all_bits scope paths vs = []

abbrev pub is_named : List Bit → List ℕ → Bool
is_named bits name = list_any (λ b. bytes_eq name b.name) bits

-- of two bits of one name the first counts
abbrev pub with_bit : List Bit → Bit → List Bit
with_bit bits b = if is_named bits b.name then bits else bits ++ b ∷ []

-- these bits with further ones
abbrev pub with_bits : List Bit → List Bit → List Bit
with_bits bits [] = bits
with_bits bits (b ∷ bs) = with_bits (with_bit bits b) bs

-- the scope of the first variable that has bits; all where there is none
abbrev pub first_scope : List (List ℕ) → List Variable → List ℕ
first_scope (path ∷ paths) (v ∷ vs) = if v.valued then path else first_scope paths vs
first_scope paths vs = []

-- the scope that is asked for, or that of the first variable
abbrev pub scope_in : Option (List ℕ) → List (List ℕ) → List Variable → List ℕ
scope_in (Some scope) paths vs = scope
scope_in None paths vs = first_scope paths vs

-- where the bit of a name takes its values from
abbrev pub named_source : List Bit → List ℕ → Option Source
named_source [] name = None
named_source (b ∷ bs) name = if bytes_eq name b.name then Some b.source else named_source bs name

-- the number of the bit of a name
abbrev pub number_of : List Bit → List ℕ → Option ℕ
number_of bits name = position (λ b. bytes_eq name b.name) bits

-- Where each input of a circuit takes its values from.
use Rattle.std.specs.Prelude.{ℕ, zero, suc, Bool, ◌&&◌, ◌||◌, nat_eq, if◌then◌else◌, List, [], ◌∷◌, ◌++◌, codes, Option, Some, None, option_map, option_and_then, Result, Ok, Err}
use Rattle.std.specs.List.{list_any, find, starts_with}
use Rattle.std.specs.Option.{option_or}
use Rattle.std.specs.Str.{bytes_eq}
use Rattle.gate_netlist.specs.Circuit.{Design, driver_of, name_of, is_input}
use Rattle.gate_vcd.specs.declared.fault.StimFault.{StimFault}
use Rattle.gate_vcd.specs.declared.fault.StimCause.{StimCause}
use Rattle.gate_vcd.specs.declared.fault.StimCause.TheVariants as causes
use Rattle.gate_netlist.specs.Bench.{◌>>=◌}
use Rattle.gate_vcd.specs.Declarations.{Variable}
use Rattle.gate_vcd.specs.Changes.{Source}
use Rattle.gate_vcd.specs.Vectors.{Bit, bit_of, place_in, vector_of}

-- a variable is named for a net, alone or with an index
abbrev pub is_named_for : List ℕ → Variable → Bool
is_named_for name v = v.counted && (bytes_eq name v.reference || starts_with nat_eq v.reference (name ++ codes "["))

-- one bit wide
abbrev pub is_single : Variable → Bool
is_single v = nat_eq v.size 1 && v.valued

-- it is a scalar of the net: one bit wide, and named for it alone or with the index 0 of 0
abbrev pub is_scalar_of : List ℕ → Variable → Bool
is_scalar_of name v = (v.counted && is_single v) && (bytes_eq name v.reference || bytes_eq (name ++ codes "[0:0]") v.reference)

-- what the first of these gives that gives something
abbrev pub first_given : {X Y : Type 0} → (X → Option Y) → List X → Option Y
first_given f [] = None
first_given f (x ∷ xs) = option_or (f x) (first_given f xs)

-- the code of the first scalar of a net
abbrev pub scalar_code : List Variable → List ℕ → Option (List ℕ)
scalar_code vs name = option_map (λ v. v.code) (find (is_scalar_of name) vs)

-- a scalar takes the last digit
abbrev pub scalar_source : List Variable → List ℕ → Option Source
scalar_source vs name = option_map (λ code. record { code = code; place = 0 }) (scalar_code vs name)

-- a bit takes its own digit of a vector that has it
abbrev pub source_in : Bit → Variable → Option Source
source_in bit v = option_map (λ p. record { code = v.code; place = p }) (option_and_then (place_in bit) (vector_of v))

-- the source that the first vector gives of which a net is a bit
abbrev pub bit_source : List Variable → List ℕ → Option Source
bit_source vs name = option_and_then (λ bit. first_given (source_in bit) vs) (bit_of name)

-- a net takes the first scalar of its name, and where there is none the first vector of which it is a bit
abbrev pub source_of : List Variable → List ℕ → Option Source
source_of vs name = option_or (scalar_source vs name) (bit_source vs name)

-- why an input has no source
abbrev pub cause_without : List Variable → List ℕ → StimCause
cause_without vs name = if list_any (is_named_for name) vs then causes.NotScalar else causes.MissingInput

-- a source, or else the refusal at the net
abbrev pub source_or_fault : Option Source → ℕ → StimCause → Result Source StimFault
source_or_fault (Some source) net cause = Ok source
source_or_fault None net cause = Err (record { at = net; cause = cause })

-- the source of a net, which only an input has
abbrev pub source_of_net : Design → List Variable → ℕ → Result (Option Source) StimFault
source_of_net d vs net =
    if is_input (driver_of d net) then (source_or_fault (source_of vs (name_of d net)) net (cause_without vs (name_of d net)) >>= λ source. Ok (Some source))
    else Ok None

-- the sources of the nets below a number, or the first refusal
unfoldable pub sources_below : Design → List Variable → ℕ → Result (List (Option Source)) StimFault
sources_below d vs zero = Ok []
sources_below d vs (suc net) = sources_below d vs net >>= λ found. (source_of_net d vs net >>= λ source. Ok (found ++ source ∷ []))

-- What a reader keeps of the variables: the scalars by their nets, the vectors by their bases.
use Rattle.std.specs.Prelude.{◌≡◌, ◌<◌, ◌≤◌, ℕ, ◌-◌, Bool, false, nat_eq, if◌then◌else◌, List, length, get_or, take, codes, Option, Some, None, option_map, option_and_then, position, IsUtf8, Result, Ok, Err}
use Rattle.std.specs.Int.{abs_diff}
use Rattle.std.specs.Option.{option_map_or}
use Rattle.std.specs.List.{ends_with}
use Rattle.std.specs.Borrow.{Bor}
use Rattle.std.specs.Str.{bytes_eq}
use Rattle.gate_netlist.specs.Circuit.{Design, name_of, nets_of}
use Rattle.gate_vcd.specs.declared.fault.StimFault.{StimFault}
use Rattle.gate_vcd.specs.declared.inputs.Inputs.{Inputs}
use Rattle.gate_vcd.specs.declared.inputs.Inputs.TheVariants.{Found, Lacking}
use Rattle.gate_vcd.specs.declared.source.Source.{Source as Held}
use Rattle.gate_vcd.specs.declared.vectors.Bit.{Bit as HeldBit}
use Rattle.gate_vcd.specs.declared.runs.Kept.{Kept}
use Rattle.gate_vcd.specs.declared.vectors.Vectors.{Vectors}
use Rattle.gate_vcd.specs.Declarations.{Variable}
use Rattle.gate_vcd.specs.Changes.{Source}
use Rattle.gate_vcd.specs.Vectors.{Bit}
use Rattle.gate_vcd.specs.Inputs.{first_given, scalar_source, source_in}
use Rattle.gate_vcd.specs.Shown.Known.{source_by, sources_by}
use Rattle.gate_vcd.specs.Inner.Runs.{kept_at}

-- the net that was found
abbrev pub is_net : Option ℕ → ℕ → Bool
is_net found net = option_map_or (nat_eq net) found false

-- the source that is kept for a net
abbrev pub source_at : List (Option Held) → ℕ → Option Source
source_at sources net = source_by (get_or sources net None)

-- the source that a scalar with this code gives, where it is one of the net
abbrev pub scalar_if : Bool → List ℕ → Option Source
scalar_if b code = if b then Some (record { code = code; place = 0 }) else None

-- for each net the source is kept that the first scalar of its name gives; each name is UTF-8
pub record AreScalars (d : Design) (vs : List Variable) (sources : List (Option Held)) : Type 0 where
  pub count : length sources ≡ nets_of d
  pub each : (net : ℕ) → net < nets_of d → IsUtf8 (name_of d net) → source_at sources net ≡ scalar_source vs (name_of d net)

abbrev pub bit : HeldBit → Bit
bit b = record { base = b.base.now; index = b.index }

-- the texts before a bracket and in it
abbrev pub two_texts : Option (Bor (List ℕ) × Bor (List ℕ)) → Option (List ℕ × List ℕ)
two_texts o = option_map (λ (x : Bor (List ℕ) × Bor (List ℕ)). (x.0.now, x.1.now)) o

-- the source that a bit takes of a vector that is kept
abbrev pub source_from : ℕ → Kept → Source
source_from index kept = record { code = kept.code.now; place = abs_diff index kept.right }

-- the number of a base
abbrev pub number_in : Vectors → List ℕ → Option ℕ
number_in vectors base = position (λ (k : Bor (List ℕ)). bytes_eq base k.now) vectors.bases.keys

-- the source that is kept for a bit
abbrev pub kept_source : Vectors → Bit → Option Source
kept_source vectors bit = option_map (source_from bit.index) (option_and_then (λ number. kept_at vectors.runs.starts number bit.index) (number_in vectors bit.base))

-- For each bit the source is kept that the first vector gives that has it. At a number of no base nothing is kept.
pub record AreVectors (vectors : Vectors) (vs : List Variable) : Type 0 where
  pub sources : (bit : Bit) → kept_source vectors bit ≡ first_given (source_in bit) vs
  pub fresh : (number index : ℕ) → length vectors.bases.keys ≤ number → kept_at vectors.runs.starts number index ≡ None

-- these are the sources of the nets, or the fault of the first input without one
abbrev pub AreInputs : Inputs → Result (List (Option Source)) StimFault → Type 0
AreInputs (Found sources) reading = reading ≡ Ok (sources_by sources.items)
AreInputs (Lacking e) reading = reading ≡ Err e

-- the text before an index of 0 of 0, where it ends with one
abbrev pub without_index : List ℕ → Option (List ℕ)
without_index text = if ends_with nat_eq text (codes "[0:0]") then Some (take (length text - 5) text) else None

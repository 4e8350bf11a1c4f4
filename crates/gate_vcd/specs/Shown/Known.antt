-- What a reader of changes keeps of the codes of a text.
use Rattle.std.specs.Prelude.{ℕ, Bool, false, List, map, Option, option_map}
use Rattle.std.specs.Option.{option_map_or}
use Rattle.std.specs.List.{list_any}
use Rattle.std.specs.Str.{bytes_eq}
use Rattle.gate_vcd.specs.declared.source.Source.{Source as Held}
use Rattle.gate_vcd.specs.Changes.{Source}

-- a source, without where it lies in memory
abbrev pub source : Held → Source
source s = record { code = s.code.now; place = s.place }

abbrev pub source_by : Option Held → Option Source
source_by s = option_map source s

abbrev pub is_of : List ℕ → Source → Bool
is_of code s = bytes_eq s.code code

-- some net takes its values from the code
abbrev pub is_used : List (Option Source) → List ℕ → Bool
is_used nets code = list_any (λ taken. option_map_or (is_of code) taken false) nets

-- sources, without where they lie in memory
abbrev pub sources_by : List (Option Held) → List (Option Source)
sources_by nets = map source_by nets

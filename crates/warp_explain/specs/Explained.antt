-- What is told of a fault.
use Rattle.std.specs.Prelude.{◌≡◌, ℕ, List, [], Option, None, Some, ◌⊎◌}
use Rattle.gate_vcd.specs.declared.fault.StimFault.{StimFault}
use Rattle.gate_vcd.specs.declared.fault.StimCause.{StimCause}
use Rattle.gate_vcd.specs.declared.fault.StimCause.TheVariants as causes
use Rattle.text_places.specs.declared.told.Source.{Source}
use Rattle.vcd_compare.specs.declared.fault.CompareFault.{CompareFault}
use Rattle.vcd_compare.specs.declared.fault.CompareFault.TheVariants as compares
use Rattle.dump_findings.specs.declared.compared.Compared.{Compared}
use Rattle.text_places.specs.Places.{IsInLine}
use Rattle.text_places.specs.Told.{IsTold}

-- a sentence on an offset of a text
pub record IsToldAt (source : Source) (at : ℕ) (told : List ℕ) : Type 0 where
  pub length : ℕ
  pub cause : List ℕ
  pub help : List ℕ
  pub is : IsTold source.name.now source.text.now source.lines_before at length cause help told

-- on some offset
abbrev pub IsToldOf : Source → List ℕ → Type 0
IsToldOf source told = (at : ℕ) × IsToldAt source at told

-- on an offset in the line of this number
abbrev pub IsToldInLine : Source → ℕ → List ℕ → Type 0
IsToldInLine source line told = (at : ℕ) × (IsInLine source.text.now line at × IsToldAt source at told)

-- on the fault's offset; where an input isn't given, somewhere in the stimulus, or in the bench that has it
abbrev pub is_explained : StimCause → ℕ → (bench stimulus : Source) → List ℕ → Type 0
is_explained causes.MissingInput at bench stimulus told = IsToldOf stimulus told ⊎ IsToldOf bench told
is_explained causes.NotScalar at bench stimulus told = IsToldOf stimulus told ⊎ IsToldOf bench told
is_explained _ at bench stimulus told = IsToldAt stimulus at told

abbrev pub IsStimulusExplained : (bench stimulus : Source) → StimFault → List ℕ → Type 0
IsStimulusExplained bench stimulus fault told = is_explained fault.cause fault.at bench stimulus told

-- on some offset of a map, if there is one
abbrev pub IsToldOfMap : Option Source → List ℕ → Type 0
IsToldOfMap None told = ⊥
IsToldOfMap (Some map) told = IsToldOf map told

-- of one of the texts of a comparison
abbrev pub IsToldOfOne : Compared → List ℕ → Type 0
IsToldOfOne texts told = IsToldOf texts.expected told ⊎ (IsToldOf texts.actual told ⊎ IsToldOfMap texts.map told)

-- on an offset in the line of this number of a map; nothing where there is no map
abbrev pub IsMapExplained : Option Source → ℕ → List ℕ → Type 0
IsMapExplained None line told = told ≡ []
IsMapExplained (Some map) line told = IsToldInLine map line told

-- on the fault's offset of the dump that is refused, or in the fault's line of the map
abbrev pub IsComparisonExplained : Compared → CompareFault → List ℕ → Type 0
IsComparisonExplained texts (compares.Expected fault) told = IsToldAt texts.expected fault.at told
IsComparisonExplained texts (compares.Actual fault) told = IsToldAt texts.actual fault.at told
IsComparisonExplained texts (compares.Map fault) told = IsMapExplained texts.map fault.line told
IsComparisonExplained texts compares.Nothing told = IsToldOfOne texts told
IsComparisonExplained texts compares.Memory told = told ≡ []

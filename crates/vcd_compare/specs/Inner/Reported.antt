-- What is reported once the changes are read.
use Rattle.std.specs.Prelude.{◌≡◌, ◌⊎◌, ℕ, ◌<◌, List, [], length, Result, Ok, Err}
use Rattle.gate_vcd.specs.declared.fault.StimFault.{StimFault}
use Rattle.gate_stimulus.specs.declared.timescale.Timescale.{Timescale}
use Rattle.gate_vcd.specs.Changes.{Event, events_from, items, nothing}
use Rattle.gate_stimulus.specs.Given.{Given}
use Rattle.gate_vcd.specs.Shown.Commands.{variables}
use Rattle.gate_vcd.specs.Reading.{Fails}
use Rattle.gate_vcd.specs.Stimulus.{has_code}
use Rattle.bit_compare.specs.Agreement.{IsCompared}
use Rattle.vcd_bits.specs.declared.dump.Dump.{Dump as HeldDump}
use Rattle.vcd_bits.specs.Names.{Bit}
use Rattle.vcd_compare.specs.declared.fault.CompareFault.{CompareFault}
use Rattle.vcd_compare.specs.declared.fault.CompareFault.TheVariants as faults
use Rattle.vcd_compare.specs.declared.report.Report.{Report}
use Rattle.vcd_compare.specs.declared.sight.Sight.{Sight}
use Rattle.vcd_compare.specs.Inner.Answer.{actual_by, expected_by}
use Rattle.vcd_compare.specs.Comparison.{out_of_memory}
use Rattle.vcd_compare.specs.Pairs.{alone}
use Rattle.vcd_compare.specs.Inner.Found.{AreFoundUpTo, IsFoundBy}

-- the changes of a dump whose declarations are read
abbrev pub events_of : HeldDump → Result (List Event) StimFault
events_of d = events_from (has_code (variables d.variables.items)) 0 (items nothing d.words)

-- a fault of the other dump, or that of the changes that come before it
abbrev pub IsBehind : Result (List Event) StimFault → StimFault → CompareFault → Type 0
IsBehind reading fault answer = ((es : List Event) × (reading ≡ Ok es) × (answer ≡ actual_by fault fault.cause)) ⊎ ((own : StimFault) × Fails own reading × (answer ≡ expected_by own own.cause))

-- the same where the changes of the first dump are read
abbrev pub IsBeforeOther : Result (List Event) StimFault → CompareFault → CompareFault → Type 0
IsBeforeOther actual fault answer =
    ((own : StimFault) × Fails own actual × (answer ≡ actual_by own own.cause)) ⊎ ((es : List Event) × (actual ≡ Ok es) × (answer ≡ fault))

-- a fault of the map, or that of the changes of either dump, which come before it
abbrev pub IsBefore : (expected actual : Result (List Event) StimFault) → CompareFault → CompareFault → Type 0
IsBefore expected actual fault answer =
    ((own : StimFault) × Fails own expected × (answer ≡ expected_by own own.cause))
    ⊎ ((es : List Event) × (expected ≡ Ok es) × (IsBeforeOther actual fault answer))

-- no pair, or no time
abbrev pub HasNothing : Sight → List ℕ → Type 0
HasNothing s numbers = (numbers ≡ []) ⊎ ((t : ℕ) → ¬ IsCompared s.times t)

pub record IsReported (s : Sight) (unit : Timescale) (bits others : List Bit) (numbers : List ℕ) (e a : Given) (r : Report) : Type 0 where
  pub pairs : r.pairs ≡ length numbers
  pub some : 0 < length numbers
  pub times : r.times ≡ s.times
  pub unit_is : r.unit ≡ unit
  pub only_expected : r.only_expected ≡ alone bits others
  pub only_actual : r.only_actual ≡ alone others bits
  pub found : AreFoundUpTo (IsFoundBy s e a) bits numbers (length numbers) r.differing.items

abbrev pub Reports : Sight → Timescale → List Bit → List Bit → List ℕ → Given → Given → Result Report CompareFault → Type 0
Reports s unit bits others numbers e a (Ok r) = IsReported s unit bits others numbers e a r
Reports s unit bits others numbers e a (Err f) = (f ≡ out_of_memory) ⊎ ((f ≡ faults.Nothing) × HasNothing s numbers)

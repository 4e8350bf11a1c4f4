-- What two dumps are answered when they are compared.
use Rattle.std.specs.Prelude.{◌≡◌, ℕ, ◌<◌, nat_eq, if◌then◌else◌, List, [], ◌∷◌, slice_get, length, Option, Some, None, option_map}
use Rattle.std.specs.List.{AllByRecursion}
use Rattle.gate_values.specs.declared.logic.Logic.{Logic}
use Rattle.gate_stimulus.specs.declared.timescale.Timescale.{Timescale}
use Rattle.gate_vcd.specs.Changes.{Event, Source, changes_with}
use Rattle.bit_compare.specs.declared.difference.Difference.{Difference}
use Rattle.bit_compare.specs.Bits.{Lens, value_through}
use Rattle.bit_compare.specs.Agreement.{IsFinding}
use Rattle.vcd_compare.specs.Dumps.{Dump}
use Rattle.vcd_compare.specs.declared.fault.CompareFault.{CompareFault}
use Rattle.vcd_compare.specs.declared.fault.CompareFault.TheVariants as faults
use Rattle.vcd_compare.specs.declared.report.Differing.{Differing}
use Rattle.vcd_compare.specs.declared.report.Options.{Options}
use Rattle.vcd_compare.specs.Pairs.{Pair}
use Rattle.vcd_compare.specs.Times.{actual_lens, expected_lens, finer, how_of, times_of, units_in}

abbrev pub out_of_memory : CompareFault
out_of_memory = faults.Memory

-- the value that a source shows through a lens
abbrev pub shown_by : Lens → List Event → Source → ℕ → Logic
shown_by lens events source = value_through lens (changes_with source events)

-- what is compared: two dumps
module _ (options : Options) (e a : Dump) where
  abbrev pub unit : Timescale
  unit = finer e.timescale a.timescale

  abbrev pub scale : ℕ
  scale = units_in e.timescale unit

  -- what is found of a pair
  abbrev pub IsFound : Pair → Option Difference → Type 0
  IsFound p = IsFinding (how_of options scale) (times_of options scale e.last) (shown_by (expected_lens scale) e.events p.expected) (shown_by (actual_lens options scale (units_in a.timescale unit)) a.events p.actual)

-- the one of a pair's number among bits that differ
abbrev pub differing_at : List Differing → ℕ → Option Differing
differing_at [] k = None
differing_at (d ∷ ds) k = if nat_eq d.pair k then Some d else differing_at ds k

abbrev pub difference_of : List Differing → ℕ → Option Difference
difference_of ds k = option_map (λ (d : Differing). d.difference) (differing_at ds k)

-- in the order of pairs, each once
abbrev pub AreAscending : List Differing → Type 0
AreAscending [] = Unit {0}
AreAscending (d ∷ ds) = AllByRecursion (λ (x : Differing). d.pair < x.pair) ds × AreAscending ds

-- of these pairs these bits differ, in their order and with their names, and no others
pub record AreDiffering (options : Options) (pairs : List Pair) (e a : Dump) (ds : List Differing) : Type 0 where
  pub each : (k : ℕ) (p : Pair) → slice_get pairs k ≡ Some p → IsFound options e a p (difference_of ds k)
  pub within : AllByRecursion (λ (d : Differing). d.pair < length pairs) ds
  pub ascending : AreAscending ds
  pub named : (k : ℕ) (p : Pair) (d : Differing) → slice_get pairs k ≡ Some p → differing_at ds k ≡ Some d → d.name.items ≡ p.name

-- What two texts are answered when they are compared, by a map if there is one.
use Rattle.std.specs.Prelude.{◌≡◌, ◌⊎◌, ℕ, ◌<◌, List, [], length, Option, Result, Ok, Err}
use Rattle.bit_compare.specs.Agreement.{IsCompared}
use Rattle.vcd_compare.specs.declared.fault.CompareFault.{CompareFault}
use Rattle.vcd_compare.specs.declared.fault.CompareFault.TheVariants as faults
use Rattle.vcd_compare.specs.declared.report.Options.{Options}
use Rattle.vcd_compare.specs.declared.report.Report.{Report}
use Rattle.vcd_compare.specs.Comparison.{AreDiffering, scale, unit}
use Rattle.vcd_compare.specs.Dumps.{Dump, dump_of}
use Rattle.vcd_compare.specs.Map.{pairs_by}
use Rattle.vcd_compare.specs.Pairs.{Pair, alone}
use Rattle.vcd_compare.specs.Times.{asked_in, times_of}

-- the report of two dumps, of whose bits these pairs are compared
pub record IsReport (options : Options) (pairs : List Pair) (e a : Dump) (r : Report) : Type 0 where
  pub count : r.pairs ≡ length pairs
  pub some : 0 < r.pairs
  pub times : r.times ≡ times_of options (scale options e a) e.last
  pub unit : r.unit ≡ unit options e a
  pub only_expected : r.only_expected ≡ alone e.bits a.bits
  pub only_actual : r.only_actual ≡ alone a.bits e.bits
  pub differing : AreDiffering options pairs e a r.differing.items

-- there is no pair, or no time, to compare
abbrev pub IsNothing : Options → List Pair → Dump → Dump → Type 0
IsNothing options pairs e a = (pairs ≡ []) ⊎ ((t : ℕ) → ¬ IsCompared (times_of options (scale options e a) e.last) t)

-- something is so of the dumps that two texts are
abbrev pub OfDumps : Options → (expected actual : List ℕ) → (Dump → Dump → Type 0) → Type 0
OfDumps options expected actual P =
    (e : Dump) × (a : Dump) × (dump_of (asked_in options.expected_scope) expected ≡ Ok e) × (dump_of (asked_in options.actual_scope) actual ≡ Ok a) × P e a

-- something is so of the pairs of their bits too
abbrev pub OfPairs : Options → (expected actual : List ℕ) → Option (List ℕ) → (List Pair → Dump → Dump → Type 0) → Type 0
OfPairs options expected actual map P = OfDumps options expected actual (λ e a. (pairs : List Pair) × (pairs_by map e.bits a.bits ≡ Ok pairs) × P pairs e a)

-- The report of the dumps that the texts are, whose bits are paired by their names or as a map says; else the first fault
-- of the first text, else that of the other one, else that of the map, and then that there is nothing to compare. Want of
-- memory alone is no matter of the texts.
abbrev pub IsAnswer : Options → (expected actual : List ℕ) → Option (List ℕ) → Result Report CompareFault → Type 0
IsAnswer options expected actual map (Ok r) = OfPairs options expected actual map (λ pairs e a. IsReport options pairs e a r)
IsAnswer options expected actual map (Err (faults.Expected fault)) = dump_of (asked_in options.expected_scope) expected ≡ Err fault
IsAnswer options expected actual map (Err (faults.Actual fault)) = (e : Dump) × (dump_of (asked_in options.expected_scope) expected ≡ Ok e) × (dump_of (asked_in options.actual_scope) actual ≡ Err fault)
IsAnswer options expected actual map (Err (faults.Map fault)) = OfDumps options expected actual (λ e a. pairs_by map e.bits a.bits ≡ Err fault)
IsAnswer options expected actual map (Err faults.Nothing) = OfPairs options expected actual map (λ pairs e a. IsNothing options pairs e a)
IsAnswer options expected actual map (Err faults.Memory) = Unit {0}

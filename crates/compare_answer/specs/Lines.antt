-- The lines of a comparison's answer.
use Rattle.std.specs.Prelude.{ℕ, ◌==◌, ◌&&◌, if◌then◌else◌, List, [], ◌∷◌, ◌++◌, flat_map, codes, decimal, length}
use Rattle.vcd_dumps.specs.Dump.{letter}
use Rattle.gate_stimulus.specs.Timescales.{unit_name}
use Rattle.gate_stimulus.specs.declared.timescale.Timescale.{Timescale}
use Rattle.vcd_compare.specs.declared.report.Differing.{Differing}
use Rattle.vcd_compare.specs.declared.report.Report.{Report}
use Rattle.compare_answer.specs.Listing.{at_most}

-- the line of a bit that differs: when it first does, its name, and both values
abbrev pub differing_line : Differing → List ℕ
differing_line d =
    decimal d.difference.time ++ codes " " ++ d.name.items ++ codes ": expected " ++ letter d.difference.expected ∷ []
    ++ codes ", found " ++ letter d.difference.found ∷ [] ++ codes "\n"

abbrev pub differing_lines : List Differing → List ℕ
differing_lines shown = flat_map differing_line shown

-- how many bits agree, or how many of them differ
unfoldable pub verdict : (differing pairs : ℕ) → List ℕ
verdict differing pairs =
    if differing == 0 then decimal pairs ++ codes " bits agree"
    else decimal differing ++ codes " of " ++ decimal pairs ++ codes " bits differ"

-- the compared times, and their unit as a dump writes it
unfoldable pub span : (from to : ℕ) → Timescale → List ℕ
span from to unit =
    codes " from " ++ decimal from ++ codes " to " ++ decimal to ++ codes " (" ++ decimal unit.number ++ codes " " ++ unit_name unit.unit ++ codes ")"

-- the dump that alone has so many bits
unfoldable pub in_expected : List ℕ
in_expected = codes " only in EXPECTED, "

unfoldable pub in_actual : List ℕ
in_actual = codes " only in ACTUAL"

-- how many bits one dump alone has
abbrev pub alone_counts : (expected actual : ℕ) → List ℕ
alone_counts expected actual = codes "; " ++ decimal expected ++ in_expected ++ decimal actual ++ in_actual

-- the same where there are such bits
unfoldable pub lonely : (expected actual : ℕ) → List ℕ
lonely expected actual = if expected == 0 && actual == 0 then [] else alone_counts expected actual

-- the last line
abbrev pub last_line : Report → List ℕ
last_line r =
    verdict (length r.differing.items) r.pairs ++ span r.times.from r.times.to r.unit ++ lonely r.only_expected r.only_actual ++ codes "\n"

-- the whole text, where the bits that differ stand in this order and so many of them are listed
abbrev pub report_text : ℕ → Report → List Differing → List ℕ
report_text most r shown = differing_lines (at_most most shown) ++ last_line r

-- The text of a dump in which some nets alone are told.
use Rattle.std.specs.Prelude.{ℕ, zero, suc, Bool, false, if◌then◌else◌, List, [], ◌++◌, length, get_or, codes}
use Rattle.gate_values.specs.declared.logic.Logic.{Logic}
use Rattle.gate_values.specs.declared.logic.Logic.TheVariants.{X}
use Rattle.gate_stimulus.specs.declared.timescale.Timescale.{Timescale}
use Rattle.vcd_dumps.specs.Dump.{timescale_line, scope_line, var_line, value_line, moments}

-- `told` says of each net whether it is told; of a net that it doesn't speak of it isn't
abbrev pub is_told : List Bool → ℕ → Bool
is_told told n = get_or told n false

-- what is written of a net: its line, where it is told
abbrev pub if_told : List Bool → ℕ → List ℕ → List ℕ
if_told told n line = if is_told told n then line else []

-- the codes and names of the nets below n that are told
unfoldable pub told_vars : List Bool → List (List ℕ) → ℕ → List ℕ
told_vars told names zero = []
told_vars told names (suc n) = told_vars told names n ++ if_told told n (var_line n (get_or names n []))

-- the lines above the first value
unfoldable pub told_header : List Bool → List ℕ → List (List ℕ) → Timescale → List ℕ
told_header told top names scale =
    timescale_line scale ++ (scope_line top ++ (told_vars told names (length names) ++ codes "$upscope $end\n$enddefinitions $end\n#0\n$dumpvars\n"))

-- the values at 0 of the nets below n that are told
unfoldable pub told_first : List Bool → (ℕ → ℕ → Logic) → ℕ → List ℕ
told_first told value zero = []
told_first told value (suc n) = told_first told value n ++ if_told told n (value_line (value n 0) n)

-- the values of nets as if those that aren't told never changed
abbrev pub hidden : List Bool → (ℕ → ℕ → Logic) → ℕ → ℕ → Logic
hidden told value n t = if is_told told n then value n t else X

-- The text: of the whole dump (`dump_text`) the lines that aren't of a net, the lines of the nets that are told, and the
-- moments at which one of these changes, with that of the horizon.
unfoldable pub told_text : List Bool → List ℕ → List (List ℕ) → Timescale → (ℕ → ℕ → Logic) → ℕ → List ℕ
told_text told top names scale value horizon =
    told_header told top names scale ++ (told_first told value (length names) ++ (codes "$end\n" ++ moments (hidden told value) (length names) horizon horizon))

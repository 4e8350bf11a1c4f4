-- The text of a dump: of the value of each net at each time, by recursion on the time and on the net.
use Rattle.std.specs.Prelude.{ℕ, zero, suc, ◌==◌, Bool, false, ◌||◌, not, if◌then◌else◌, List, [], ◌∷◌, ◌++◌, length, get_or, codes, decimal}
use Rattle.gate_values.specs.declared.logic.Logic.{Logic}
use Rattle.gate_values.specs.declared.logic.Logic.TheVariants.{Zero, One, X, Z}
use Rattle.gate_values.specs.Changes.{same, just_before}
use Rattle.gate_stimulus.specs.declared.timescale.Timescale.{Timescale}
use Rattle.gate_stimulus.specs.Timescales.{unit_name}
use Rattle.vcd_dumps.specs.Codes.{code_of}
use Rattle.gate_stimulus.specs.Given.{Given}
use Rattle.gate_netlist.specs.Circuit.{Design}

-- the letter of a value: 0, 1, x or z
abbrev pub letter : Logic → ℕ
letter Zero = 48
letter One = 49
letter X = 120
letter Z = 122

-- the line of a time
abbrev pub stamp : ℕ → List ℕ
stamp t = codes "#" ++ (decimal t ++ codes "\n")

-- the line of a net's value
abbrev pub value_line : Logic → ℕ → List ℕ
value_line v n = letter v ∷ (code_of n ++ codes "\n")

-- the line of the timescale
abbrev pub timescale_line : Timescale → List ℕ
timescale_line scale = codes "$timescale " ++ (decimal scale.number ++ (codes " " ++ (unit_name scale.unit ++ codes " $end\n")))

-- the line of the scope that holds all nets
abbrev pub scope_line : List ℕ → List ℕ
scope_line top = codes "$scope module " ++ (top ++ codes " $end\n")

-- the line of a net's code and name
abbrev pub var_line : ℕ → List ℕ → List ℕ
var_line n name = codes "$var wire 1 " ++ (code_of n ++ (codes " " ++ (name ++ codes " $end\n")))

-- the lines of the nets below n
unfoldable pub var_lines : List (List ℕ) → ℕ → List ℕ
var_lines names zero = []
var_lines names (suc n) = var_lines names n ++ var_line n (get_or names n [])

-- the lines above the first value
unfoldable pub header : List ℕ → List (List ℕ) → Timescale → List ℕ
header top names scale =
    timescale_line scale ++ (scope_line top ++ (var_lines names (length names) ++ codes "$upscope $end\n$enddefinitions $end\n#0\n$dumpvars\n"))

-- `value n t` is the value of net n at time t
module _ (value : ℕ → ℕ → Logic) where
  -- the values at 0 of the nets below n
  unfoldable pub first_lines : ℕ → List ℕ
  first_lines zero = []
  first_lines (suc n) = first_lines n ++ value_line (value n 0) n

  -- net n has another value at t than just before
  abbrev pub has_change : ℕ → ℕ → Bool
  has_change t n = not (same (value n t) (just_before (value n) t))

  -- some net below n changes at t
  unfoldable pub some_change : ℕ → ℕ → Bool
  some_change t zero = false
  some_change t (suc n) = some_change t n || has_change t n

  -- the lines of the nets below n that change at t
  unfoldable pub change_lines : ℕ → ℕ → List ℕ
  change_lines t zero = []
  change_lines t (suc n) = change_lines t n ++ (if has_change t n then value_line (value n t) n else [])

  -- what is written for a time: nothing, where no net changes and it isn't the horizon
  unfoldable pub moment : ℕ → ℕ → ℕ → List ℕ
  moment nets horizon t = if some_change t nets || (t == horizon) then stamp t ++ change_lines t nets else []

  -- the times from 1 to t
  unfoldable pub moments : ℕ → ℕ → ℕ → List ℕ
  moments nets horizon zero = []
  moments nets horizon (suc t) = moments nets horizon t ++ moment nets horizon (suc t)

-- the whole text: of a scope, the names of its nets, a timescale, and the values up to the horizon
unfoldable pub dump_text : List ℕ → List (List ℕ) → Timescale → (ℕ → ℕ → Logic) → ℕ → List ℕ
dump_text top names scale value horizon =
    header top names scale ++ (first_lines value (length names) ++ (codes "$end\n" ++ moments value (length names) horizon horizon))

-- the dump of a circuit: its nets' names, the stimulus's timescale, and values
abbrev pub vcd_text : List ℕ → Design → Given → (ℕ → ℕ → Logic) → ℕ → List ℕ
vcd_text top design given value horizon = dump_text top design.names given.timescale value horizon

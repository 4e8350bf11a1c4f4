-- Dumps that were worked out by hand.
use Rattle.std.proofs.Common.{◌≡◌, ℕ, [], ◌∷◌, ◌++◌, refl}
use Rattle.std.specs.Prelude.{codes}
use Rattle.std.specs.Fmt.{digits}
use Rattle.gate_values.specs.declared.logic.Logic.{Logic}
use Rattle.gate_values.specs.declared.logic.Logic.TheVariants.{Zero, One}
use Rattle.gate_values.specs.declared.logic.Change.{Change}
use Rattle.gate_values.specs.Changes.{latest}
use Rattle.gate_stimulus.specs.Timescales.{default_timescale}
use Rattle.vcd_dumps.specs.Codes.{code_of}
use Rattle.net_waves.specs.Waves.{wave_value}
use Rattle.vcd_dumps.specs.Dump.{dump_text, header, var_lines, first_lines, some_change, change_lines, moment, moments}

at : ℕ → Logic → Change
at t v = record { time = t; value = v }

-- an input A, and Y = NOT(A)
inverter : ℕ → ℕ → Logic
unfolding at
inverter = wave_value ((at 0 Zero ∷ at 5 One ∷ []) ∷ (at 1 One ∷ at 6 Zero ∷ []) ∷ [])

inverter_dump : dump_text (codes "top") (codes "A" ∷ codes "Y" ∷ []) default_timescale inverter 10
    ≡ codes "$timescale 1 ns $end\n$scope module top $end\n$var wire 1 ! A $end\n$var wire 1 \" Y $end\n$upscope $end\n$enddefinitions $end\n#0\n$dumpvars\n0!\nx\"\n$end\n#1\n1\"\n#5\n1!\n#6\n0\"\n#10\n"
unfolding dump_text header var_lines first_lines some_change change_lines moment moments inverter at latest digits code_of
inverter_dump = refl

-- no net, until 0 and until 3
empty_dump : dump_text (codes "top") [] default_timescale inverter 0 ≡ codes "$timescale 1 ns $end\n$scope module top $end\n$upscope $end\n$enddefinitions $end\n#0\n$dumpvars\n$end\n"
unfolding dump_text header var_lines first_lines some_change change_lines moment moments inverter at latest digits code_of
empty_dump = refl

empty_dump_later : dump_text (codes "top") [] default_timescale inverter 3 ≡ codes "$timescale 1 ns $end\n$scope module top $end\n$upscope $end\n$enddefinitions $end\n#0\n$dumpvars\n$end\n#3\n"
unfolding dump_text header var_lines first_lines some_change change_lines moment moments inverter at latest digits code_of
empty_dump_later = refl

-- the codes of nets 0, 93, 94, 95 and 999,999
some_codes : (code_of 0 ++ code_of 93) ++ (code_of 94 ++ (code_of 95 ++ code_of 999999)) ≡ codes "!~!!\"!<03!"
unfolding code_of
some_codes = refl

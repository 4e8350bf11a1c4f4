-- The part of a dump after time 0, told by a list of changes in the order of time and net.
use Rattle.std.specs.Prelude.{ℕ, ◌==◌, if◌then◌else◌, List, [], ◌∷◌, ◌++◌}
use Rattle.gate_values.specs.declared.logic.Logic.{Logic}
use Rattle.vcd_dumps.specs.Dump.{stamp, value_line}
use Rattle.net_waves.specs.declared.timeline.Stop.{Stop}

-- What a change adds after one at the time `last`: nothing at time 0, whose values stand above; else its
-- line, behind the line of its time where that is a new one.
abbrev pub stop_lines : ℕ → ℕ → ℕ → Logic → List ℕ
stop_lines last t n v = if t == 0 then [] else if t == last then value_line v n else stamp t ++ value_line v n

-- what changes add, one after another
abbrev pub walked : ℕ → List Stop → List ℕ
walked last [] = []
walked last (s ∷ ss) = stop_lines last s.time s.net s.value ++ walked s.time ss

-- the time of the last change
abbrev pub last_stop : ℕ → List Stop → ℕ
last_stop last [] = last
last_stop last (s ∷ ss) = last_stop s.time ss

use Rattle.std.proofs.Common.{◌≡◌, ◌<◌, ℕ, map, take, length, get_or}
use Rattle.gate_values.specs.declared.logic.Logic.TheVariants.{X}
use Rattle.net_waves.specs.First.{first_from}
use Rattle.net_waves.specs.Timeline.{stop_by}
use Rattle.vcd_dumps.proofs.writer.take_firsts.Given as goal

-- the values by the moves so far
abbrev pub invariant-loop-one : goal.invariant-loop-one
invariant-loop-one l = (length l.firsts ≡ length l.fn.firsts) × ((n : ℕ) → n < length l.fn.firsts → get_or l.firsts n X ≡ first_from (get_or l.fn.firsts n X) (map (stop_by 0) (take l.one-index l.moves)) n)

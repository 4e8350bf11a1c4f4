use Rattle.std.proofs.Common.{◌≡◌, ◌<◌, ℕ, take, length, get_or}
use Rattle.gate_values.specs.declared.logic.Logic.TheVariants.{X}
use Rattle.net_waves.specs.First.{first_from}
use Rattle.net_waves.proofs.first.take_all.Given as goal

-- the values by the stops so far
abbrev pub invariant-loop-stop : goal.invariant-loop-stop
invariant-loop-stop l = (length l.values ≡ length l.initial.values) × ((n : ℕ) → n < length l.initial.values → get_or l.values n X ≡ first_from (get_or l.initial.values n X) (take l.stop-index l.stops) n)

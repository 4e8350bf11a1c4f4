use Rattle.std.proofs.Common.{◌≡◌, ◌<◌, ℕ, map, take, length, get_or}
use Rattle.gate_values.specs.declared.logic.Logic.TheVariants.{X}
use Rattle.net_waves.specs.Keys.{stops_of_keys}
use Rattle.net_waves.specs.First.{first_from}
use Rattle.net_waves.proofs.first.take_keys.Given as goal

-- the values by the keys so far
abbrev pub invariant-loop-key : goal.invariant-loop-key
invariant-loop-key l = (length l.values ≡ length l.initial.values) × ((n : ℕ) → n < length l.initial.values → get_or l.values n X ≡ first_from (get_or l.initial.values n X) (stops_of_keys (take l.key-index l.keys)) n)

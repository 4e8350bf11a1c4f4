use Rattle.std.proofs.Common.{◌≡◌, ℕ, ◌<◌, None, is_some, get_or}
use Rattle.gate_netlist.specs.Circuit.{driver_of, is_input}
use Rattle.gate_stimulus.proofs.stimulus.fit.Given as goal

-- of the nets so far just the inputs have a list
abbrev pub invariant-loop-net : goal.invariant-loop-net
invariant-loop-net l = (k : ℕ) → k < l.net → is_some (get_or l.list_of k None) ≡ is_input (driver_of l.circuit k)

use Rattle.std.proofs.Common.{◌≡◌, ℕ, ◌<◌, not, is_some}
use Rattle.gate_netlist.specs.Cut.{owner_of}
use Rattle.gate_netlist.specs.Circuit.{driver_of, is_input}
use Rattle.gate_netlist.proofs.cut.Cut.fits.Given as goal

abbrev pub invariant-loop-net : goal.invariant-loop-net
invariant-loop-net l = (n : ℕ) → n < l.net → is_some (owner_of l.self n) ≡ not (is_input (driver_of l.circuit n))

use Rattle.std.proofs.Common.{◌≡◌, ◌+◌, drop}
use Rattle.gate_netlist.specs.Inner.Keys.{names_in}
use Rattle.gate_netlist.specs.Inner.Stored.{statements_in}
use Rattle.gate_netlist.specs.Bench.{resolved}
use Rattle.gate_netlist.proofs.Resolving.{linked_lines}
use Rattle.gate_netlist.proofs.reading.resolved.Given as goal

abbrev pub invariant-loop-place : goal.invariant-loop-place
invariant-loop-place l = linked_lines (names_in l.fn.names) (l.place + 1) (drop l.place (statements_in l.statements)) l.definitions.items l.marked.items ≡ resolved (statements_in l.statements)

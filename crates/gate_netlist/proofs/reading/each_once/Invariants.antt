use Rattle.std.proofs.Common.{◌≡◌, take}
use Rattle.gate_netlist.specs.Bench.{each_once}
use Rattle.gate_netlist.proofs.reading.each_once.Given as goal

abbrev pub invariant-loop-number : goal.invariant-loop-number
invariant-loop-number l = l.found.keys ≡ each_once (take l.number-index l.numbers)

use Rattle.std.proofs.Common.{◌≡◌, ◌++◌}
use Rattle.vcd_only.specs.Told.{told_vars}
use Rattle.vcd_only.proofs.text.push_vars.Given as goal

-- the nets so far
abbrev pub invariant-loop-net : goal.invariant-loop-net
invariant-loop-net l = l.text.items ≡ l.initial.text.items ++ told_vars l.told l.circuit.names l.net

use Rattle.std.proofs.Common.{◌≡◌, drop}
use Rattle.gate_vcd.specs.Shown.Commands.{variables}
use Rattle.vcd_bits.specs.Names.{first_scope}
use Rattle.vcd_bits.specs.Shown.Held.{texts_in}
use Rattle.vcd_bits.proofs.dump.first_scope.Given as goal

-- the variables so far have no bits
abbrev pub invariant-loop-at : goal.invariant-loop-at
invariant-loop-at l = first_scope (texts_in l.paths) (variables l.variables) ≡ first_scope (drop l.at (texts_in l.paths)) (drop l.at (variables l.variables))

use Rattle.std.proofs.Common.{◌≡◌, ◌++◌, ◌-◌, length, drop, option_map}
use Rattle.gate_netlist.specs.Statements.{named}
use Rattle.gate_netlist.specs.Inner.Meant.{names_meant}
use Rattle.gate_netlist.specs.Inner.Tokens.{symbols_of}
use Rattle.gate_netlist.proofs.statement.named.Given as goal

abbrev pub invariant-loop-at : goal.invariant-loop-at
invariant-loop-at l = option_map (λ ns. names_meant l.names.items ++ ns) (named (symbols_of (drop l.at l.tokens))) ≡ named (symbols_of l.tokens)

abbrev pub decreases-loop-at : goal.decreases-loop-at
decreases-loop-at l = length l.tokens - l.at

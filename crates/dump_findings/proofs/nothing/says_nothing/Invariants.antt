use Rattle.std.proofs.Common.{◌≡◌}
use Rattle.std.specs.List.{list_all}
use Rattle.gate_netlist.specs.Passes.{lines_after}
use Rattle.gate_netlist.proofs.Accepting.{text_left}
use Rattle.dump_findings.specs.EmptyMap.{is_silent, says_nothing}
use Rattle.dump_findings.proofs.nothing.says_nothing.Given as goal

abbrev pub invariant-loop-rest : goal.invariant-loop-rest
invariant-loop-rest l = says_nothing l.map ≡ list_all is_silent (lines_after l.rest)

abbrev pub decreases-loop-rest : goal.decreases-loop-rest
decreases-loop-rest l = text_left l.rest

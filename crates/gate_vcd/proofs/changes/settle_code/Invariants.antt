use Rattle.gate_vcd.specs.Inner.Known.{sources_in}
use Rattle.gate_vcd.proofs.Links.{rank}
use Rattle.gate_vcd.proofs.SettleLaws.{IsSettling}
use Rattle.gate_vcd.proofs.changes.settle_code.Given as goal

-- the lists of the sources behind the next one are settled
abbrev pub invariant-loop-next : goal.invariant-loop-next
invariant-loop-next l = IsSettling (sources_in l.codes) l.now l.code l.had l.digits l.initial.lists l.lists l.next

abbrev pub decreases-loop-next : goal.decreases-loop-next
decreases-loop-next l = rank l.next

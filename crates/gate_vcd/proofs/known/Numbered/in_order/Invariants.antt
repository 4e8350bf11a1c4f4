use Rattle.std.specs.List.{list_any}
use Rattle.std.specs.Str.{bytes_eq}
use Rattle.gate_vcd.specs.Shown.Commands.{variables}
use Rattle.gate_vcd.specs.Shown.Known.{sources_by}
use Rattle.gate_vcd.proofs.KnownLaws.{AreVisited}
use Rattle.gate_vcd.proofs.known.Numbered.in_order.Given as goal

-- the nets of the order so far have been visited
abbrev pub invariant-loop-net : goal.invariant-loop-net
invariant-loop-net l = AreVisited (λ code. list_any (λ v. bytes_eq code v.code) (variables l.all)) (sources_by l.nets) l.order l.net-index l.codes l.numbers.items

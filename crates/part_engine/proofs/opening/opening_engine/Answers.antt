use Rattle.std.proofs.Common.{List, map, length, sym, subst}
use Rattle.std.specs.List.{All}
use Rattle.gate_values.specs.Behaviour.{initial_of}
use Rattle.warp_gates.specs.Cells.{Cell, IsCell}
use Rattle.warp_engine.specs.Opening.{IsOpened}
use Rattle.warp_part.specs.Portion.{Portion}
use Rattle.warp_part.specs.Placing.{place_cells}
use Rattle.part_engine.proofs.Sources.{cells_fit}
use Rattle.part_engine.proofs.Opened.{opens}
use Rattle.part_engine.proofs.opening.opening_engine.Goals as goal

pub new-requires-clause-cells : goal.new-requires-clause-cells
new-requires-clause-cells c = subst (λ (cs : List Cell). All (IsCell (length cs)) cs) (sym c.in_ok-wiring.ensures) (cells_fit c.args.part.now c.law.ensures)

pub returns : goal.returns
returns c =
    let p : Portion = c.args.part.now in
    let opened : IsOpened (place_cells p) c.in_ok-queued.queued.numbers.items c.in_ok-queued.queued.read.items c.in_ok-queued.queued.unread.items (map initial_of p.sources) c.args.horizon c.in_ok-engine.engine =
    rw (c.in_ok-wiring.ensures, c.numbers.ensures, c.read.ensures, c.unread.ensures, c.as_slice.ensures.value, c.in_ok-contents.ensures) at c.in_ok-engine.ensures in
    opens p c.law.ensures c.in_ok-queued.queued.numbers.items c.in_ok-queued.queued.read.items c.in_ok-queued.queued.unread.items c.in_ok-queued.ensures c.args.horizon c.in_ok-engine.engine opened c.law-2.ensures

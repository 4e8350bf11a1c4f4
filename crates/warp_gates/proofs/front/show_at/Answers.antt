use Rattle.std.proofs.Common.{◌∙◌, ◌<◌, List, ap, refl, arith}
use Rattle.gate_values.specs.declared.logic.Logic.{Logic}
use Rattle.warp_gates.specs.Cells.{value_at}
use Rattle.warp_gates.specs.Inner.Pins.{pins_of}
use Rattle.warp_gates.proofs.Showing.{value_at-set}
use Rattle.warp_gates.proofs.front.show_at.Goals as goal

pub returns : goal.returns
returns c =
    let small : c.args.pin < 4 = omega arith in
    record {
      queue = refl;
      kind = refl;
      output = refl;
      pins = λ k h.
          ap (λ (vs : List Logic). value_at vs k) c.with-front.ensures
          ∙ value_at-set (pins_of c.args.front.now.pins) c.args.pin k c.args.value small;
      stale = refl;
    }

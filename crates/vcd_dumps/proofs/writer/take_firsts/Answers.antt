use Rattle.std.proofs.Common.{◌∙◌, ap, sym, get_or, arith}
use Rattle.gate_values.specs.declared.logic.Logic.{Logic}
use Rattle.gate_values.specs.declared.logic.Logic.TheVariants.{Zero, X}
use Rattle.net_waves.specs.declared.timeline.NetMove.{NetMove}
use Rattle.net_waves.specs.First.{first_by}
use Rattle.net_waves.specs.Timeline.{stop_by}
use Rattle.vcd_dumps.proofs.Writing.{firsts_more}
use Rattle.vcd_dumps.proofs.writer.take_firsts.Goals as goal

abbrev first_move : NetMove
first_move = record { net = 0; value = Zero }

pub loop-one-preserved : goal.loop-one-preserved
loop-one-preserved c = (
  c.take_first.ensures.length ∙ c.loop-one.invariant.0,
  λ n l.
      c.take_first.ensures.each n (let same = c.loop-one.invariant.0 in omega (arith, l, same))
      ∙ ap (λ (v : Logic). first_by (stop_by 0 (get_or c.args.moves.now c.loop-one.one-index first_move)) v n) (c.loop-one.invariant.1 n l)
      ∙ sym (firsts_more (get_or c.args.firsts.now n X) c.args.moves.now c.loop-one.one-index first_move n c.loop-one-test.true),
)

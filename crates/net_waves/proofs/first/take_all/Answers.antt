use Rattle.std.proofs.Common.{◌∙◌, ap, sym, get_or, arith}
use Rattle.gate_values.specs.declared.logic.Logic.{Logic}
use Rattle.gate_values.specs.declared.logic.Logic.TheVariants.{Zero, X}
use Rattle.net_waves.specs.declared.timeline.Stop.{Stop}
use Rattle.net_waves.specs.First.{first_by, first_from}
use Rattle.net_waves.proofs.Firsts.{first-more}
use Rattle.net_waves.proofs.first.take_all.Goals as goal

abbrev first_stop : Stop
first_stop = record { time = 0; net = 0; value = Zero }

pub loop-stop-preserved : goal.loop-stop-preserved
loop-stop-preserved c = (
  c.take_first.ensures.length ∙ c.loop-stop.invariant.0,
  λ n l.
      c.take_first.ensures.each n (let same = c.loop-stop.invariant.0 in omega (arith, l, same))
      ∙ ap (λ (v : Logic). first_by (get_or c.args.stops.now c.loop-stop.stop-index first_stop) v n) (c.loop-stop.invariant.1 n l)
      ∙ sym (first-more (get_or c.args.values.now n X) c.args.stops.now c.loop-stop.stop-index first_stop n c.loop-stop-test.true),
)

use Rattle.std.proofs.Common.{◌<◌, ◌+◌, length, get_or, drop, arith}
use Rattle.std.proofs.lemmas.List.{drop_more}
use Rattle.gate_values.specs.declared.logic.Logic.TheVariants.{Zero}
use Rattle.net_waves.specs.declared.timeline.Stop.{Stop}
use Rattle.vcd_dumps.proofs.Walking.{walked_step}
use Rattle.vcd_dumps.proofs.dump.put_stops.Goals as goal

first : Stop
first = record { time = 0; net = 0; value = Zero }

pub loop-stop-preserved : goal.loop-stop-preserved
unfolding first
loop-stop-preserved g c =
    let within : c.loop-stop.stop-index < length c.args.stops.now = omega (arith, c.loop-stop-test.true, c.loop-stop.auto.stop-index-end) in
    walked_step _ _ _ _ _ _ _ _ (drop c.loop-stop.stop-index c.args.stops.now) (drop (c.loop-stop.stop-index + 1) c.args.stops.now) _ (get_or c.args.stops.now c.loop-stop.stop-index first) c.loop-stop.invariant (drop_more c.args.stops.now c.loop-stop.stop-index first within) c.put_stop.ensures

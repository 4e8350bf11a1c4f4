use Rattle.std.proofs.Common.{◌∙◌}
use Rattle.gate_values.specs.declared.logic.Logic.TheVariants.{Zero}
use Rattle.net_waves.specs.Waves.{lists_in}
use Rattle.gate_vcd.proofs.Bundling.{with_stops-next}
use Rattle.gate_vcd.proofs.bundles.settle_stops.Goals as goal

pub loop-stop-init : goal.loop-stop-init
loop-stop-init c = record { long = c.make_room.ensures.length; put = c.in_ok-make_room.ensures.ok }

pub loop-stop-preserved : goal.loop-stop-preserved
loop-stop-preserved c = record {
  long = c.settle_stop.ensures.length ∙ c.loop-stop.invariant.long;
  put = with_stops-next c.args.bundle c.args.waiting.now c.loop-stop.stop-index (record { time = 0; net = 0; value = Zero }) (lists_in c.args.lists.now.items) (lists_in c.loop-stop.lists.items) (lists_in c.settle_stop.new.lists.items) c.loop-stop-test.true c.loop-stop.invariant.put c.in_ok-settle_stop.ensures.ok;
}

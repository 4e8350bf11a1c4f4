use Rattle.std.proofs.Common.{◌<◌, length, arith}
use Rattle.vcd_only.specs.Inner.Stops.{stops_in}
use Rattle.vcd_only.proofs.Showing.{stops_below-next}
use Rattle.vcd_only.proofs.stops.stops_by_net.Goals as goal

pub loop-net-preserved : goal.loop-net-preserved
loop-net-preserved c =
    let known : c.loop-net.net < length c.args.waves.now = omega (arith, c.loop-net-test.true, c.nets-net-end.ensures) in
    stops_below-next c.args.told.now c.args.waves.now c.loop-net.net known (stops_in c.loop-net.stops.items) (stops_in c.add_net.new.stops.items) c.loop-net.invariant c.in_ok-add_net.ensures

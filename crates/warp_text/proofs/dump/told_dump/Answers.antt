use Rattle.net_waves.specs.ByTime.{stops_in}
use Rattle.warp_text.proofs.Alone.{first_values_of}
use Rattle.warp_text.proofs.dump.told_dump.Goals as goal

pub changes_by-requires-clause-firsts : goal.changes_by-requires-clause-firsts
changes_by-requires-clause-firsts g c κs within =
    rw c.as_slice-firsts.ensures.value
    (first_values_of c.args.circuit.now c.args.stimulus.now c.args.horizon c.nets.result c.in_ok-firsts.firsts.items (stops_in c.args.by_time.now) c.nets.ensures.count
    c.in_ok-firsts.ensures.count c.in_ok-firsts.ensures.each c.requires.stops)

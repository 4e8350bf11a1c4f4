use Rattle.std.proofs.Common.{codes}
use Rattle.warp_core.specs.Values.{circuit_waves}
use Rattle.warp_text.proofs.Alone.{circuit_waves-are, each_wave}
use Rattle.warp_text.proofs.Simulating.{waves_until, dump-waves}
use Rattle.warp_text.proofs.dump.changes_by.Goals as goal

pub changes_dump_by-requires-sync-R : goal.changes_dump_by-requires-sync-R
changes_dump_by-requires-sync-R g c κs within =
    let d = c.args.circuit.now in
    let given = c.args.stimulus.now in
    let horizon = c.args.horizon in
    let lists = circuit_waves d given horizon in
    let are = circuit_waves-are d given horizon in
    (within, (c.type_bounds.sync-R, (c.requires.workers, (are.nets, (each_wave d given horizon lists are, (waves_until d given horizon lists are, (c.requires.firsts, (c.requires.stops, c.requires.near))))))))

pub returns : goal.returns
returns g c =
    let d = c.args.circuit.now in
    let given = c.args.stimulus.now in
    let horizon = c.args.horizon in
    rw (dump-waves (codes "top") d given horizon (circuit_waves d given horizon) (circuit_waves-are d given horizon)) at c.changes_dump_by.ensures

use Rattle.std.proofs.Common.{codes}
use Rattle.warp_text.proofs.Simulating.{waves_until, dump-waves}
use Rattle.warp_text.proofs.dump.dump_by.Goals as goal

pub dump_by-requires-clause-until : goal.dump_by-requires-clause-until
dump_by-requires-clause-until g c κs within = waves_until c.args.circuit.now c.args.stimulus.now c.args.horizon c.args.waves c.requires.waves

pub returns : goal.returns
returns g c = rw (dump-waves (codes "top") c.args.circuit.now c.args.stimulus.now c.args.horizon c.args.waves c.requires.waves) at c.dump_by.ensures

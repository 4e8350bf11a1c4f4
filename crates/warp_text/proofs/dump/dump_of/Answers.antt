use Rattle.std.proofs.Common.{◌∙◌, codes}
use Rattle.warp_text.proofs.Simulating.{waves_until, dump-waves}
use Rattle.warp_text.proofs.dump.dump_of.Goals as goal

pub write_vcd_once-requires-clause-until : goal.write_vcd_once-requires-clause-until
write_vcd_once-requires-clause-until c = waves_until c.args.circuit.now c.args.stimulus.now c.args.horizon c.args.waves c.requires.waves

pub returns-in-Ok : goal.returns-in-Ok
returns-in-Ok c =
    c.into_vec.ensures ∙ c.in-Ok.ensures.whole ∙ rw c.new-sink.ensures
    (dump-waves (codes "top") c.args.circuit.now c.args.stimulus.now c.args.horizon c.args.waves c.requires.waves)

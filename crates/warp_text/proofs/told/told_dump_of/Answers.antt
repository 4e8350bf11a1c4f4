use Rattle.std.proofs.Common.{◌∙◌, codes}
use Rattle.vcd_only.proofs.Agreeing.{told_text-waves}
use Rattle.warp_core.specs.Values.{value_under}
use Rattle.warp_text.proofs.Simulating.{waves_until}
use Rattle.warp_text.proofs.told.told_dump_of.Goals as goal

pub told_text-requires-clause-until : goal.told_text-requires-clause-until
told_text-requires-clause-until c = waves_until c.args.circuit.now c.args.stimulus.now c.args.horizon c.args.waves.now c.requires

pub returns : goal.returns
returns c =
    (rw c.timescale-scale.ensures at c.in_ok-text.ensures)
    ∙ told_text-waves c.args.told.now (codes "top") c.args.circuit.now.names c.args.stimulus.now.timescale c.args.waves.now (value_under c.args.circuit.now c.args.stimulus.now) c.args.horizon c.requires.waves

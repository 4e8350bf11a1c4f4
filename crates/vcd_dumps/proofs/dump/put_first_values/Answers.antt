use Rattle.std.proofs.Common.{◌≡◌, ◌∙◌, ap}
use Rattle.gate_values.specs.declared.logic.Logic.TheVariants.{X}
use Rattle.gate_values.specs.Changes.{latest}
use Rattle.net_waves.specs.Waves.{wave_value}
use Rattle.byte_sinks.proofs.Passing.{passes_then, passes_none}
use Rattle.vcd_dumps.proofs.DumpLaws.{first_lines-none, first_lines-next}
use Rattle.vcd_dumps.proofs.dump.put_first_values.Goals as goal

pub loop-net-init : goal.loop-net-init
loop-net-init g c = rw (first_lines-none (wave_value c.args.waves.now)) (passes_none _ _)

pub first_value-requires : goal.first_value-requires
first_value-requires g c = rw c.changes.ensures (c.law.ensures c.loop-net.net)

pub loop-net-preserved : goal.loop-net-preserved
loop-net-preserved g c =
    let value : c.first_value.result ≡ wave_value c.args.waves.now c.loop-net.net 0 = c.first_value.ensures ∙ ap (λ cs. latest X cs 0) c.changes.ensures in
    rw (first_lines-next (wave_value c.args.waves.now) c.loop-net.net, ← value) (passes_then c.loop-net.invariant c.put_value.ensures)

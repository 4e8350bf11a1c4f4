use Rattle.std.proofs.Common.{◌≡◌, ◌∙◌, get_or}
use Rattle.std.proofs.lemmas.List.{get_or_default}
use Rattle.gate_values.specs.declared.logic.Logic.TheVariants.{Zero, X}
use Rattle.byte_sinks.proofs.Passing.{passes_then, passes_none}
use Rattle.vcd_dumps.proofs.DumpLaws.{first_lines-none, first_lines-next}
use Rattle.vcd_dumps.proofs.dump.put_values.Goals as goal

pub loop-net-init : goal.loop-net-init
loop-net-init g c = rw (first_lines-none g.value) (passes_none _ _)

pub loop-net-preserved : goal.loop-net-preserved
loop-net-preserved g c =
    let here : get_or c.args.firsts.now c.loop-net.net Zero ≡ g.value c.loop-net.net 0 = get_or_default c.args.firsts.now c.loop-net.net Zero X c.loop-net-test.true ∙ c.requires.1.1 c.loop-net.net c.loop-net-test.true in
    rw (first_lines-next g.value c.loop-net.net, ← here) (passes_then c.loop-net.invariant c.put_value.ensures)

use Rattle.std.proofs.Common.{◌<◌, ◌^◌, length, arith, length-append}
use Rattle.vcd_dumps.specs.Dump.{var_lines, var_line}
use Rattle.byte_sinks.proofs.Passing.{passes_then, passes_none}
use Rattle.vcd_dumps.proofs.DumpLaws.{var_lines-none, var_lines-next, length-var_line}
use Rattle.vcd_dumps.proofs.dump.put_vars.Goals as goal

pub loop-net-init : goal.loop-net-init
loop-net-init g c = rw (var_lines-none c.args.circuit.now.names) (record { text = passes_none _ _; short = omega arith })

pub loop-net-preserved : goal.loop-net-preserved
loop-net-preserved g c =
    let short : length c.name.result.now < 2 ^ 64 = omega arith in
    rw (var_lines-next c.args.circuit.now.names c.loop-net.net, ← c.name.ensures) (record {
      text = passes_then c.loop-net.invariant.text c.put_var.ensures;
      short = omega (arith, length-append (var_lines c.args.circuit.now.names c.loop-net.net) (var_line c.loop-net.net c.name.result.now), length-var_line c.loop-net.net c.name.result.now short, c.loop-net.invariant.short);
    })

use Rattle.std.proofs.Common.{◌<◌, ◌^◌, length, arith}
use Rattle.vcd_dumps.specs.Dump.{header}
use Rattle.byte_sinks.proofs.Passing.{passes_then}
use Rattle.vcd_dumps.proofs.DumpLaws.{length-header}
use Rattle.vcd_dumps.proofs.dump.put_header.Goals as goal

pub returns-clause-text : goal.returns-clause-text
unfolding header
returns-clause-text g c = passes_then c.put_timescale.ensures (passes_then c.put_scope.ensures (passes_then c.put_vars.ensures.text c.put_text.ensures))

pub returns-clause-short : goal.returns-clause-short
returns-clause-short g c =
    let top : length c.args.top.now < 2 ^ 64 = omega arith in
    let number : c.args.scale.number < 2 ^ 64 = omega arith in
    length-header c.args.top.now c.args.circuit.now.names c.args.scale top number c.put_vars.ensures.short

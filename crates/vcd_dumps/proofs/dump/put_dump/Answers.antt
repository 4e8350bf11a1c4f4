use Rattle.std.proofs.Common.{◌++◌, length, arith, length-append}
use Rattle.std.specs.Prelude.{codes}
use Rattle.net_waves.specs.Waves.{wave_value}
use Rattle.vcd_dumps.specs.Dump.{header, first_lines, moments, dump_text}
use Rattle.byte_sinks.proofs.Passing.{passes_then, passes_whole}
use Rattle.vcd_dumps.proofs.DumpLaws.{length-below}
use Rattle.vcd_dumps.proofs.dump.put_dump.Goals as goal

pub returns-clause-text : goal.returns-clause-text
unfolding dump_text
returns-clause-text g c =
    let first = rw c.nets.ensures.count at c.put_first_values.ensures in
    let later = rw c.requires.nets at c.put_moments.ensures in
    passes_whole (passes_then c.put_header.ensures.text (passes_then first (passes_then c.put_text.ensures later))) c.finish.ensures c.new-lot.ensures

pub returns-clause-countable : goal.returns-clause-countable
unfolding dump_text
returns-clause-countable g c =
    let names = c.args.circuit.now.names in
    let values = wave_value c.args.waves.now in
    let below = length-below values (length names) c.args.horizon (omega arith) (omega arith) in
    omega (arith, c.put_header.ensures.short, below, length-append (header c.args.top.now names c.args.scale) (first_lines values (length names) ++ (codes "$end\n" ++ moments values (length names) c.args.horizon c.args.horizon)))

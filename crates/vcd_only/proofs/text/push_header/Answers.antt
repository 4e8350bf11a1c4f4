use Rattle.std.proofs.Common.{◌++◌, length}
use Rattle.std.specs.Prelude.{codes}
use Rattle.vcd_dumps.specs.Dump.{timescale_line, scope_line}
use Rattle.vcd_only.specs.Told.{told_vars, told_header}
use Rattle.vcd_only.proofs.Appending.{put_then}
use Rattle.vcd_only.proofs.text.push_header.Goals as goal

pub returns : goal.returns
unfolding told_header
returns c =
    let names = c.args.circuit.now.names in
    let scope = scope_line c.args.top.now in
    let vars = told_vars c.args.told.now names (length names) in
    let end = codes "$upscope $end\n$enddefinitions $end\n#0\n$dumpvars\n" in
    put_then c.args.text.now.items (timescale_line c.args.scale) (scope ++ (vars ++ end)) c.in_ok-push_timescale.ensures
    (put_then c.push_timescale.new.text.items scope (vars ++ end) c.in_ok-push_scope.ensures (put_then c.push_scope.new.text.items vars end c.in_ok-push_vars.ensures c.in_ok-push_text.ensures))

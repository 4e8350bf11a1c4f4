use Rattle.std.proofs.Common.{◌++◌}
use Rattle.std.specs.Prelude.{codes}
use Rattle.vcd_dumps.specs.Codes.{code_of}
use Rattle.vcd_only.proofs.Appending.{put_then}
use Rattle.vcd_only.proofs.lines.push_var.Goals as goal

pub returns : goal.returns
returns c =
    let code = code_of c.args.net in
    let name = c.args.name.now in
    let end = codes " $end\n" in
    put_then c.args.text.now.items (codes "$var wire 1 ") (code ++ (codes " " ++ (name ++ end))) c.in_ok-push_text.ensures
    (put_then c.push_text.new.text.items code (codes " " ++ (name ++ end)) c.in_ok-push_code.ensures
    (put_then c.push_code.new.text.items (codes " ") (name ++ end) c.in_ok-push_text-2.ensures (put_then c.push_text-2.new.text.items name end c.in_ok-push_text-3.ensures c.in_ok-push_text-4.ensures)))

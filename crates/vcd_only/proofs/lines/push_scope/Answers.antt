use Rattle.std.proofs.Common.{◌++◌}
use Rattle.std.specs.Prelude.{codes}
use Rattle.vcd_only.proofs.Appending.{put_then}
use Rattle.vcd_only.proofs.lines.push_scope.Goals as goal

pub returns : goal.returns
returns c =
    let end = codes " $end\n" in
    let top = c.args.top.now in
    put_then c.args.text.now.items (codes "$scope module ") (top ++ end) c.in_ok-push_text.ensures (put_then c.push_text.new.text.items top end c.in_ok-push_text-2.ensures c.in_ok-push_text-3.ensures)

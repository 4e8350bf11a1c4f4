use Rattle.std.proofs.Common.{◌++◌}
use Rattle.std.specs.Prelude.{codes, decimal}
use Rattle.vcd_only.proofs.Appending.{put_then}
use Rattle.vcd_only.proofs.lines.push_timescale.Goals as goal

pub returns : goal.returns
returns c =
    let number = decimal c.args.scale.number in
    let name = c.name.result.now in
    let end = codes " $end\n" in
    rw (← c.name.ensures) (put_then c.args.text.now.items (codes "$timescale ") (number ++ (codes " " ++ (name ++ end))) c.in_ok-push_text.ensures
    (put_then c.push_text.new.text.items number (codes " " ++ (name ++ end)) c.in_ok-push_number.ensures
    (put_then c.push_number.new.text.items (codes " ") (name ++ end) c.in_ok-push_text-2.ensures (put_then c.push_text-2.new.text.items name end c.in_ok-push_text-3.ensures c.in_ok-push_text-4.ensures))))

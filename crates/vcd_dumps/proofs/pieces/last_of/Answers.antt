use Rattle.std.proofs.Common.{◌-◌, length, arith, rules}
use Rattle.vcd_dumps.proofs.PieceLaws.{keys-last}
use Rattle.vcd_dumps.proofs.pieces.last_of.Goals as goal

pub returns-in-len1-up : goal.returns-in-len1-up
returns-in-len1-up c = rw (keys-last 0 c.args.keys.now 0 (length c.args.keys.now - 1) (omega (arith, c.in-len1-up.len_at_least))) (search rules)

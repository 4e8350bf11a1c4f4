use Rattle.std.proofs.Common.{inr, arith}
use Rattle.gate_netlist.proofs.Naming.{twice, too_many, fresh, was_among}
use Rattle.gate_netlist.proofs.reading.define.Goals as goal

pub returns-then-not-branch-clause-gives : goal.returns-then-not-branch-clause-gives
returns-then-not-branch-clause-gives c =
    inr (twice _ c.args.names.now.keys c.args.name.now (was_among c.in_ok-key.key c.args.name.now c.args.names.now.keys _ _ c.in_ok-key.ensures.ok c.in_ok-insert.ensures.added c.if-not-branch.true))

pub returns-then-len-gt-MOST_NETS-clause-gives : goal.returns-then-len-gt-MOST_NETS-clause-gives
returns-then-len-gt-MOST_NETS-clause-gives c =
    inr (too_many _ c.args.names.now.keys c.args.name.now (was_among c.in_ok-key.key c.args.name.now c.args.names.now.keys _ _ c.in_ok-key.ensures.ok c.in_ok-insert.ensures.added c.if-not-branch.false) (omega (arith, c.len.ensures.len, rw c.if-not-branch.false at c.in_ok-insert.ensures.len)))

pub returns-clause-gives : goal.returns-clause-gives
returns-clause-gives c =
    fresh _ c.args.names.now.keys c.args.name.now (was_among c.in_ok-key.key c.args.name.now c.args.names.now.keys _ _ c.in_ok-key.ensures.ok c.in_ok-insert.ensures.added c.if-not-branch.false) (omega (arith, c.len.ensures.len, rw c.if-not-branch.false at c.in_ok-insert.ensures.len))

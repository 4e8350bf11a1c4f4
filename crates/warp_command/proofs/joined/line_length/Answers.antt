use Rattle.warp_command.proofs.Parting.{lines-cut, line_end-here, line_end-next, line_end-at_end}
use Rattle.warp_command.proofs.joined.line_length.Goals as goal

pub returns-then-byte-eq10-clause-first : goal.returns-then-byte-eq10-clause-first
returns-then-byte-eq10-clause-first c =
    lines-cut _ _ c.requires (line_end-here _ _ c.loop-at.invariant c.loop-at-test.true c.if-byte-eq10.true)

pub loop-at-preserved : goal.loop-at-preserved
loop-at-preserved c = line_end-next _ _ c.loop-at.invariant c.loop-at-test.true c.if-byte-eq10.false

pub returns-clause-first : goal.returns-clause-first
returns-clause-first c =
    lines-cut _ _ c.requires (line_end-at_end _ _ c.loop-at.invariant c.loop-at.auto.at-end c.loop-at-test.false)

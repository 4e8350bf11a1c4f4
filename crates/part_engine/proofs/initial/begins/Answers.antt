use Rattle.std.proofs.Common.{arith, ◌∙◌, sym}
use Rattle.part_engine.proofs.Firsts.{begins_here, begins_nowhere}
use Rattle.part_engine.proofs.initial.begins.Goals as goal

pub returns-then-begins_at : goal.returns-then-begins_at
returns-then-begins_at c =
    sym (begins_here c.args.part.now c.law.ensures c.loop-slot.slot (omega (arith, c.len-slot-end.ensures.count, c.loop-slot-test.true)) (sym c.begins_at.ensures ∙ c.if-begins_at.true))

pub returns : goal.returns
returns c =
    sym (begins_nowhere c.args.part.now c.law.ensures (λ i l. c.loop-slot.invariant i (omega (arith, c.len-slot-end.ensures.count, c.loop-slot-test.false))))

use Rattle.std.proofs.Common.{◌∙◌, ◌+◌, sym, arith, length-drop}
use Rattle.warp_command.proofs.Parting.{passes_line, parts_here, parts_nowhere, rest_of-all, added-less}
use Rattle.warp_command.proofs.joined.split_joined.Goals as goal

pub returns-then-is_parting_line-clause-before : goal.returns-then-is_parting_line-clause-before
returns-then-is_parting_line-clause-before c =
    let line = rw rest_of-all at c.line_length.ensures.first in
    let here = rw added-less at (sym c.is_parting_line.ensures ∙ c.if-is_parting_line.true) in
    sym (parts_here _ _ _ c.loop-at.invariant line here).0

pub returns-then-is_parting_line-clause-after : goal.returns-then-is_parting_line-clause-after
returns-then-is_parting_line-clause-after c =
    let line = rw rest_of-all at c.line_length.ensures.first in
    let here = rw added-less at (sym c.is_parting_line.ensures ∙ c.if-is_parting_line.true) in
    rest_of-all c.args.text.now (c.loop-at.at + c.line_length.result) ∙ sym (parts_here _ _ _ c.loop-at.invariant line here).1

pub loop-at-preserved : goal.loop-at-preserved
loop-at-preserved c =
    let line = rw rest_of-all at c.line_length.ensures.first in
    let within = rw rest_of-all at c.line_length.ensures.within in
    let other = rw added-less at (sym c.is_parting_line.ensures ∙ c.if-is_parting_line.false) in
    passes_line _ _ _ c.loop-at.invariant line (omega (arith, within, length-drop c.loop-at.at c.args.text.now)) other

pub returns-clause-before : goal.returns-clause-before
returns-clause-before c = sym (parts_nowhere _ _ c.loop-at.invariant c.loop-at-test.false).0

pub returns-clause-after : goal.returns-clause-after
returns-clause-after c = sym (parts_nowhere _ _ c.loop-at.invariant c.loop-at-test.false).1

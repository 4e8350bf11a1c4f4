use Rattle.std.proofs.Common.{◌∙◌, inr}
use Rattle.gate_netlist.proofs.Splitting.{bad_first, meaning_first}
use Rattle.gate_netlist.proofs.statement.meaning_of.Goals as goal

pub returns-then-not-is_allowed-clause-gives : goal.returns-then-not-is_allowed-clause-gives
returns-then-not-is_allowed-clause-gives c = inr (bad_first c.args.text.now _ _ (rw c.if-not-is_allowed.true at c.in_ok-is_allowed.ensures.line))

pub returns-then-has_end-clause-gives : goal.returns-then-has_end-clause-gives
returns-then-has_end-clause-gives c =
    inr (meaning_first c.args.text.now _ _ _ (rw c.if-not-is_allowed.false at c.in_ok-is_allowed.ensures.line) (rw c.deref.ensures.value at c.if-has_end.ensures))

pub returns-in-Ok-clause-gives : goal.returns-in-Ok-clause-gives
returns-in-Ok-clause-gives c =
    meaning_first c.args.text.now _ _ _ (rw c.if-not-is_allowed.false at c.in_ok-is_allowed.ensures.line) (rw c.deref.ensures.value at c.if-has_end.ensures)
    ∙ (rw c.deref-2.ensures.value at c.in-Ok.ensures)

pub returns-in-Err-clause-gives : goal.returns-in-Err-clause-gives
returns-in-Err-clause-gives c =
    rw (meaning_first c.args.text.now _ _ _ (rw c.if-not-is_allowed.false at c.in_ok-is_allowed.ensures.line) (rw c.deref.ensures.value at c.if-has_end.ensures)) (rw c.deref-2.ensures.value at c.in-Err.ensures)

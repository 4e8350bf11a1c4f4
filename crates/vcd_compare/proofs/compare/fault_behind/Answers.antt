use Rattle.std.proofs.Common.{inl, inr}
use Rattle.vcd_compare.proofs.Answering.{none-used}
use Rattle.vcd_compare.proofs.compare.fault_behind.Goals as goal

pub follow-requires : goal.follow-requires
follow-requires c = λ code u. none-used code u

pub returns-in-Ok : goal.returns-in-Ok
returns-in-Ok c = let (es, read, follows) = c.in-Ok.ensures.followed in inl (es, read, c.actual_fault.ensures)

pub returns-in-Err : goal.returns-in-Err
returns-in-Err c = inr (c.in-Err.own, c.in-Err.ensures.followed, c.expected_fault.ensures)

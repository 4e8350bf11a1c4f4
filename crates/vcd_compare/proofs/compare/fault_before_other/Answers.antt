use Rattle.std.proofs.Common.{inl, inr, refl}
use Rattle.vcd_compare.proofs.Answering.{none-used}
use Rattle.vcd_compare.proofs.compare.fault_before_other.Goals as goal

pub follow-requires : goal.follow-requires
follow-requires c = λ code u. none-used code u

pub returns-in-Ok : goal.returns-in-Ok
returns-in-Ok c = let (es, read, follows) = c.in-Ok.ensures.followed in inr (es, read, refl)

pub returns-in-Err : goal.returns-in-Err
returns-in-Err c = inl (c.in-Err.own, c.in-Err.ensures.followed, c.actual_fault.ensures)

use Rattle.std.proofs.Common.{arith, inr}
use Rattle.vcd_compare.proofs.compare.is_nothing.Goals as goal

pub returns-in-None-clause-nothing : goal.returns-in-None-clause-nothing
returns-in-None-clause-nothing c = λ e. inr (λ t compared. (let h = c.in-None.ensures t compared in omega (arith, h)))

use Rattle.vcd_only.proofs.Agreeing.{told_text-all, told_text-agree}
use Rattle.vcd_only.proofs.laws.told_laws.Goals as goal

pub returns-clause-all : goal.returns-clause-all
returns-clause-all c = told_text-all

pub returns-clause-agree : goal.returns-clause-agree
returns-clause-agree c = told_text-agree

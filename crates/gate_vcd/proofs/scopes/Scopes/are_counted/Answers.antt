use Rattle.gate_vcd.proofs.ScopeLaws.{counted}
use Rattle.gate_vcd.proofs.scopes.Scopes.are_counted.Goals as goal

pub returns-in-Some : goal.returns-in-Some
returns-in-Some c scopes = rw c.in-Some.is (counted c.in-Some.asked.now c.args.self.now.ends.items scopes c.is_asked.result (rw (← c.inner_end.ensures) c.is_asked.ensures))

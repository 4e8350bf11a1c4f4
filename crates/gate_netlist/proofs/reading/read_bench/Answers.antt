use Rattle.gate_netlist.specs.Inner.Stored.{statements_in}
use Rattle.gate_netlist.proofs.Resolving.{read_said, unread_fault}
use Rattle.gate_netlist.proofs.reading.read_bench.Goals as goal

pub returns-in-Ok-clause-exact : goal.returns-in-Ok-clause-exact
returns-in-Ok-clause-exact c = rw (read_said c.args.text.now (statements_in c.in-Ok.statements) c.in-Ok.ensures.gives) c.resolved.ensures.exact

pub returns-in-Err-clause-exact : goal.returns-in-Err-clause-exact
returns-in-Err-clause-exact c = unread_fault c.args.text.now c.in-Err.fault c.in-Err.ensures.gives

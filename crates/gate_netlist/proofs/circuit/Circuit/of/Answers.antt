use Rattle.gate_netlist.specs.Meaning.{members_of}
use Rattle.gate_netlist.proofs.Causes.{settled_text, unread_text}
use Rattle.gate_netlist.proofs.circuit.Circuit.of.Goals as goal

pub returns-in-Ok : goal.returns-in-Ok
returns-in-Ok c = settled_text c.args.bench c.args.settings.now (members_of c.in-Ok.document) c.in-Ok.ensures c.with.result c.with.ensures

pub returns-in-Err : goal.returns-in-Err
returns-in-Err c = unread_text c.args.bench c.args.settings.now c.in-Err.fault c.in-Err.ensures

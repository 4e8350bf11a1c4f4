use Rattle.gate_netlist.proofs.Saying.{means, means_one}
use Rattle.gate_netlist.proofs.laws.accepted_laws.Goals as goal

pub returns-clause-means : goal.returns-clause-means
returns-clause-means c = means

pub returns-clause-once : goal.returns-clause-once
returns-clause-once c = means_one

use Rattle.gate_netlist.proofs.Sources.{source_of-IsWellFormed}
use Rattle.gate_netlist.proofs.laws.circuit_laws.Goals as goal

pub returns-clause-found : goal.returns-clause-found
returns-clause-found c = λ d n law net. law.named n net

pub returns-clause-sources : goal.returns-clause-sources
returns-clause-sources c = source_of-IsWellFormed

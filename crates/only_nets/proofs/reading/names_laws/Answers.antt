use Rattle.only_nets.proofs.Naming.{marks_named-of_names}
use Rattle.only_nets.proofs.reading.names_laws.Goals as goal

pub returns : goal.returns
returns c = marks_named-of_names

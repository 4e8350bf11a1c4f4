use Rattle.gate_netlist.proofs.Causes.{cause_of-of_document}
use Rattle.gate_netlist.proofs.Refusals.{bench_of-of_bench}
use Rattle.gate_netlist.proofs.laws.refusal_laws.Goals as goal

pub returns : goal.returns
returns c = record { bench = bench_of-of_bench; settings = cause_of-of_document }

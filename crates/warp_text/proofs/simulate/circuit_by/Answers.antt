use Rattle.std.proofs.Common.{Err}
use Rattle.std.proofs.lemmas.Result.{err_from_is_err_and}
use Rattle.gate_netlist.specs.Meaning.{members_of}
use Rattle.gate_netlist.proofs.Causes.{settled_text}
use Rattle.warp_text.proofs.Settling.{no_circuit}
use Rattle.warp_text.proofs.simulate.circuit_by.Goals as goal

pub returns-in_err-with_by : goal.returns-in_err-with_by
returns-in_err-with_by g c =
    let b = c.in_ok-bench.bench in
    let text = c.args.settings.now in
    let fault = c.in_err-with_by.field-0.0 in
    let read = rw c.in_ok-bench.was at c.join-bench.ensures.first in
    let document = rw c.in_ok-document.was at c.join-bench.ensures.second in
    let p = err_from_is_err_and c.from_residual-in_err-with_by.result c.from_residual-in_err-with_by.ensures.1 in
    rw (p.1, p.2) (no_circuit c.args.bench.now text b read.0 fault
    (settled_text b text (members_of c.in_ok-document.document) document (Err fault) c.in_err-with_by.ensures))

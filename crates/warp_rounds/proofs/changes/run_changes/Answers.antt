use Rattle.std.proofs.Common.{◌≡◌, length, ◌∙◌, arith}
use Rattle.std.proofs.lemmas.Result.{err_from_is_err_and}
use Rattle.warp_rounds.proofs.Faulting.{rounds_run, gather_run}
use Rattle.warp_rounds.proofs.changes.run_changes.Goals as goal

pub returns-in_err-_rounds-clause-fault : goal.returns-in_err-_rounds-clause-fault
returns-in_err-_rounds-clause-fault g c =
    let p = err_from_is_err_and c.from_residual-in_err-_rounds.result c.from_residual-in_err-_rounds.ensures.1 in
    rw (p.1, p.2) (
    rounds_run c.args.circuit.now c.args.cut.now c.args.stimulus.now c.args.horizon c.args.workers c.args.window (length c.as_slice-shown.result.now) c.in_err-_rounds.field-0.0
    (c.as_slice-shown.ensures.len ∙ c.in_ok-sites.ensures.count) c.in_err-_rounds.ensures
    )

pub returns-in_err-all-clause-fault : goal.returns-in_err-all-clause-fault
returns-in_err-all-clause-fault g c =
    let p = err_from_is_err_and c.from_residual-in_err-all.result c.from_residual-in_err-all.ensures.1 in
    let count : length c.in_ok-taken.taken.blocks.items ≡ c.args.cut.now.blocks = omega (arith, c.in_ok-taken.taken.blocks.ok.0, c.in_ok-taken.ensures.count, c.in_ok-sites.ensures.count) in
    rw (p.1, p.2) (
    gather_run c.args.circuit.now c.args.cut.now c.args.stimulus.now c.args.horizon c.args.workers c.args.window c.in_ok-taken.taken.blocks.items c.in_err-all.field-0.0 count
    c.in_ok-taken.ensures.lawful c.in_err-all.ensures.fault
    )

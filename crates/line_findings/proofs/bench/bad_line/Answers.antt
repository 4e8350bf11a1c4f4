use Rattle.std.proofs.Common.{◌+◌, length, arith, sym}
use Rattle.std.proofs.lemmas.Result.{IfOk-weaker}
use Rattle.line_findings.proofs.bench.bad_line.Goals as goal

pub returns-in-Some-found : goal.returns-in-Some-found
returns-in-Some-found c =
    let size = c.args.line.now.at + length c.args.line.now.text.now in
    let all = rw (sym c.as_slice-2.ensures.value) at c.in_ok-pieces.ensures in
    let within = rw c.in-Some-found.is at c.break_of-state.ensures size all in
    IfOk-weaker c.stray.result _ _ (λ finding at. omega (arith, at, within, c.requires)) c.stray.ensures

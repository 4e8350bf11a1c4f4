use Rattle.std.proofs.Common.{sym, arith}
use Rattle.std.proofs.lemmas.Result.{err_from_is_err_and}
use Rattle.warp_process.specs.Lawful.{IsLawful}
use Rattle.warp_core.specs.Matched.{EachBlock, AreMatched}
use Rattle.warp_core.proofs.Matching.{matched_changes}
use Rattle.warp_core.proofs.Histories.{told_circuit}
use Rattle.warp_core.proofs.gathering.changes.gather_changes.Goals as goal

pub returns-in_err-check-clause-fault : goal.returns-in_err-check-clause-fault
returns-in_err-check-clause-fault g c =
    let p = err_from_is_err_and c.from_residual-in_err-check.result c.from_residual-in_err-check.ensures.1 in
    let found = rw (c.as_slice-shown.ensures.value, sym c.as_slice-2.ensures.value) at c.in_ok-found.ensures in
    rw (p.1, p.2) (rw c.as_slice.ensures.value at c.in_err-check.ensures.fault c.args.circuit.now c.args.stimulus.now c.args.horizon c.requires.cut found)

pub told_changes-requires-clause-parts : goal.told_changes-requires-clause-parts
told_changes-requires-clause-parts g c κs within =
    let found = rw (c.as_slice-shown.ensures.value, sym c.as_slice-2.ensures.value) at c.in_ok-found.ensures in
    (rw c.as_slice.ensures.value at c.in_ok-check.ensures.matched c.args.circuit.now c.args.stimulus.now c.args.horizon c.requires.cut found).parts

pub returns-clause-matched : goal.returns-clause-matched
returns-clause-matched g c =
    let found = rw (c.as_slice-shown.ensures.value, sym c.as_slice-2.ensures.value) at c.in_ok-found.ensures in
    rw c.as_slice.ensures.value at c.in_ok-check.ensures.matched c.args.circuit.now c.args.stimulus.now c.args.horizon c.requires.cut found

pub returns-clause-changes : goal.returns-clause-changes
returns-clause-changes g c =
    let d = c.args.circuit.now in
    let cut = c.args.cut.now in
    let given = c.args.stimulus.now in
    let blocks = c.args.blocks.items in
    let found = rw (c.as_slice-shown.ensures.value, sym c.as_slice-2.ensures.value) at c.in_ok-found.ensures in
    let matched : AreMatched d cut given c.args.horizon blocks = rw c.as_slice.ensures.value at c.in_ok-check.ensures.matched d given c.args.horizon c.requires.cut found in
    let each = rw c.as_slice-3.ensures.value at c.laws.ensures in
    let lawful : EachBlock cut blocks (λ _ v. IsLawful v) = λ b l. each b (omega (arith, l, matched.count)) in
    told_circuit d cut given c.args.horizon blocks c.in_ok-all.all c.in_ok-all.ensures
    (λ n l. sym (matched_changes d cut given c.args.horizon blocks c.requires.cut c.law.ensures c.law-2.ensures c.requires.horizon lawful matched n l))

use Rattle.std.proofs.Common.{◌∙◌, arith}
use Rattle.std.proofs.lemmas.Result.{err_from_is_err_and}
use Rattle.warp_process.specs.Lawful.{IsLawful}
use Rattle.warp_core.specs.Matched.{EachBlock, AreMatched}
use Rattle.warp_core.proofs.Matching.{matched_changes}
use Rattle.warp_core.proofs.GivenLogs.{told_wave}
use Rattle.warp_core.proofs.gathering.gathered.Goals.{In_ok-check}
use Rattle.warp_core.proofs.gathering.gathered.Goals as goal

pub returns-in_err-check-clause-fault : goal.returns-in_err-check-clause-fault
returns-in_err-check-clause-fault c =
    let p = err_from_is_err_and c.from_residual.result c.from_residual.ensures.1 in
    rw (p.1, p.2) (rw c.as_slice.ensures.value at c.in_err-check.ensures.fault c.args.circuit.now c.args.stimulus.now c.args.horizon c.requires.cut (rw c.as_slice-2.ensures.value c.requires.found))

pub lists_of-requires-clause-parts : goal.lists_of-requires-clause-parts
lists_of-requires-clause-parts c =
    (rw c.as_slice.ensures.value at c.in_ok-check.ensures.matched c.args.circuit.now c.args.stimulus.now c.args.horizon c.requires.cut (rw c.as_slice-2.ensures.value c.requires.found)).parts

pub lists_of-requires-clause-told : goal.lists_of-requires-clause-told
lists_of-requires-clause-told c =
    let d = c.args.circuit.now in
    let cut = c.args.cut.now in
    let g = c.args.stimulus.now in
    let blocks = c.args.blocks.items in
    let matched : AreMatched d cut g c.args.horizon blocks = rw c.as_slice.ensures.value at c.in_ok-check.ensures.matched d g c.args.horizon c.requires.cut (rw c.as_slice-2.ensures.value c.requires.found) in
    let each = rw c.as_slice-3.ensures.value at c.laws.ensures in
    let lawful : EachBlock cut blocks (λ _ v. IsLawful v) = λ b l. each b (omega (arith, l, matched.count)) in
    told_wave d cut g c.args.horizon blocks c.requires.cut c.law.ensures matched.count matched.parts c.requires.horizon c.law-2.ensures lawful

pub returns-clause-gathered : goal.returns-clause-gathered
returns-clause-gathered c =
    let d = c.args.circuit.now in
    let cut = c.args.cut.now in
    let g = c.args.stimulus.now in
    let blocks = c.args.blocks.items in
    let matched : AreMatched d cut g c.args.horizon blocks = rw c.as_slice.ensures.value at c.in_ok-check.ensures.matched d g c.args.horizon c.requires.cut (rw c.as_slice-2.ensures.value c.requires.found) in
    let each = rw c.as_slice-3.ensures.value at c.laws.ensures in
    let lawful : EachBlock cut blocks (λ _ v. IsLawful v) = λ b l. each b (omega (arith, l, matched.count)) in (
      matched,
      record {
        nets = c.in_ok-all.ensures.nets;
        waves = λ n l. c.in_ok-all.ensures.told n l ∙ matched_changes d cut g c.args.horizon blocks c.requires.cut c.law.ensures c.law-2.ensures c.requires.horizon lawful matched n l;
      },
    )

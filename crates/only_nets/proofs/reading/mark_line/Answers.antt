use Rattle.std.proofs.Common.{◌≡◌, [], ◌∷◌, ◌++◌, true, false, sym, ◌∙◌}
use Rattle.gate_netlist.specs.Circuit.{nets_of, is_one_of}
use Rattle.only_nets.proofs.Marking.{mark-read, marks-more}
use Rattle.only_nets.proofs.Naming.{with_nothing, with_known, with_again, with_refused}
use Rattle.only_nets.proofs.reading.mark_line.Goals as goal

pub returns-in-Err-clause-marked : goal.returns-in-Err-clause-marked
returns-in-Err-clause-marked c nets e = with_refused _ nets _ _ (sym c.in-Err.ensures.meaning)

pub returns-in-Ok-None-clause-marked : goal.returns-in-Ok-None-clause-marked
returns-in-Ok-None-clause-marked c nets e = (nets, with_nothing _ nets _ (sym (rw c.in-Ok-None.field-0-is at c.in-Ok-None.ensures.meaning)), e)

pub returns-then-index-clause-marked : goal.returns-then-index-clause-marked
returns-then-index-clause-marked c nets e =
    let known = rw c.in-Ok-Some.field-0-is at c.in-Ok-Some.ensures.known in
    let old : is_one_of nets c.in-Ok-Some.net ≡ true = mark-read _ _ nets c.in-Ok-Some.net _ e known c.index.ensures ∙ c.if-index.true in
    with_again _ nets _ c.in-Ok-Some.net (sym (rw c.in-Ok-Some.field-0-is at c.in-Ok-Some.ensures.meaning)) old

pub returns-else-index-clause-marked : goal.returns-else-index-clause-marked
returns-else-index-clause-marked c nets e =
    let known = rw c.in-Ok-Some.field-0-is at c.in-Ok-Some.ensures.known in
    let new : is_one_of nets c.in-Ok-Some.net ≡ false = mark-read _ _ nets c.in-Ok-Some.net _ e known c.index.ensures ∙ c.if-index.false in
    (nets ++ c.in-Ok-Some.net ∷ [], with_known _ nets _ c.in-Ok-Some.net (sym (rw c.in-Ok-Some.field-0-is at c.in-Ok-Some.ensures.meaning)) new, rw e (marks-more (nets_of c.args.circuit.now) nets c.in-Ok-Some.net known))

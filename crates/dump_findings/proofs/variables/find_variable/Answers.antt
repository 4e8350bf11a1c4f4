use Rattle.std.proofs.Common.{length, sym}
use Rattle.dump_findings.proofs.variables.find_variable.Goals as goal

pub returns-then-is-2 : goal.returns-then-is-2
returns-then-is-2 c =
    let all = rw (sym c.as_slice.ensures.value) at c.loop-at.invariant.1 in
    let found = rw c.in_ok-variable.was at c.declared.ensures (length c.args.text.now) all in
    rw c.in-Some.is at found

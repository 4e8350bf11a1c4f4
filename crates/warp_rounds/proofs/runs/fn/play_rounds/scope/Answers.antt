use Rattle.std.proofs.Common.{arith}
use Rattle.std.proofs.lemmas.Result.{err_from_is_err_and}
use Rattle.warp_rounds.proofs.Faulting.{memory_rounds}
use Rattle.warp_rounds.proofs.runs.fn.play_rounds.scope.Goals as goal

pub returns-in_err-handles : goal.returns-in_err-handles
returns-in_err-handles g c =
    let p = err_from_is_err_and c.from_residual.result c.from_residual.ensures.1 in
    rw (p.1, p.2) (memory_rounds c.captures.term.blocks c.captures.term.horizon c.captures.term.workers c.captures.term.window)

pub returns-in-Err : goal.returns-in-Err
returns-in-Err g c = record {
  floor = 0;
  seats = c.captures.term.workers;
  within = omega arith;
  few = omega arith;
  met = omega (arith, c.loop-place.invariant.within, c.loop-place.auto.place, c.loop-place-test.true);
}

use Rattle.std.proofs.Common.{◌≤◌, [], ◌∷◌, arith, length-append}
use Rattle.history_waves.proofs.Begins.{begins_more, begins_last}
use Rattle.history_waves.proofs.parts.begins_of.Goals as goal

pub loop-preserved : goal.loop-preserved
loop-preserved c =
    let begins = c.loop.begins.items in
    let next = c.saturating_add-begin.result in
    let later : c.loop.begin ≤ next = omega (arith, c.saturating_add-begin.ensures, c.loop.invariant.fits) in
    rw c.in_ok-push-2.ensures.items (record {
      are = begins_more begins next c.loop.invariant.are (omega (arith, c.loop.invariant.last, later));
      many = omega (arith, length-append begins (next ∷ []), c.loop.invariant.many);
      fits = omega (arith, c.saturating_add-begin.ensures);
      last = begins_last begins next c.loop.invariant.are (omega (arith, c.loop.invariant.last, later));
    })

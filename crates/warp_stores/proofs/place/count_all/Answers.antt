use Rattle.std.proofs.Common.{◌≡◌, ◌-◌, ◌++◌, ◌∷◌, [], true, not, is_ok, sym, ap, ◌∙◌, subst, arith, List}
use Rattle.warp_stores.specs.Shown.StopBits.{Tally}
use Rattle.warp_stores.specs.Inner.Stops.{HaveMore}
use Rattle.warp_stores.proofs.Extending.{more_push}
use Rattle.warp_stores.proofs.place.count_all.Goals as goal

-- behind those that are counted stands another stop
pub loop-left-preserved : goal.loop-left-preserved
loop-left-preserved c =
    let ok : is_ok c.push.result ≡ true = c.is_err.ensures.negation ∙ ap not c.if-is_err.false in
    let pushed : c.push.new.self.items ≡ c.loop-left.stops.items ++ record { time = c.args.time; count = c.min-some.result } ∷ [] =
    rw ok at c.push.ensures.items ∙ ap (λ (s : Tally). c.loop-left.stops.items ++ s ∷ []) c.new.ensures in (
      omega (arith, c.loop-left.invariant.0),
      subst (λ (xs : List Tally). HaveMore c.args.time (c.args.count - (c.loop-left.left - c.min-some.result)) c.args.stops.now.items xs) (sym pushed)
          (more_push c.args.time (c.args.count - c.loop-left.left) c.min-some.result (c.args.count - (c.loop-left.left - c.min-some.result)) c.args.stops.now.items c.loop-left.stops.items c.loop-left.invariant.1 (omega (arith, c.min-some.ensures, c.loop-left-test.true)) (omega (arith, c.min-some.ensures, c.loop-left.invariant.0))),
    )

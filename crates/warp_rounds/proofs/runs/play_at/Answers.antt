use Rattle.std.proofs.Common.{◌<◌, Result, Ok, Err, Option, Some, None, IfOk, IfNone, arith}
use Rattle.warp_rounds.specs.declared.drawn.Played.{Played}
use Rattle.warp_rounds.specs.declared.fault.RunFault.{RunFault}
use Rattle.warp_rounds.proofs.runs.play_at.Goals as goal

pub returns-clause-several : goal.returns-clause-several
returns-clause-several g c = several c.play_round.result (omega (arith, c.requires.workers, c.if-order-eq1.false))
  where
    several : (r : Result (Option Played) RunFault) → 1 < c.args.order.workers → IfOk r (λ told. IfNone told (1 < c.args.order.workers))
    several (Ok (Some played)) l = tt
    several (Ok None) l = l
    several (Err fault) l = tt

use denote.Param.Send.{sendable, given_send, given_sync}
use Rattle.std.proofs.Common.{rules, refl, IfErr, Result, Ok, Err, ℕ, length, arith}
use Rattle.warp_rounds.specs.declared.fault.RunFault.{RunFault}
use Rattle.warp_rounds.specs.Inner.Work.{IsRoundsFault}
use Rattle.warp_rounds.proofs.Faulting.{fewer_rounds}
use Rattle.warp_rounds.proofs.runs.play_rounds.Goals as goal

pub scoped-requires : goal.scoped-requires
scoped-requires g c = record { at = λ a. ((refl, c.requires.blocks, c.requires.horizon, omega (arith, c.max.ensures)), (let l = c.type_bounds.send-L in let e = c.type_bounds.sync-G in let r = c.type_bounds.sync-R in search (rules, sendable, given_send, given_sync))) }

pub returns : goal.returns
returns g c = fewer c.scoped.result c.scoped.ensures.1
  where
    fewer : (r : Result ℕ RunFault) → IfErr r (IsRoundsFault (length c.args.sites.now) c.args.horizon c.max.result c.args.window)
        → IfErr r (IsRoundsFault (length c.args.sites.now) c.args.horizon c.args.workers c.args.window)
    fewer (Ok rounds) h = tt
    fewer (Err fault) h = fewer_rounds (length c.args.sites.now) c.args.horizon c.max.result c.args.workers c.args.window fault (omega (arith, c.max.ensures, c.min.ensures, c.requires.workers)) h

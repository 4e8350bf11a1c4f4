use Rattle.std.proofs.Common.{sym, subst}
use Rattle.warp_engine.specs.Runs.{Run, MayReturn, HasReturned}
use Rattle.warp_engine.proofs.Running.{may_go_back, has_returned}
use Rattle.warp_engine.proofs.engine.Engine.go_back.Goals as goal

pub roll_back-requires : goal.roll_back-requires
roll_back-requires c =
    let run : Run = record { book = c.self.inside.journal; horizon = c.self.inside.horizon } in
    may_go_back c.args.time run (subst (MayReturn c.args.time) (sym c.self.view_is) c.requires)

pub returns : goal.returns
returns c =
    let run : Run = record { book = c.self.inside.journal; horizon = c.self.inside.horizon } in
    subst (λ (old : Run). HasReturned c.args.time old (record run { book = c.roll_back.new.self })) c.self.view_is
    (has_returned c.args.time run c.roll_back.new.self (subst (MayReturn c.args.time) (sym c.self.view_is) c.requires) c.roll_back.ensures)

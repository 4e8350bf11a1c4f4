use Rattle.std.proofs.Common.{subst}
use Rattle.warp_engine.specs.Runs.{Run, HasDropped}
use Rattle.warp_engine.proofs.Running.{has_dropped}
use Rattle.warp_engine.proofs.engine.Engine.forget_below.Goals as goal

pub returns : goal.returns
returns c =
    let run : Run = record { book = c.self.inside.journal; horizon = c.self.inside.horizon } in
    subst (λ (old : Run). HasDropped c.args.time old (record run { book = c.forget_below.new.self })) c.self.view_is (has_dropped c.args.time run c.forget_below.new.self c.forget_below.ensures)

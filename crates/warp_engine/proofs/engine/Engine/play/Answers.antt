use Rattle.std.proofs.Common.{sym, subst}
use Rattle.warp_journal.specs.Books.{HasPlayed, HasStayed}
use Rattle.warp_engine.specs.Runs.{Run, MayRun, HasRun, HasRested}
use Rattle.warp_engine.proofs.Running.{may_play, has_run, has_rested, on_ok, on_err}
use Rattle.warp_engine.proofs.engine.Engine.play.Goals as goal

pub advance-requires-clause-may : goal.advance-requires-clause-may
advance-requires-clause-may c =
    let run : Run = record { book = c.self.inside.journal; horizon = c.self.inside.horizon } in
    may_play c.args.time c.args.outside.now run (subst (MayRun c.args.time c.args.outside.now) (sym c.self.view_is) c.requires.may)

pub returns-clause-ok : goal.returns-clause-ok
returns-clause-ok c =
    let run : Run = record { book = c.self.inside.journal; horizon = c.self.inside.horizon } in
    let may : MayRun c.args.time c.args.outside.now run = subst (MayRun c.args.time c.args.outside.now) (sym c.self.view_is) c.requires.may in
    on_ok c.advance.result (HasPlayed c.args.time c.args.outside.now run.book c.advance.new.self) (HasRun c.args.time c.args.outside.now c.args.self.now (record run { book = c.advance.new.self }))
    (λ played. subst (λ (old : Run). HasRun c.args.time c.args.outside.now old (record run { book = c.advance.new.self })) c.self.view_is (has_run c.args.time c.args.outside.now run c.advance.new.self may played)) c.advance.ensures.ok

pub returns-clause-err : goal.returns-clause-err
returns-clause-err c =
    let run : Run = record { book = c.self.inside.journal; horizon = c.self.inside.horizon } in
    on_err c.advance.result (HasStayed c.args.time c.args.outside.now run.book c.advance.new.self) (HasRested c.args.time c.args.outside.now c.args.self.now (record run { book = c.advance.new.self }))
    (λ stayed. subst (λ (old : Run). HasRested c.args.time c.args.outside.now old (record run { book = c.advance.new.self })) c.self.view_is (has_rested c.args.time c.args.outside.now run c.advance.new.self stayed)) c.advance.ensures.err

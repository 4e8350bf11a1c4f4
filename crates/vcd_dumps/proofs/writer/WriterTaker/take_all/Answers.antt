use Rattle.std.proofs.Common.{ℕ, ◌++◌, map, sym, subst}
use Rattle.net_waves.specs.Timeline.{stop_by}
use Rattle.vcd_dumps.specs.Shown.Written.{HasTaken}
use Rattle.vcd_dumps.proofs.writer.WriterTaker.take_all.Goals as goal

pub returns-then-time-eq0 : goal.returns-then-time-eq0
returns-then-time-eq0 c = λ done head nets stops taken.
    subst (λ (time : ℕ). HasTaken head nets (stops ++ map (stop_by time) c.args.moves.now) c.take_now.new.self) (sym c.if-time-eq0.true) (c.take_now.ensures done head nets stops taken)

pub returns : goal.returns
returns c = λ done head nets stops taken. c.take_later-done.ensures done head nets stops (c.begin.ensures.taken head nets stops taken)

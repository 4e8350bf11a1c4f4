use Rattle.std.proofs.Common.{◌+◌, subst}
use Rattle.warp_process.specs.Heard.{IsReceived}
use Rattle.warp_process.specs.Played.{played_view}
use Rattle.warp_process.specs.View.{View}
use Rattle.part_engine.specs.Histories.{TellLogs}
use Rattle.warp_alone.proofs.playing.history_of.Goals as goal

pub returns-clause-received : goal.returns-clause-received
returns-clause-received g c = subst IsReceived c.in_ok-heard.ensures c.law.ensures

pub returns-clause-told : goal.returns-clause-told
returns-clause-told g c =
    subst (λ (v : View). TellLogs (played_view v (v.horizon + 1)) c.in_ok-history.history) c.in_ok-heard.ensures c.in_ok-history.ensures

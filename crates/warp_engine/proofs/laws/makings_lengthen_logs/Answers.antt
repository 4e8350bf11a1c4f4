use Rattle.warp_engine.proofs.Running.{log_longer}
use Rattle.warp_engine.proofs.Recalling.{history_logs}
use Rattle.warp_engine.proofs.laws.makings_lengthen_logs.Goals as goal

pub returns-clause-longer : goal.returns-clause-longer
returns-clause-longer c = log_longer

pub returns-clause-all : goal.returns-clause-all
returns-clause-all c = history_logs

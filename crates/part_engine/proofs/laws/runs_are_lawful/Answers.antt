use Rattle.warp_process.proofs.Playing.{played_lawful}
use Rattle.part_engine.proofs.RunLogs.{logs_longer, history_tells, states_are}
use Rattle.part_engine.proofs.laws.runs_are_lawful.Goals as goal

pub returns-clause-lawful : goal.returns-clause-lawful
returns-clause-lawful c = played_lawful

pub returns-clause-longer : goal.returns-clause-longer
returns-clause-longer c = λ v run floor time of low high. logs_longer v run floor of time low high

pub returns-clause-told : goal.returns-clause-told
returns-clause-told c = λ v run floor of mark. history_tells v run floor of mark

pub returns-clause-states : goal.returns-clause-states
returns-clause-states c = states_are

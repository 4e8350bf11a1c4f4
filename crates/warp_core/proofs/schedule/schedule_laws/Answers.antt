use Rattle.warp_core.proofs.ScheduleRefusals.{schedule_of-of_schedule}
use Rattle.warp_core.proofs.schedule.schedule_laws.Goals as goal

pub returns : goal.returns
returns c = schedule_of-of_schedule

use Rattle.event_times.proofs.Spacing.{spaced}
use Rattle.event_times.proofs.laws.are_spaced.Goals as goal

pub returns : goal.returns
returns c = spaced

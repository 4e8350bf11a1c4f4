use Rattle.std.proofs.Common.{sym, subst}
use Rattle.event_times.specs.Marks.{IsRising}
use Rattle.event_times.proofs.Cutting.{rising_take}
use Rattle.event_times.proofs.times.Times.cut_from.Goals as goal

pub invariant_of-self : goal.invariant_of-self
invariant_of-self c = subst (IsRising 0) (sym c.truncate.ensures.items) (rising_take 0 c.count_before-left.result c.self.inside.times.items c.self.invariant)

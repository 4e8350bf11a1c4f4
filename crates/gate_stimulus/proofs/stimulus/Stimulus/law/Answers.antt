use Rattle.gate_stimulus.proofs.Laid.{laid_changes}
use Rattle.gate_stimulus.proofs.stimulus.Stimulus.law.Goals as goal

pub returns : goal.returns
returns c n = rw (← c.self.view_is) (laid_changes c.self.inside.timescale c.self.inside.lists.items c.self.inside.list_of.items c.self.invariant n)

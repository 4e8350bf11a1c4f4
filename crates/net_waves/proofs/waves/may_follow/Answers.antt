use Rattle.gate_values.specs.declared.logic.Logic.TheVariants.{Zero}
use Rattle.gate_values.specs.declared.logic.Change.{Change}
use Rattle.net_waves.proofs.Following.{early, later}
use Rattle.net_waves.proofs.waves.may_follow.Goals as goal

first : Change
first = record { time = 0; value = Zero }

pub returns-then-change-last : goal.returns-then-change-last
unfolding first
returns-then-change-last c = ((λ t. cc), λ follows. absurd (early c.args.changes.now c.args.change first c.in-len1-up.len_at_least c.if-change-last.true follows))

pub returns-else-change-last : goal.returns-else-change-last
unfolding first
returns-else-change-last c = later c.args.changes.now c.args.change first c.differs.result c.in-len1-up.len_at_least c.if-change-last.false c.differs.ensures

use Rattle.std.proofs.Common.{rules}
use Rattle.gate_values.specs.declared.logic.Logic.TheVariants.{Zero}
use Rattle.gate_values.specs.declared.logic.Change.{Change}
use Rattle.net_waves.proofs.Following.{follows-at, wave-more}
use Rattle.net_waves.proofs.waves.is_wave.Goals as goal

first : Change
first = record { time = 0; value = Zero }

pub returns-then-not-may_follow : goal.returns-then-not-may_follow
unfolding first
returns-then-not-may_follow c =
    let refused = c.may_follow.ensures.1 in
    ((λ t. cc), λ wave. let passes = refused (follows-at c.args.changes.now c.loop-at.at first wave c.loop-at-test.true) in search rules)

pub loop-at-preserved : goal.loop-at-preserved
unfolding first
loop-at-preserved c = wave-more c.args.changes.now c.loop-at.at first c.loop-at-test.true c.loop-at.invariant (c.may_follow.ensures.0 (search rules))

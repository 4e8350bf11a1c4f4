use Rattle.std.proofs.Common.{◌+◌, ◌∙◌, ap, subst, sym}
use Rattle.gate_values.specs.Changes.{before_time}
use Rattle.gate_stimulus.specs.Given.{changes_of}
use Rattle.net_waves.specs.Inner.Lists.{IsRising}
use Rattle.net_waves.specs.Waves.{IsWave}
use Rattle.gate_stimulus.proofs.Laid.{its_rising}
use Rattle.warp_core.proofs.Finished.{given_wave}
use Rattle.warp_core.proofs.gathering.told.given_until.Goals as goal

pub until-requires : goal.until-requires
until-requires c = subst IsRising (sym c.changes.ensures) (its_rising (changes_of c.args.stimulus.now c.args.net) (c.law.ensures c.args.net))

pub returns-clause-wave : goal.returns-clause-wave
returns-clause-wave c =
    let e = c.until.ensures ∙ ap (before_time (c.args.horizon + 1)) c.changes.ensures in
    subst IsWave (sym e) (given_wave (changes_of c.args.stimulus.now c.args.net) c.args.horizon c.requires (c.law.ensures c.args.net)).0

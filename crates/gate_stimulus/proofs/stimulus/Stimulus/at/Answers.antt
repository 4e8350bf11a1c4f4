use Rattle.std.proofs.Common.{◌<◌, arith}
use Rattle.gate_stimulus.specs.Given.{changes_of}
use Rattle.gate_stimulus.proofs.Laid.{its_rising}
use Rattle.gate_stimulus.proofs.Latest.{none_until, some_until}
use Rattle.gate_stimulus.proofs.stimulus.Stimulus.at.Goals as goal

pub count_until-count-requires : goal.count_until-count-requires
count_until-count-requires c = rw c.changes-changes.ensures (its_rising (changes_of c.args.self.now c.args.net) (c.law.ensures c.args.net))

pub returns-then-count-eq0 : goal.returns-then-count-eq0
returns-then-count-eq0 c = rw (← c.changes-changes.ensures) (none_until c.changes-changes.result.now c.args.time c.count_until-count.result c.if-count-eq0.true c.count_until-count.ensures.until)

pub returns-else-count-eq0 : goal.returns-else-count-eq0
returns-else-count-eq0 c =
    let pos : 0 < c.count_until-count.result = omega arith in
    rw (← c.changes-changes.ensures) (some_until c.changes-changes.result.now c.args.time c.count_until-count.result _ pos c.count_until-count.ensures.within c.count_until-count.ensures.until)

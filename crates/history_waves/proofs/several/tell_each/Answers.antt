use Rattle.std.proofs.Common.{◌≡◌, ◌≤◌, ℕ, Option, IfSome, List, [], ◌++◌, length, subst, arith}
use Rattle.std.proofs.lemmas.Bool.{eqb-true}
use Rattle.net_waves.specs.declared.timeline.Stop.{Stop}
use Rattle.net_waves.specs.ByTime.{stops_in}
use Rattle.history_waves.specs.Inner.Pending.{AreMore, AreRead}
use Rattle.history_waves.proofs.Pending.{left_all, more_told, none_read}
use Rattle.history_waves.proofs.several.tell_each.Goals as goal

pub returns-in-Some-3 : goal.returns-in-Some-3
returns-in-Some-3 c =
    let given = c.args.given.now in
    let mid = stops_in c.loop.by_time in
    let last = stops_in c.tell_given.new.taker in
    let late = subst (λ (o : Option ℕ). IfSome o (λ next. (next ≤ length given) × ((more : List Stop) × (last ≡ mid ++ more) × AreMore given c.loop.told next [] more))) c.in-Some-3.is c.in_ok-all.ensures in
    let more = more_told given c.loop.told c.in-Some-3.all mid last late.1.0 late.1.1 late.1.2 in
    let read : AreRead c.loop.untold = none_read c.first_head.result _ c.if-is_some.ensures c.first_head.ensures in
    λ all. left_all given c.loop.told c.in-Some-3.all c.args.untold.now c.loop.untold (stops_in c.args.by_time.now) mid last c.requires.none c.loop.invariant.1 read more (let same = eqb-true c.in-Some-3.all (length given) all in omega (arith, same))

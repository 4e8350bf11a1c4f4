use Rattle.std.proofs.Common.{◌≡◌, ◌+◌, ◌≤◌, ℕ, Option, IfSome, List, [], ◌++◌, length, refl, sym, subst, arith}
use Rattle.std.proofs.lemmas.Bool.{eqb-true}
use Rattle.net_waves.specs.declared.timeline.Stop.{Stop}
use Rattle.warp_stores.specs.Dated.{at, before, undated}
use Rattle.warp_stores.proofs.Times.{before_since}
use Rattle.history_waves.specs.Inner.Pending.{AreMore, AreTold}
use Rattle.history_waves.proofs.Pending.{but_all, but_more, but_end}
use Rattle.history_waves.proofs.Reading.{read_now, read_less}
use Rattle.history_waves.proofs.telling.tell_all.Goals as goal

pub loop-time-init : goal.loop-time-init
loop-time-init g c = (omega arith, ([], g.met.T.Taker.nothing c.args.taker.now, but_all c.args.own.now c.args.given.now [] c.args.words.now refl))

pub loop-time-smaller : goal.loop-time-smaller
loop-time-smaller g c = rw c.take_before-now.ensures.left (read_less c.in-Some.time c.loop-time.words (sym c.in-Some.ensures.first))

pub loop-time-preserved : goal.loop-time-preserved
loop-time-preserved g c =
    let time = c.in-Some.time in
    let left = c.loop-time.words in
    let own = c.args.own.now in
    let given = c.args.given.now in
    let taken = c.take_before-now.ensures in
    let so_far = c.loop-time.invariant.1 in
    let now : at time (undated (before (time + 1) left)) ≡ before (time + 1) left = read_now time left c.law.ensures (sym c.in-Some.ensures.first) in
    let rest : at time c.take_before-now.result.now ++ c.take_before-now.new.self ≡ left = rw (taken.taken, taken.left, now) (before_since (time + 1) 0 left c.law.ensures) in
    let early = subst
    (λ (o : Option ℕ). IfSome o (λ next. (next ≤ length given) × ((more : List Stop) × g.T.Taker.took c.loop-time.taker c.tell_given.new.taker more × AreMore given c.loop-time.told next [] more)))
    c.in-Some-2.is c.in_ok-before.ensures in
    let late = subst
    (λ (o : Option ℕ). IfSome o (λ next. (next ≤ length given) × ((more : List Stop) × g.T.Taker.took c.tell_given.new.taker c.tell_time.new.taker more × AreTold own given c.in-Some-2.before next (at time c.take_before-now.result.now) [] more)))
    c.in-Some-3.is c.in_ok-next.ensures in
    let some = early.1.0 in
    let others = late.1.0 in
    let both = g.met.T.Taker.together c.loop-time.taker c.tell_given.new.taker c.tell_time.new.taker some others early.1.1 late.1.1 in (
      late.0,
      (
        so_far.0 ++ (some ++ others),
        g.met.T.Taker.together c.args.taker.now c.loop-time.taker c.tell_time.new.taker so_far.0 (some ++ others) so_far.1 both,
        but_more own given c.loop-time.told c.in-Some-2.before c.in-Some-3.next time c.take_before-now.result.now left c.take_before-now.new.self c.args.words.now so_far.0 some others so_far.2 early.1.2 late.1.2 rest,
      ),
    )

pub returns-in-Some-4 : goal.returns-in-Some-4
returns-in-Some-4 g c =
    let given = c.args.given.now in
    let so_far = c.loop-time.invariant.1 in
    let late = subst
    (λ (o : Option ℕ). IfSome o (λ next. (next ≤ length given) × ((more : List Stop) × g.T.Taker.took c.loop-time.taker c.tell_given-2.new.taker more × AreMore given c.loop-time.told next [] more)))
    c.in-Some-4.is c.in_ok-all.ensures in
    λ all. (
      so_far.0 ++ late.1.0,
      g.met.T.Taker.together c.args.taker.now c.loop-time.taker c.tell_given-2.new.taker so_far.0 late.1.0 so_far.1 late.1.1,
      but_end c.args.own.now given c.loop-time.told c.in-Some-4.all c.loop-time.words c.args.words.now so_far.0 late.1.0 so_far.2 late.1.2 (sym c.in_default.ensures.first) (let same = eqb-true c.in-Some-4.all (length given) all in omega (arith, same)),
    )

use Rattle.std.proofs.Common.{◌≡◌, ◌≤◌, ◌∙◌, ℕ, Option, IfSome, List, [], ◌++◌, map, length, ap, subst}
use Rattle.net_waves.specs.declared.timeline.NetMove.{NetMove}
use Rattle.net_waves.specs.declared.timeline.Stop.{Stop}
use Rattle.net_waves.specs.ByTime.{stops_in}
use Rattle.net_waves.specs.Timeline.{stop_by}
use Rattle.history_waves.specs.Inner.Pending.{AreMore}
use Rattle.history_waves.proofs.Pending.{left_time, more_told}
use Rattle.history_waves.proofs.several.tell_next.Goals as goal

pub returns-then-branch : goal.returns-then-branch
returns-then-branch c =
    let given = c.args.given.now in
    let mid = stops_in c.tell_given.new.taker in
    let moves = c.list_next.new.moves.items in
    let early = subst
    (λ (o : Option ℕ). IfSome o (λ next. (next ≤ length given) × ((more : List Stop) × (mid ≡ stops_in c.args.by_time.now ++ more) × AreMore given c.args.from next [] more)))
    c.in-Some.is c.in_ok-before.ensures in
    let before = more_told given c.args.from c.in-Some.before (stops_in c.args.by_time.now) mid early.1.0 early.1.1 early.1.2 in
    let appended : stops_in c.append_all.new.self ≡ mid ++ map (stop_by c.args.time) moves = c.in_ok-append_all.ensures.appended c.if-branch.true ∙ ap (λ (ms : List NetMove). mid ++ map (stop_by c.args.time) ms) c.as_slice.ensures.value in (
      c.in_ok-next.ensures.within,
      left_time given c.args.from c.in-Some.before c.in_ok-next.next c.args.time c.args.untold.now c.list_next.new.untold moves (stops_in c.args.by_time.now) mid (stops_in c.append_all.new.self) before c.in_ok-next.ensures.taken appended,
    )

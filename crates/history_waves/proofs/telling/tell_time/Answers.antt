use Rattle.std.proofs.Common.{List, [], map, refl, subst}
use Rattle.net_waves.specs.declared.timeline.NetMove.{NetMove}
use Rattle.net_waves.specs.Timeline.{stop_by}
use Rattle.warp_stores.specs.Dated.{at}
use Rattle.history_waves.proofs.Pending.{told_time}
use Rattle.history_waves.proofs.telling.tell_time.Goals as goal

pub returns-then-branch : goal.returns-then-branch
returns-then-branch g c =
    let moves = c.list_given.new.moves.items in
    let stops = map (stop_by c.args.time) moves in (
      c.in_ok-next.ensures.within.1,
      (
        stops,
        subst (λ (ms : List NetMove). g.T.Taker.took c.args.taker.now c.take_all.new.self (map (stop_by c.args.time) ms)) c.as_slice.ensures.value (c.in_ok-take_all.ensures c.if-branch.true),
        told_time c.args.own.now c.args.given.now c.args.from c.in_ok-some.some c.in_ok-next.next c.args.time (at c.args.time c.args.words.now) c.list_time.new.moves.items moves [] stops
            (rw c.clear.ensures.items at c.in_ok-some.ensures.listed) c.in_ok-next.ensures.listed refl,
      ),
    )

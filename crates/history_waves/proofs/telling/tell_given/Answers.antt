use Rattle.std.proofs.Common.{ℕ, List, [], ◌++◌, map, get_or, refl, subst}
use Rattle.gate_values.specs.declared.logic.Logic.TheVariants.{Zero}
use Rattle.net_waves.specs.declared.timeline.NetMove.{NetMove}
use Rattle.net_waves.specs.declared.timeline.Stop.{Stop}
use Rattle.net_waves.specs.Timeline.{stop_by}
use Rattle.history_waves.proofs.Pending.{more_given}
use Rattle.history_waves.proofs.telling.tell_given.Goals as goal

pub loop-next-init : goal.loop-next-init
loop-next-init g c = (c.requires, ([], g.met.T.Taker.nothing c.args.taker.now, λ s. refl))

pub loop-next-preserved : goal.loop-next-preserved
loop-next-preserved g c =
    let given = c.args.given.now in
    let none : Stop = record { time = 0; net = 0; value = Zero } in
    let time : ℕ = (get_or given c.loop-next.next none).time in
    let so_far = c.loop-next.invariant.1 in
    let moves = c.list_given.new.moves.items in
    let took = subst (λ (ms : List NetMove). g.T.Taker.took c.loop-next.taker c.take_all.new.self (map (stop_by time) ms)) c.as_slice.ensures.value (c.in_ok-take_all.ensures c.if-not-branch.false) in (
      c.in_ok-more.ensures.within.1,
      (
        so_far.0 ++ map (stop_by time) moves,
        g.met.T.Taker.together c.args.taker.now c.loop-next.taker c.take_all.new.self so_far.0 (map (stop_by time) moves) so_far.1 took,
        more_given given c.args.from c.loop-next.next c.in_ok-more.more time moves [] so_far.0 (so_far.0 ++ map (stop_by time) moves) so_far.2 (rw c.clear.ensures.items at c.in_ok-more.ensures.listed) refl,
      ),
    )

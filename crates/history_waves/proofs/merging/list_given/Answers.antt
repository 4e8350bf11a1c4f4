use Rattle.std.proofs.Common.{◌≡◌, ℕ, get_or, sym, ap, arith}
use Rattle.gate_values.specs.declared.logic.Logic.TheVariants.{Zero}
use Rattle.net_waves.specs.declared.timeline.NetMove.{NetMove}
use Rattle.net_waves.specs.declared.timeline.Stop.{Stop}
use Rattle.net_waves.specs.Timeline.{stop_by}
use Rattle.history_waves.proofs.Pending.{given_more}
use Rattle.history_waves.proofs.merging.list_given.Goals as goal

pub loop-next-preserved : goal.loop-next-preserved
loop-next-preserved c =
    let h = c.loop-next.invariant in
    let given = c.args.given.now in
    let n = c.loop-next.next in
    let none : Stop = record { time = 0; net = 0; value = Zero } in
    let m : NetMove = record { net = (get_or given n none).net; value = (get_or given n none).value } in
    let same : stop_by c.args.time m ≡ get_or given n none = ap (λ (t : ℕ). record { time = t; net = m.net; value = m.value }) (sym c.if-given-next.true) in (
      omega (arith, h.0),
      omega (arith, c.loop-next-test.true),
      rw c.in_ok-push.ensures.items (given_more given c.args.from n c.args.time c.args.moves.now.items c.loop-next.moves.items none m c.loop-next-test.true same h.2),
    )

use Rattle.std.proofs.Common.{◌≡◌, ◌≤◌, ℕ, ◌+◌, ◌*◌, get_or, drop, map, ap, subst, arith}
use Rattle.gate_values.specs.declared.logic.Logic.TheVariants.{Zero}
use Rattle.net_waves.specs.declared.timeline.NetMove.{NetMove}
use Rattle.net_waves.specs.Timeline.{stop_by}
use Rattle.vcd_dumps.specs.Shown.Written.{Rises}
use Rattle.vcd_dumps.proofs.Writing.{rises_one, rises_all}
use Rattle.vcd_dumps.proofs.writer.place_behind.Goals as goal

abbrev first_move : NetMove
first_move = record { net = 0; value = Zero }

pub loop-one-preserved : goal.loop-one-preserved
loop-one-preserved c = λ end rest.
    let time = c.args.time in
    let moves = c.args.moves.now in
    let at = c.loop-one.one-index in
    let net : c.from-in-loop-one.result ≡ (get_or moves at first_move).net = c.from-in-loop-one.ensures in
    let base : time * c.from.result ≡ time * 1000000 = ap (λ (n : ℕ). time * n) c.from.ensures in
    let here : time * c.from.result + c.from-in-loop-one.result ≡ time * 1000000 + (get_or moves at first_move).net = omega (arith, net, base) in
    let low : c.loop-one.next ≤ time * 1000000 + (get_or moves at first_move).net = let l = c.if-here-next.false in omega (arith, l, here) in
    rises_one c.args.place c.loop-one.next time moves at first_move c.loop-one-test.true c.if-one-ge-NETS.false low c.loop-one.invariant end
    (subst (λ (place : ℕ). Rises (place + 1) (map (stop_by time) (drop (at + 1) moves)) end) here rest)

pub returns : goal.returns
returns c = rises_all c.args.place c.loop-one.next c.args.time c.args.moves.now c.loop-one.one-index (let past = c.loop-one-test.false in omega (arith, past)) c.loop-one.invariant

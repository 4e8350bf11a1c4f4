use Rattle.std.proofs.Common.{◌≡◌, ◌<◌, ◌+◌, ◌∷◌, length, get_or, drop, map, ap, refl, arith}
use Rattle.std.proofs.lemmas.List.{drop_more}
use Rattle.gate_values.specs.declared.logic.Logic.TheVariants.{Zero}
use Rattle.net_waves.specs.declared.timeline.NetMove.{NetMove}
use Rattle.net_waves.specs.Timeline.{stop_by}
use Rattle.vcd_dumps.proofs.Walking.{walked_start, walked_step}
use Rattle.vcd_dumps.proofs.writer.put_moves.Goals as goal

abbrev first_move : NetMove
first_move = record { net = 0; value = Zero }

pub loop-one-init : goal.loop-one-init
loop-one-init g c = walked_start _ _ _ _ _ refl c.requires

pub loop-one-preserved : goal.loop-one-preserved
loop-one-preserved g c =
    let moves = c.args.moves.now in
    let at = c.loop-one.one-index in
    let within : at < length moves = omega (arith, c.loop-one-test.true, c.loop-one.auto.one-index-end) in
    let stop = stop_by c.args.time (get_or moves at first_move) in
    let next : map (stop_by c.args.time) (drop at moves) ≡ stop ∷ map (stop_by c.args.time) (drop (at + 1) moves) = ap (map (stop_by c.args.time)) (drop_more moves at first_move within) in
    walked_step _ _ _ _ _ _ _ _ (map (stop_by c.args.time) (drop at moves)) (map (stop_by c.args.time) (drop (at + 1) moves)) _ stop c.loop-one.invariant next c.put_stop.ensures

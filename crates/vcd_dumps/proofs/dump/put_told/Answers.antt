use Rattle.std.proofs.Common.{◌≡◌, ◌<◌, ◌+◌, ◌∷◌, length, get_or, drop, map, ap, refl, arith}
use Rattle.std.proofs.lemmas.List.{drop_more}
use Rattle.byte_sinks.specs.Lots.{Passes}
use Rattle.net_waves.specs.Packed.{told}
use Rattle.vcd_dumps.specs.Walk.{stop_lines}
use Rattle.vcd_dumps.proofs.Walking.{walked_start, walked_step}
use Rattle.vcd_dumps.proofs.dump.put_told.Goals as goal

pub loop-word-init : goal.loop-word-init
loop-word-init g c = walked_start _ _ _ _ _ refl c.requires

pub loop-word-preserved : goal.loop-word-preserved
loop-word-preserved g c =
    let words = c.args.words.now in
    let at = c.loop-word.word-index in
    let within : at < length words = omega (arith, c.loop-word-test.true, c.loop-word.auto.word-index-end) in
    let stop = told c.args.time (get_or words at 0) in
    let next : map (told c.args.time) (drop at words) ≡ stop ∷ map (told c.args.time) (drop (at + 1) words) = ap (map (told c.args.time)) (drop_more words at 0 within) in
    let put : Passes (g.S.Sink.held c.loop-word.sink) (g.S.Sink.held c.put_stop.new.sink) c.loop-word.lot (stop_lines c.loop-word.last stop.time stop.net stop.value) c.put_stop.new.lot = rw c.stop_at.ensures at c.put_stop.ensures in
    walked_step _ _ _ _ _ _ _ _ (map (told c.args.time) (drop at words)) (map (told c.args.time) (drop (at + 1) words)) _ stop c.loop-word.invariant next put

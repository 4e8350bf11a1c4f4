use Rattle.std.proofs.Common.{◌≡◌, ◌<◌, ◌+◌, ◌∷◌, length, get_or, drop, ap, refl, arith}
use Rattle.std.proofs.lemmas.List.{drop_more}
use Rattle.byte_sinks.specs.Lots.{Passes}
use Rattle.net_waves.specs.Keys.{stop_of, stops_of_keys}
use Rattle.vcd_dumps.specs.Walk.{stop_lines}
use Rattle.vcd_dumps.proofs.Walking.{walked_start, walked_step}
use Rattle.vcd_dumps.proofs.dump.put_keys.Goals as goal

pub loop-key-init : goal.loop-key-init
loop-key-init g c = walked_start _ _ _ _ _ refl c.requires

pub loop-key-preserved : goal.loop-key-preserved
loop-key-preserved g c =
    let keys = c.args.keys.now in
    let at = c.loop-key.key-index in
    let within : at < length keys = omega (arith, c.loop-key-test.true, c.loop-key.auto.key-index-end) in
    let stop = stop_of (get_or keys at 0) in
    let next : stops_of_keys (drop at keys) ≡ stop ∷ stops_of_keys (drop (at + 1) keys) = ap stops_of_keys (drop_more keys at 0 within) in
    let put : Passes (g.S.Sink.held c.loop-key.sink) (g.S.Sink.held c.put_stop.new.sink) c.loop-key.lot (stop_lines c.loop-key.last stop.time stop.net stop.value) c.put_stop.new.lot = rw c.stop_of-stop.ensures at c.put_stop.ensures in
    rw c.stop_of-stop.ensures (walked_step _ _ _ _ _ _ _ _ (stops_of_keys (drop at keys)) (stops_of_keys (drop (at + 1) keys)) _ stop c.loop-key.invariant next put)

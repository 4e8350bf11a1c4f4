use Rattle.std.proofs.Common.{◌≡◌, suc, length}
use Rattle.net_waves.specs.Waves.{wave_value}
use Rattle.net_waves.specs.Keys.{stops_of_keys}
use Rattle.vcd_dumps.specs.Walk.{last_stop}
use Rattle.byte_sinks.proofs.Passing.{passes_then}
use Rattle.vcd_dumps.proofs.Stops.{moments-walked, all_stops}
use Rattle.vcd_dumps.proofs.KeyWalk.{keys-all, keys-known}
use Rattle.vcd_dumps.proofs.dump.put_keyed.Goals as goal

pub put_keys-last-requires : goal.put_keys-last-requires
put_keys-last-requires g c =
    let all = keys-all g.lists c.args.keyed.now c.args.horizon c.law.ensures c.requires.1.1.1.1 c.requires.1.1.1.0 c.requires.1.1.0 in
    rw c.keys.ensures (keys-known g.lists c.args.keyed.now c.args.horizon all c.requires.1.0)

pub returns : goal.returns
returns g c =
    let lists = g.lists in
    let keys : c.keys.result.now ≡ c.args.keyed.now = c.keys.ensures in
    let all : stops_of_keys c.args.keyed.now ≡ all_stops (wave_value lists) (length lists) (suc c.args.horizon) =
    keys-all lists c.args.keyed.now c.args.horizon c.law.ensures c.requires.1.1.1.1 c.requires.1.1.1.0 c.requires.1.1.0 in
    let text = rw keys at c.put_keys-last.ensures.text in
    let last : c.put_keys-last.result ≡ last_stop 0 (stops_of_keys c.args.keyed.now) = rw keys at c.put_keys-last.ensures.last in
    rw (moments-walked (wave_value lists) (length lists) c.args.horizon, ← all, ← last) (passes_then text c.put_tail.ensures)

use Rattle.std.proofs.Common.{◌≡◌, suc, length}
use Rattle.net_waves.specs.Packed.{all_told}
use Rattle.net_waves.specs.Waves.{wave_value}
use Rattle.vcd_dumps.specs.Walk.{last_stop}
use Rattle.byte_sinks.proofs.Passing.{passes_as, passes_then}
use Rattle.vcd_dumps.proofs.Stops.{moments-walked, all_stops}
use Rattle.vcd_dumps.proofs.PackedWalk.{told-all, all-known}
use Rattle.vcd_dumps.proofs.dump.put_words.Goals as goal

pub put_times-last-requires-clause-known : goal.put_times-last-requires-clause-known
put_times-last-requires-clause-known g c =
    let all = told-all g.lists c.args.packed.now c.args.horizon c.law.ensures c.requires.1.1.1.1 c.requires.1.1.1.0 c.requires.1.1.0 in
    all-known g.lists c.args.packed.now c.args.horizon all c.requires.1.0

pub returns : goal.returns
returns g c =
    let lists = g.lists in
    let all : all_told c.args.packed.now ≡ all_stops (wave_value lists) (length lists) (suc c.args.horizon) =
    told-all lists c.args.packed.now c.args.horizon c.law.ensures c.requires.1.1.1.1 c.requires.1.1.1.0 c.requires.1.1.0 in
    let told = rw c.times.ensures at c.put_times-last.ensures.text in
    let last : c.put_times-last.result ≡ last_stop 0 (all_told c.args.packed.now) = rw c.times.ensures at c.put_times-last.ensures.last in
    rw (moments-walked (wave_value lists) (length lists) c.args.horizon, ← all, ← last) (passes_then (passes_as told.all told.went) c.put_tail.ensures)

use Rattle.std.proofs.Common.{length, suc, arith, length-take}
use Rattle.net_waves.specs.Waves.{wave_value}
use Rattle.net_waves.specs.Merging.{lefts}
use Rattle.byte_sinks.proofs.Passing.{passes_then}
use Rattle.vcd_dumps.proofs.Stops.{moments-walked, known_below, all_stops, all_stops-rising}
use Rattle.vcd_dumps.proofs.WaveStops.{stops_are}
use Rattle.vcd_dumps.proofs.MergedLaws.{merged_start, merged_known, merged_step, merged_smaller, merged_end}
use Rattle.vcd_dumps.proofs.dump.put_runs.Goals as goal

pub slice_bounds-all-end : goal.slice_bounds-all-end
slice_bounds-all-end g c = omega (arith, c.runs.ensures, c.all_runs-all.ensures.room, c.all_runs-all.ensures.law.few)

pub slice_bounds-runs-end : goal.slice_bounds-runs-end
slice_bounds-runs-end g c = omega (arith, c.runs.ensures, c.all_runs-all.ensures.room, c.all_runs-all.ensures.law.few, length-take c.runs.result c.all_runs-all.result)

pub loop-run-init : goal.loop-run-init
loop-run-init g c =
    let lists = g.lists in
    merged_start _ _ c.args.timeline.now c.all_runs-all.result c.runs.result (all_stops (wave_value lists) (length lists) (suc c.args.horizon)) c.all_runs-all.ensures.law c.runs.ensures
    (omega (arith, c.all_runs-all.ensures.room, c.all_runs-all.ensures.law.few)) c.all_runs-all.ensures.runs (all_stops-rising (wave_value lists) (length lists) (suc c.args.horizon))
    (stops_are lists c.args.timeline.now.stops c.args.horizon c.requires.1.1.1.1 c.requires.1.1.1.0 c.requires.1.1.0)
    (known_below (wave_value lists) (length lists) 1000000 (suc c.args.horizon) c.requires.1.0)

pub put_stops-last-requires : goal.put_stops-last-requires
put_stops-last-requires g c = merged_known _ _ _ _ _ c.loop-run.runs _ c.in-Some.run' c.in-Some.count c.split_at.result.0.now c.loop-run.invariant c.in-Some.ensures.some c.split_at.ensures.front

pub loop-run-smaller : goal.loop-run-smaller
loop-run-smaller g c = merged_smaller _ _ _ _ _ c.loop-run.runs _ c.in-Some.run' c.in-Some.count c.split_at.result.0.now c.loop-run.invariant c.in-Some.ensures.some c.split_at.ensures.front c.split_at.result.1 c.split_at.ensures.back

pub loop-run-preserved : goal.loop-run-preserved
loop-run-preserved g c = merged_step _ _ _ _ _ c.loop-run.runs _ c.in-Some.run' c.in-Some.count c.split_at.result.0.now c.loop-run.invariant c.in-Some.ensures.some c.split_at.ensures.front c.split_at.result.1 c.split_at.ensures.back _ _ _ c.put_stops-last.ensures.text c.put_stops-last.ensures.last

pub returns : goal.returns
returns g c =
    let lists = g.lists in
    let ended = merged_end _ _ _ _ _ (lefts c.loop-run.runs) _ c.loop-run.invariant c.in_default.ensures.none in
    rw (moments-walked (wave_value lists) (length lists) c.args.horizon, ← ended.1) (passes_then ended.0 c.put_tail.ensures)

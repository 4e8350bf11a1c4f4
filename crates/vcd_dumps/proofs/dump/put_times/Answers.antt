use Rattle.std.proofs.Common.{◌<◌, add-one, arith}
use Rattle.net_waves.specs.Packed.{times}
use Rattle.vcd_dumps.proofs.Walking.{goes_none}
use Rattle.vcd_dumps.proofs.PackedWalk.{told-known, told-more}
use Rattle.vcd_dumps.proofs.dump.put_times.Goals as goal

pub loop-time-init : goal.loop-time-init
loop-time-init g c = record { text = goes_none _ _ _; end = c.requires.last }

pub put_told-last-requires : goal.put_told-last-requires
put_told-last-requires g c =
    let known : c.loop-time.time < times c.args.packed.now = omega (arith, c.loop-time-test.true, c.requires.within) in
    rw c.words.ensures (told-known c.args.packed.now c.loop-time.time c.requires.known known)

pub loop-time-preserved : goal.loop-time-preserved
loop-time-preserved g c =
    rw add-one (told-more _ _ _ _ _ _ _ _ c.args.packed.now c.args.from c.loop-time.time c.loop-time.invariant (rw c.words.ensures at c.put_told-last.ensures.text) (rw c.words.ensures at c.put_told-last.ensures.last))

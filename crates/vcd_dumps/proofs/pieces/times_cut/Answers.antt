use Rattle.std.proofs.Common.{◌+◌, arith}
use Rattle.net_waves.specs.Packed.{times}
use Rattle.vcd_dumps.proofs.PieceLaws.{open-later, open-push, cuts-end}
use Rattle.vcd_dumps.proofs.pieces.times_cut.Goals as goal
use Rattle.vcd_dumps.proofs.pieces.times_cut.Goals.{then-words-share+then-len-workers+in_ok-push-2, else-words-share}

pub loop-time-preserved : goal.loop-time-preserved
loop-time-preserved c =
    let cuts = c.loop-time.cuts.items in
    let time = c.loop-time.time in
    elim c.if-words-share.branch [
      | then-words-share+then-len-workers+in_ok-push-2 w ↦ rw (w.cuts-is, w.in_ok-push-2.ensures.items) (open-later _ time (time + 1) (open-push cuts time time c.loop-time.invariant (omega arith)) (omega arith))
      | else-words-share w ↦ rw w.cuts-is (open-later cuts time (time + 1) c.loop-time.invariant (omega arith))
    ]

pub returns : goal.returns
returns c =
    rw (c.in_ok-push-3.ensures.items, c.times.ensures)
    (cuts-end c.loop-time.cuts.items c.loop-time.time (times c.args.packed.now) c.loop-time.invariant (omega (arith, c.loop-time.auto.time-end, c.times-time-end.ensures)))

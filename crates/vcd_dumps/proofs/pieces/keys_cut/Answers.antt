use Rattle.vcd_dumps.proofs.PieceLaws.{cuts-end}
use Rattle.vcd_dumps.proofs.pieces.keys_cut.Goals as goal

pub returns : goal.returns
returns c =
    let (last, near, within, are) = c.loop-at.invariant in
    rw c.in_ok-push-3.ensures.items (cuts-end c.loop-at.cuts.items last c.args.keys are within)

use Rattle.std.proofs.Common.{◌∙◌, codes}
use Rattle.warp_text.proofs.Simulating.{dump-means}
use Rattle.warp_text.proofs.replay.replay_on.Goals as goal

pub returns : goal.returns
returns c =
    let (r, read, means) = c.in_ok-stimulus.ensures in (
      r,
      read,
      c.in_ok-events.events.items,
      c.in_ok-events.ensures,
      (
        (c.in_ok-stimulus.stimulus, means, (rw c.as_slice.ensures.value at c.in_ok-waves.ensures.played)),
        (rw c.until.ensures at c.in_ok-dump_of.ensures) ∙ dump-means (codes "top") c.args.circuit.now r c.in_ok-stimulus.stimulus c.args.options.now.until means,
      ),
    )

use Rattle.std.proofs.Common.{◌∙◌}
use Rattle.warp_text.proofs.Telling.{told-means}
use Rattle.warp_text.proofs.told.told_replayed.Goals as goal

pub returns : goal.returns
returns c =
    let (r, read, means) = c.in_ok-stimulus.ensures in (
      r,
      read,
      c.in_ok-events.events.items,
      c.in_ok-events.ensures,
      (
        (c.in_ok-stimulus.stimulus, means, (rw c.as_slice.ensures.value at c.in_ok-waves.ensures.played)),
        (rw c.until.ensures at c.in_ok-told_dump_of.ensures) ∙ told-means c.args.told.now c.args.circuit.now r c.in_ok-stimulus.stimulus c.args.options.now.until means,
      ),
    )

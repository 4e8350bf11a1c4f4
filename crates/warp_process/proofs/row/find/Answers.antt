use Rattle.std.proofs.Common.{ap, ◌∙◌}
use Rattle.warp_process.proofs.RowOrder.{place_of, lacks-split}
use Rattle.warp_process.proofs.RowEdits.{split-lacking}
use Rattle.warp_process.proofs.row.find.Goals as goal

pub returns-in_default-clause-belongs : goal.returns-in_default-clause-belongs
returns-in_default-clause-belongs c =
    let before = c.count_before-at.ensures in
    let read = c.in-Some.ensures.lookup in (
      before.within,
      split-lacking c.args.row.now c.args.place c.count_before-at.result before.split
          (lacks-split c.args.row.now c.args.place c.count_before-at.result c.requires.in_order before.split
          (λ d l same. c.if-place.false (c.place.ensures ∙ (ap place_of (read.3.1 d) ∙ same)))),
    )

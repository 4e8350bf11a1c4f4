use Rattle.std.proofs.Common.{◌<◌, get_or, ◌∙◌, arith}
use Rattle.std.proofs.lemmas.List.{length-set}
use Rattle.std.proofs.lemmas.List.Elements.{All-get_or}
use Rattle.warp_core.proofs.Ordering.{met_more, twice}
use Rattle.warp_core.proofs.order.meet_each.Goals as goal
use Rattle.warp_core.proofs.order.meet_each.Goals.{then-number-count-via-then-number-count, then-number-count-via-else-number-count+then-met-place}

pub returns-then-number-count-clause-refused : goal.returns-then-number-count-clause-refused
returns-then-number-count-clause-refused c = λ _ is. elim c.then-number-count.branch [
  | then-number-count-via-then-number-count w ↦
      (let below = All-get_or (λ b. b < c.args.count) c.args.order.now c.loop-number.number-index 0 c.loop-number-test.true is.within in absurd (omega (arith, below, w.if-number-count.true)))
  | then-number-count-via-else-number-count+then-met-place w ↦
      twice c.args.count c.args.order.now c.loop-number.number-index c.loop-number.met c.loop-number-test.true (omega (arith, w.if-number-count.false)) w.if-met-place.true c.loop-number.invariant.met is
]

pub loop-number-preserved : goal.loop-number-preserved
loop-number-preserved c =
    let inv = c.loop-number.invariant in
    let room = inv.room in
    record {
      met = met_more c.args.count c.args.order.now c.loop-number.number-index c.loop-number.met c.loop-number-test.true (omega (arith, c.if-number-count.false)) (let r = c.requires.room in omega (arith, r, room)) c.if-met-place.false inv.met;
      room = length-set c.loop-number.met (get_or c.args.order.now c.loop-number.number-index 0) _ ∙ room;
    }

use Rattle.warp_part.proofs.PartMerged.{AreMerged-own, AreMerged-other}
use Rattle.warp_part.proofs.part.merge.put_next.Goals as goal

pub returns-then-comes_first-clause-merged : goal.returns-then-comes_first-clause-merged
returns-then-comes_first-clause-merged c =
    let next = c.comes_first.ensures.first c.if-comes_first.true in
    rw (c.in_ok-put.ensures.nets, c.in_ok-put.ensures.used)
    (AreMerged-own c.args.own.now c.args.marks.now c.args.others.now c.requires.apart c.args.places.own c.args.places.other c.args.nets.now.items c.args.used.now.items next.0 next.1 c.requires.merged)

pub returns-clause-merged : goal.returns-clause-merged
returns-clause-merged c =
    let next = c.comes_first.ensures.second c.if-comes_first.false in
    rw (c.in_ok-put-2.ensures.nets, c.in_ok-put-2.ensures.used)
    (AreMerged-other c.args.own.now c.args.marks.now c.args.others.now c.requires.apart c.args.places.own c.args.places.other c.args.nets.now.items c.args.used.now.items next.0 next.1 c.requires.merged)

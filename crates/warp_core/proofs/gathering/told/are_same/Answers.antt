use Rattle.std.proofs.Common.{refl, arith}
use Rattle.std.proofs.lemmas.List.{same_lists}
use Rattle.warp_core.proofs.gathering.told.are_same.Goals as goal

pub returns : goal.returns
returns c = (
  λ yes_. same_lists c.args.list.now c.args.changes.now c.if-list-changes.false (λ k d l. c.loop-at.invariant k d (omega (arith, l, c.loop-at-test.false))),
  λ same. refl,
)

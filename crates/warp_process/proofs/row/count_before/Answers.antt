use Rattle.std.proofs.Common.{◌<◌, ◌-◌, arith, subst}
use Rattle.warp_process.specs.Rows.{Standing}
use Rattle.warp_process.proofs.Rising.{up_to-before}
use Rattle.warp_process.proofs.row.count_before.Goals as goal

pub returns-then-place-clause-split : goal.returns-then-place-clause-split
returns-then-place-clause-split c = (
  λ k d low high. up_to-before (λ (e : Standing). e.place) c.args.row.now c.args.place (c.loop-count.count - 1) c.index-row-count.result c.requires.in_order (omega arith)
      (subst (λ (e : Standing). e.place < c.args.place) c.index-row-count.is (omega (arith, c.place.ensures, c.if-place.true))) k d low (omega arith),
  c.loop-count.invariant.late,
)

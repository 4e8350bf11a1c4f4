use Rattle.std.proofs.Common.{◌≡◌, ℕ, subst, sym, arith}
use Rattle.warp_stores.specs.Inner.Least.{AreLater}
use Rattle.warp_stores.proofs.Seats.{seat_one, seat_end}
use Rattle.warp_stores.proofs.least.descend.Goals as goal

-- a seat of one stands for itself
pub returns-clause-within : goal.returns-clause-within
returns-clause-within c =
    let under = c.loop-below.invariant in
    let some = seat_end under.is in
    let same : c.loop-below.below.node ≡ c.loop-below.below.leaf = seat_one c.loop-below.below under.is (omega (arith, c.loop-below-test.false)) in
    (omega (arith, same, under.from), omega (arith, same, under.to, some.1))

pub returns-clause-passed : goal.returns-clause-passed
returns-clause-passed c =
    let under = c.loop-below.invariant in
    let same : c.loop-below.below.node ≡ c.loop-below.below.leaf = seat_one c.loop-below.below under.is (omega (arith, c.loop-below-test.false)) in
    subst (λ (leaf : ℕ). AreLater c.args.time c.args.nodes.now c.args.seat.leaf leaf) (sym same) under.passed

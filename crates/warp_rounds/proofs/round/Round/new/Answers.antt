use Rattle.std.proofs.Common.{rules, ap, arith}
use Rattle.warp_rounds.proofs.Steps.{deal_keeps}
use Rattle.warp_rounds.proofs.round.Round.new.Goals as goal

pub split_seat-requires : goal.split_seat-requires
split_seat-requires c =
    let i = c.loop.invariant in
    let n = ap (λ m. m.0.shares) i.left in
    let t = c.loop-test.true in
    (search rules, search rules, deal_keeps _ _ c.loop.own.id c.loop.own.me.0 (omega arith) (ap (λ m. m.0.marks) i.left) (ap (λ m. m.0.draws) i.left) (ap (λ m. m.0.least) i.left))

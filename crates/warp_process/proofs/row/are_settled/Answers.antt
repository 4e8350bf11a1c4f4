use Rattle.std.proofs.Common.{◌≡◌, true, arith}
use Rattle.warp_process.specs.declared.entry.Entry.{Entry}
use Rattle.warp_process.specs.Entries.{is_settled}
use Rattle.warp_process.proofs.Settled.{settled-none}
use Rattle.warp_process.proofs.RowOrder.{every_place, one_more}
use Rattle.warp_process.proofs.row.are_settled.Goals as goal

pub loop-placed-preserved : goal.loop-placed-preserved
loop-placed-preserved c =
    one_more (λ (e : Entry). is_settled e ≡ true) c.args.row.now c.loop-placed.placed-index c.placed-item.result c.loop-placed-test.true c.placed-item.is
    (rw (← c.entry.ensures) (c.is_settled.ensures.0 c.if-not-is_settled.false)) c.loop-placed.invariant

pub returns : goal.returns
returns c = λ yes_. every_place (λ (e : Entry). is_settled e ≡ true) c.args.row.now settled-none (λ k d l. c.loop-placed.invariant k d (omega (arith, l, c.loop-placed-test.false)))

use Rattle.std.proofs.Common.{◌≡◌, ◌∙◌, ◌<◌, length, ap, sym, arith}
use Rattle.warp_part.proofs.Slots.{slot_is}
use Rattle.warp_process.proofs.Rows.{logs_len}
use Rattle.warp_process.specs.View.{View}
use Rattle.warp_block.proofs.block.Block.log.Goals as goal

pub changes-requires : goal.changes-requires
changes-requires c =
    let seen : View = c.self.inside.kernel.seen in
    let many : length c.self.inside.logs.lists ≡ length seen.part.nets = ap length c.self.invariant ∙ logs_len seen c.law.ensures.seen in
    let there : c.in-Some.slot < length seen.part.nets = (slot_is seen.part.nets c.args.net c.in-Some.slot (sym (rw c.part.ensures at c.in-Some.ensures))).0 in
    omega (arith, there, many)

use Rattle.std.proofs.Common.{sym, ◌∙◌}
use Rattle.warp_part.proofs.Slots.{slot_is}
use Rattle.warp_process.proofs.heard.Heard.entry.Goals as goal

pub returns-in-Some : goal.returns-in-Some
returns-in-Some c =
    let at = slot_is c.self.inside.part.nets c.args.net c.in-Some.slot (sym c.slot.ensures ∙ c.in-Some.is) in
    rw (← at.1, ← c.self.view_is) (rw (← c.self.view_is) at c.entry_at.ensures)

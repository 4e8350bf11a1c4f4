use Rattle.std.proofs.Common.{sym, ◌∙◌}
use Rattle.warp_process.proofs.Hearing.{in_heard, held_entry}
use Rattle.warp_process.proofs.heard.Heard.entry_at.Goals as goal

pub returns : goal.returns
returns c =
    rw (← c.self.view_is) (c.entry.ensures ∙ sym (held_entry c.self.inside c.self.invariant.rows.ordered c.self.invariant.received.part.ascending c.args.slot c.args.time (in_heard c.self.inside c.args.self.now c.args.slot c.self.view_is c.requires)))

use Rattle.std.proofs.Common.{ap, sym, ◌∙◌}
use Rattle.warp_process.specs.Entries.{effective_of}
use Rattle.warp_process.proofs.Hearing.{in_heard, held_entry}
use Rattle.warp_process.proofs.heard.Heard.effective.Goals as goal

pub returns : goal.returns
returns c =
    rw (← c.self.view_is) (c.effective.ensures ∙ ap effective_of (sym (held_entry c.self.inside c.self.invariant.rows.ordered c.self.invariant.received.part.ascending c.args.slot c.args.time (in_heard c.self.inside c.args.self.now c.args.slot c.self.view_is c.requires))))

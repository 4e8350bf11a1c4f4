use Rattle.std.proofs.Common.{◌≡◌, ◌∙◌, min, ap, arith}
use Rattle.warp_stores.specs.Delays.{least_due}
use Rattle.warp_journal.specs.Books.{Parts}
use Rattle.warp_journal.proofs.Parting.{due_parts}
use Rattle.warp_journal.proofs.queues.Queues.due.Goals as goal

pub returns : goal.returns
returns c =
    let parts : Parts = c.args.self.now in
    let r : c.due.result ≡ least_due parts.read = c.due.ensures ∙ ap (λ (p : Parts). least_due p.read) c.self.view_is in
    let u : c.due-2.result ≡ least_due parts.unread = c.due-2.ensures ∙ ap (λ (p : Parts). least_due p.unread) c.self.view_is in
    let least : c.min.result ≡ min (least_due parts.read) (least_due parts.unread) = omega (arith, c.min.ensures, r, u) in
    least ∙ due_parts parts

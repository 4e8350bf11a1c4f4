use Rattle.std.proofs.Common.{◌∙◌}
use Rattle.warp_journal.specs.Books.{Parts}
use Rattle.warp_journal.proofs.Parting.{parts_back}
use Rattle.warp_journal.proofs.queues.Queues.put_back.Goals as goal

pub returns : goal.returns
returns c = λ before r is.
    let mid : Parts = record { read = c.self.inside.read; unread = c.self.inside.unread } in
    parts_back c.args.time before mid (record { read = c.put_back.new.self; unread = c.put_back-2.new.self }) r (c.self.view_is ∙ is) c.put_back.ensures c.put_back-2.ensures

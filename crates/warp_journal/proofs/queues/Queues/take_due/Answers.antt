use Rattle.std.proofs.Common.{List, ap, sym, subst, ◌∙◌}
use Rattle.warp_stores.specs.Delays.{Delayed, AreReadUpTo}
use Rattle.warp_journal.specs.Books.{Parts, all_of}
use Rattle.warp_journal.proofs.Parting.{read_up, unread_up, part_back}
use Rattle.warp_journal.proofs.queues.Queues.take_due.Goals as goal

pub take_due-requires-clause-read : goal.take_due-requires-clause-read
take_due-requires-clause-read c =
    let parts : Parts = record { read = c.self.inside.read; unread = c.self.inside.unread } in
    read_up c.args.time parts (subst (λ (p : Parts). AreReadUpTo c.args.time (all_of p)) (sym c.self.view_is) c.requires.read)

pub take_due-requires-2-clause-read : goal.take_due-requires-2-clause-read
take_due-requires-2-clause-read c =
    let parts : Parts = record { read = c.self.inside.read; unread = c.self.inside.unread } in
    unread_up c.args.time parts (subst (λ (p : Parts). AreReadUpTo c.args.time (all_of p)) (sym c.self.view_is) c.requires.read)

pub returns-in-Err-clause-err : goal.returns-in-Err-clause-err
returns-in-Err-clause-err c =
    let parts : Parts = record { read = c.self.inside.read; unread = c.self.inside.unread } in
    let up : AreReadUpTo c.args.time c.self.inside.read = read_up c.args.time parts (subst (λ (p : Parts). AreReadUpTo c.args.time (all_of p)) (sym c.self.view_is) c.requires.read) in
    ap (λ (qs : List Delayed). record { read = qs; unread = c.take_due-2.new.self }) (part_back c.args.time c.self.inside.read c.take_due.new.self c.put_back.new.self up c.in_ok-take_due.ensures.read c.put_back.ensures)
    ∙ ap (λ (qs : List Delayed). record { read = c.self.inside.read; unread = qs }) c.in-Err.ensures.err
    ∙ c.self.view_is

use Rattle.std.proofs.Common.{◌<◌, length, sym, subst}
use Rattle.std.specs.List.{All, flat_map}
use Rattle.warp_stores.specs.Delays.{made_since}
use Rattle.warp_gates.specs.Cells.{HaveRestored}
use Rattle.warp_journal.specs.Books.{Parts, all_of}
use Rattle.warp_journal.proofs.Restoring.{unread_there, read_there, both_restored}
use Rattle.warp_journal.proofs.stepping.restore_all.Goals as goal

pub restore_from-requires : goal.restore_from-requires
restore_from-requires c =
    let parts : Parts = record { read = c.queues.inside.read; unread = c.queues.inside.unread } in
    unread_there (made_since c.args.step) parts c.args.gates.now c.args.gates.now c.args.gates.now (subst (λ (p : Parts). All (λ w. w.place < length c.args.gates.now.cells) (flat_map (made_since c.args.step) (all_of p))) (sym c.queues.view_is) c.requires)

pub restore_from-requires-2 : goal.restore_from-requires-2
restore_from-requires-2 c =
    let parts : Parts = record { read = c.queues.inside.read; unread = c.queues.inside.unread } in
    read_there (made_since c.args.step) parts c.args.gates.now c.restore_from.new.gates c.restore_from.new.gates (subst (λ (p : Parts). All (λ w. w.place < length c.args.gates.now.cells) (flat_map (made_since c.args.step) (all_of p))) (sym c.queues.view_is) c.requires)
    c.restore_from.ensures.cells

pub returns-clause-outputs : goal.returns-clause-outputs
returns-clause-outputs c =
    let parts : Parts = record { read = c.queues.inside.read; unread = c.queues.inside.unread } in
    subst (λ (p : Parts). HaveRestored (flat_map (made_since c.args.step) (all_of p)) c.args.gates.now c.restore_from-2.new.gates) c.queues.view_is
    (both_restored (made_since c.args.step) parts c.args.gates.now c.restore_from.new.gates c.restore_from-2.new.gates
    (subst (λ (p : Parts). All (λ w. w.place < length c.args.gates.now.cells) (flat_map (made_since c.args.step) (all_of p))) (sym c.queues.view_is) c.requires)
    c.law.ensures.gates c.law-2.ensures.gates c.restore_from.ensures.cells c.restore_from.ensures.outputs c.restore_from-2.ensures.outputs)

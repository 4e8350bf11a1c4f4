use Rattle.std.proofs.Common.{◌∙◌, ◌<◌, length, List, refl, ap, sym, subst}
use Rattle.std.specs.List.{All, flat_map}
use Rattle.warp_stores.specs.Words.{Move}
use Rattle.warp_stores.specs.Delays.{made_since}
use Rattle.warp_gates.specs.Cells.{Cell, unmoved}
use Rattle.warp_journal.specs.Books.{Book, MayGoBack, HasGoneBack, all_of}
use Rattle.warp_journal.proofs.Playing.{back_words, back_puts, gone_back}
use Rattle.warp_journal.proofs.journal.Journal.roll_back.Goals as goal

pub undo-requires : goal.undo-requires
undo-requires c =
    let b : Book = record { mark = c.self.inside.mark; gates = c.self.inside.gates; queues = c.self.inside.queues; history = c.self.inside.history } in
    let may : MayGoBack c.args.time b = subst (MayGoBack c.args.time) (sym c.self.view_is) c.requires in
    subst (All (λ (w : Move). w.place < length b.gates.cells)) (sym c.since.ensures) (back_words c.args.time b may)

pub restore_all-requires : goal.restore_all-requires
restore_all-requires c =
    let b : Book = record { mark = c.self.inside.mark; gates = c.self.inside.gates; queues = c.self.inside.queues; history = c.self.inside.history } in
    let may : MayGoBack c.args.time b = subst (MayGoBack c.args.time) (sym c.self.view_is) c.requires in
    subst (λ (cs : List Cell). All (λ (w : Move). w.place < length cs) (flat_map (made_since c.args.time) (all_of b.queues))) (sym c.undo.ensures.cells) (back_puts c.args.time b may)

pub returns : goal.returns
returns c =
    let b : Book = record { mark = c.self.inside.mark; gates = c.self.inside.gates; queues = c.self.inside.queues; history = c.self.inside.history } in
    let may : MayGoBack c.args.time b = subst (MayGoBack c.args.time) (sym c.self.view_is) c.requires in
    let new : Book = record { mark = c.args.time; gates = c.restore_all.new.gates; queues = c.go_back.new.self; history = c.cut_from.new.self } in
    subst (λ (o : Book). HasGoneBack c.args.time o new) c.self.view_is
    (gone_back c.args.time b may c.undo.new.self c.restore_all.new.gates new c.undo.ensures.cells c.undo.ensures.queues (c.undo.ensures.values ∙ ap (λ (ws : List Move). unmoved ws b.gates.values) c.since.ensures) c.law.ensures.gates c.undo.ensures.outputs
    c.restore_all.ensures.cells c.restore_all.ensures.queues c.restore_all.ensures.values c.law-2.ensures.gates c.restore_all.ensures.outputs refl refl c.cut_from.ensures c.go_back.ensures.read c.go_back.ensures.unread)

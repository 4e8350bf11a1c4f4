use Rattle.std.proofs.Common.{refl, sym, subst}
use Rattle.warp_journal.specs.Books.{Book}
use Rattle.warp_journal.specs.Inner.Playing.{HasPassed, MayPass, IsDueFrom}
use Rattle.warp_journal.proofs.Playing.{passed_quiet}
use Rattle.warp_journal.proofs.journal.Journal.pass.Goals as goal

pub returns-clause-passed : goal.returns-clause-passed
returns-clause-passed c =
    let b : Book = record { mark = c.self.inside.mark; gates = c.self.inside.gates; queues = c.self.inside.queues; history = c.self.inside.history } in
    let new : Book = record { mark = c.args.time; gates = c.self.inside.gates; queues = c.self.inside.queues; history = c.self.inside.history } in
    let may : MayPass c.args.time b = subst (MayPass c.args.time) (sym c.self.view_is) c.requires.may in
    subst (λ (o : Book). HasPassed c.args.time o new) c.self.view_is (passed_quiet c.args.time b new may.ahead (subst (IsDueFrom c.args.time) (sym c.self.view_is) c.requires.due) refl)

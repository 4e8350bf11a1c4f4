use Rattle.std.proofs.Common.{sym, subst}
use Rattle.warp_journal.specs.Books.{Book, MayGoBack, HasGoneBack}
use Rattle.warp_journal.proofs.Playing.{may_return, returned}
use Rattle.warp_journal.proofs.journal.Journal.advance.Goals as goal

pub roll_back-requires : goal.roll_back-requires
roll_back-requires c =
    subst (λ (b : Book). MayGoBack b.mark c.play.new.journal) (sym c.self.view_is)
    (may_return c.args.time c.args.outside.now c.args.self.now c.play.new.journal c.requires.may c.in-Err.ensures.err)

pub returns-in-Err-clause-err : goal.returns-in-Err-clause-err
returns-in-Err-clause-err c =
    returned c.args.time c.args.outside.now c.args.self.now c.play.new.journal c.roll_back.new.self c.in-Err.ensures.err
    (subst (λ (b : Book). HasGoneBack b.mark c.play.new.journal c.roll_back.new.self) c.self.view_is c.roll_back.ensures)

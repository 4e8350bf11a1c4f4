use Rattle.std.proofs.Common.{◌∙◌, take}
use Rattle.warp_stores.specs.Dated.{at}
use Rattle.warp_stores.specs.Shown.Lists.{lists_of}
use Rattle.warp_stores.proofs.Listing.{shorter_again, undated-at}
use Rattle.warp_stores.proofs.lists.Lists.append.Goals as goal

-- those that were put are taken back
pub returns-in-Err-clause-err : goal.returns-in-Err-clause-err
returns-in-Err-clause-err c =
    shorter_again (at c.args.time (take c.in-Err.pushed c.args.words.now)) (take c.in-Err.pushed c.args.words.now) (lists_of c.self.inside.lists.items) (lists_of c.push_all.new.lists.items) (lists_of c.pop_all.new.lists.items) (undated-at c.args.time (take c.in-Err.pushed c.args.words.now)) c.in-Err.ensures.err c.pop_all.ensures ∙ c.self.view_is

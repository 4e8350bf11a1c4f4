use Rattle.warp_rounds.proofs.Resting.{fits_from}
use Rattle.warp_rounds.proofs.site.Held.window.Goals as goal

pub returns : goal.returns
returns g c =
    fits_from c.args.self.now.block.seen c.args.self.now.messages.items c.args.floor c.args.most c.window.result c.args.start c.requires
    c.window.ensures.within c.window.ensures.floor

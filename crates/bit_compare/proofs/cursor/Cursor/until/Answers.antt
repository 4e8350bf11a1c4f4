use Rattle.bit_compare.proofs.Stretches.{holds-until, no_change}
use Rattle.bit_compare.proofs.cursor.Cursor.until.Goals as goal

pub returns : goal.returns
returns c = holds-until c.args.self.now c.requires c.requires.shown.moments c.end.result (λ l. c.end.ensures.within l no_change) c.end.ensures.over

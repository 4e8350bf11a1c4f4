use Rattle.std.proofs.Common.{sym}
use Rattle.bit_compare.proofs.Stretches.{near-never, near-until, no_change}
use Rattle.bit_compare.proofs.cursor.Cursor.near_until.Goals as goal

pub returns-in-Some : goal.returns-in-Some
returns-in-Some c = near-until c.args.self.now c.requires c.requires.shown.moments c.args.value c.in-Some.stretch (sym c.in-Some.ensures) c.end_near.result (λ l. c.end_near.ensures.within l no_change) c.end_near.ensures.over

pub returns-in-None : goal.returns-in-None
returns-in-None c = near-never c.args.self.now c.requires c.requires.shown.moments c.args.value (sym c.in-None.ensures)

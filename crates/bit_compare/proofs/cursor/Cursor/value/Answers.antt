use Rattle.std.proofs.Common.{◌∙◌}
use Rattle.bit_compare.proofs.Stretches.{value-now}
use Rattle.bit_compare.proofs.cursor.Cursor.value.Goals as goal

pub returns : goal.returns
returns c = c.value.ensures ∙ value-now c.args.self.now c.requires c.requires.shown.moments

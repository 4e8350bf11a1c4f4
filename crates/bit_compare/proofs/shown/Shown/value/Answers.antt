use Rattle.std.proofs.Common.{sym, ◌∙◌}
use Rattle.bit_compare.specs.Shown.Moments.{lens_of}
use Rattle.bit_compare.proofs.Moments.{value_after-map}
use Rattle.bit_compare.proofs.shown.Shown.value.Goals as goal

pub returns : goal.returns
returns c = c.value_in.ensures ∙ sym (value_after-map (lens_of c.args.self.now) c.args.self.now.first c.args.self.now.changes.now c.args.count)

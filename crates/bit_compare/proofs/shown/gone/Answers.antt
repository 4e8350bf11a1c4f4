use Rattle.std.proofs.Common.{sym, ◌∙◌}
use Rattle.bit_compare.specs.Shown.Moments.{lens}
use Rattle.bit_compare.proofs.Moments.{gone-after}
use Rattle.bit_compare.proofs.shown.gone.Goals as goal

pub returns-then-not-is_gone-clause-after : goal.returns-then-not-is_gone-clause-after
returns-then-not-is_gone-clause-after c = λ i d h l. gone-after (lens c.args.scale c.args.later c.args.earlier) c.args.changes.now c.requires.rising c.requires.scaled c.loop-count.count i d _ h l (sym c.is_gone.ensures ∙ c.if-not-is_gone.true)

use Rattle.std.proofs.Common.{refl}
use Rattle.bit_compare.specs.Shown.Moments.{lens}
use Rattle.bit_compare.proofs.Moments.{seen-shown, shown-values, whole-drop}
use Rattle.bit_compare.proofs.shown.Shown.new.Goals as goal

pub returns-clause-shown : goal.returns-clause-shown
returns-clause-shown c = seen-shown (lens c.args.scale c.args.later c.args.earlier) c.args.changes.now c.gone-gone.result c.requires.rising c.requires.scaled c.gone-gone.ensures.within c.gone-gone.ensures.before c.gone-gone.ensures.after _ (whole-drop c.args.changes.now c.gone-gone.result) refl c.requires.small

pub returns-clause-values : goal.returns-clause-values
returns-clause-values c = shown-values (lens c.args.scale c.args.later c.args.earlier) c.args.changes.now c.gone-gone.result c.requires.rising c.requires.scaled c.gone-gone.ensures.within c.gone-gone.ensures.before c.gone-gone.ensures.after c.value_in.result _ (whole-drop c.args.changes.now c.gone-gone.result) c.value_in.ensures

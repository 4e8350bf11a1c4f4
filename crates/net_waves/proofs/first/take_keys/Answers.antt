use Rattle.std.proofs.Common.{◌∙◌, ap, sym, get_or, arith}
use Rattle.gate_values.specs.declared.logic.Logic.{Logic}
use Rattle.gate_values.specs.declared.logic.Logic.TheVariants.{X}
use Rattle.net_waves.specs.Keys.{stop_of}
use Rattle.net_waves.specs.First.{first_by, first_from}
use Rattle.net_waves.proofs.Firsts.{first-more-of}
use Rattle.net_waves.proofs.first.take_keys.Goals as goal

pub loop-key-preserved : goal.loop-key-preserved
loop-key-preserved c = (
  c.take_first.ensures.length ∙ c.loop-key.invariant.0,
  λ n l.
      c.take_first.ensures.each n (let same = c.loop-key.invariant.0 in omega (arith, l, same))
      ∙ ap (λ (v : Logic). first_by c.stop_of.result v n) (c.loop-key.invariant.1 n l)
      ∙ sym (first-more-of stop_of (get_or c.args.values.now n X) c.args.keys.now c.loop-key.key-index _ c.stop_of.result n c.loop-key-test.true c.stop_of.ensures),
)

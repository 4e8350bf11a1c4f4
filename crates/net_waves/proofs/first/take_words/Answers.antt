use Rattle.std.proofs.Common.{◌∙◌, ap, sym, get_or, arith}
use Rattle.gate_values.specs.declared.logic.Logic.{Logic}
use Rattle.gate_values.specs.declared.logic.Logic.TheVariants.{X}
use Rattle.net_waves.specs.Packed.{told}
use Rattle.net_waves.specs.First.{first_by, first_from}
use Rattle.net_waves.proofs.Firsts.{first-more-of}
use Rattle.net_waves.proofs.first.take_words.Goals as goal

pub loop-word-preserved : goal.loop-word-preserved
loop-word-preserved c = (
  c.take_first.ensures.length ∙ c.loop-word.invariant.0,
  λ n l.
      c.take_first.ensures.each n (let same = c.loop-word.invariant.0 in omega (arith, l, same))
      ∙ ap (λ (v : Logic). first_by c.stop_at.result v n) (c.loop-word.invariant.1 n l)
      ∙ sym (first-more-of (told 0) (get_or c.args.values.now n X) c.args.words.now c.loop-word.word-index _ c.stop_at.result n c.loop-word-test.true c.stop_at.ensures),
)

use Rattle.std.proofs.Common.{◌∙◌, ap}
use Rattle.text_places.specs.Told.{below}
use Rattle.text_places.proofs.MarkedLines.{below_more, below_all}
use Rattle.text_places.proofs.showing.below.Goals as goal

pub loop-byte-preserved : goal.loop-byte-preserved
loop-byte-preserved c = below_more _ _ _ _ _ c.loop-byte-test.true c.loop-byte.invariant c.in_ok-push_below.ensures

pub returns : goal.returns
returns c = below_all _ _ _ _ c.loop-byte-test.false c.loop-byte.invariant ∙ ap (below c.args.mark) c.as_bytes-byte-items.ensures.value

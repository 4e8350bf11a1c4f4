use Rattle.std.proofs.Common.{◌∙◌, Option, IfSome, List, [], ◌∷◌, ◌++◌, ap, sym, subst, arith}
use Rattle.std.proofs.lemmas.List.{append_assoc, append-nil, nil_from_length}
use Rattle.std.specs.Vec.Iter.{into_iter_items}
use Rattle.history_waves.specs.Stories.{Telling}
use Rattle.warp_process.specs.View.{Process}
use Rattle.warp_core.specs.Inner.Gather.{IsStory, AreStories}
use Rattle.warp_core.proofs.gathering.changes.stories_of.Goals as goal

pub loop-block-preserved : goal.loop-block-preserved
loop-block-preserved g c = record {
  can_next = tt;
  is_finite = tt;
  left = λ rest are.
      subst (AreStories c.args.blocks.items) (sym (ap (λ (ts : List Telling). ts ++ rest) c.in_ok-push.ensures.items ∙ append_assoc c.loop-block.stories.items (c.in-Some-2.story ∷ []) rest))
      (c.loop-block.invariant.left (c.in-Some-2.story ∷ rest)
      (subst (λ (ps : List Process). AreStories ps (c.in-Some-2.story ∷ rest)) (sym c.in-Some.ensures.steps.0) (subst (λ (o : Option Telling). IfSome o (IsStory c.in-Some.block.seen)) c.in-Some-2.is c.in_ok-story.ensures, are)));
}

pub returns : goal.returns
returns g c =
    subst (AreStories c.args.blocks.items) (append-nil c.loop-block.stories.items)
    (c.loop-block.invariant.left [] (subst (λ (ps : List Process). AreStories ps []) (sym (nil_from_length (into_iter_items c.loop-block.block-iterator) (omega (arith, c.in-None.ensures.steps.0, c.loop-block.block-iterator.rest.ok.0)))) tt))

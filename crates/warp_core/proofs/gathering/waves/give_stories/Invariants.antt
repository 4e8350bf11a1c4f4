use Rattle.std.proofs.Common.{◌≡◌, ℕ, ◌<◌, true, [], vec_len, All}
use Rattle.std.specs.Vec.Iter.{into_iter_items}
use Rattle.net_waves.specs.Waves.{lists_in, wave_of}
use Rattle.warp_part.specs.Portion.{owns}
use Rattle.warp_process.specs.View.{Process}
use Rattle.warp_core.specs.Inner.Gather.{after_blocks, AreApart, AreTelling}
use Rattle.warp_core.proofs.gathering.waves.give_stories.Given as goal

-- what the blocks that are left would make of the lists is what all blocks make of the first ones, and the histories tell what came to them
abbrev pub invariant-loop-block : goal.invariant-loop-block
invariant-loop-block l = record {
  can_next : (goal.iterator-loop-block).can_next l.block-iterator;
  is_finite : (goal.iterator-loop-block).is_finite l.block-iterator;
  len : vec_len l.lists ≡ vec_len l.fn.lists;
  within : All (λ (p : Process). All (λ n. n < vec_len l.fn.lists) p.seen.part.nets) (into_iter_items l.block-iterator);
  none : All (λ (p : Process). (n : ℕ) → owns p.seen.part n ≡ true → wave_of (lists_in l.lists.items) n ≡ []) (into_iter_items l.block-iterator);
  apart : AreApart (into_iter_items l.block-iterator);
  left : (n : ℕ) → after_blocks (into_iter_items l.block-iterator) (wave_of (lists_in l.lists.items)) n ≡ after_blocks l.fn.blocks.items (wave_of (lists_in l.fn.lists.items)) n;
  told : l.tell_all ≡ true → AreTelling l.stories.items (lists_in l.fn.lists.items) (lists_in l.lists.items);
}

use Rattle.std.proofs.Common.{◌≡◌, ◌<◌, ◌∙◌, ℕ, true, List, [], sym, ap, subst, arith, All, vec_len}
use Rattle.std.specs.Vec.Iter.{into_iter_items}
use Rattle.std.proofs.lemmas.Bool.{true≢false}
use Rattle.std.proofs.lemmas.List.Elements.{All-rest}
use Rattle.net_waves.specs.Waves.{lists_in, wave_of}
use Rattle.warp_part.specs.Portion.{owns}
use Rattle.warp_process.specs.View.{Process}
use Rattle.warp_core.specs.Inner.Gather.{after_block, after_blocks, AreApart}
use Rattle.warp_core.proofs.GivenLogs.{after_one, after_same, none_rest}
use Rattle.warp_core.proofs.gathering.waves.give_stories.Goals as goal

pub give_story-requires-clause-none : goal.give_story-requires-clause-none
give_story-requires-clause-none c =
    let before = wave_of (lists_in c.loop-block.lists.items) in
    (subst (λ (ps : List Process). All (λ (q : Process). (n : ℕ) → owns q.seen.part n ≡ true → before n ≡ []) ps) c.in-Some.ensures.steps.0 c.loop-block.invariant.none) 0 c.in-Some.block (omega arith)

pub loop-block-preserved : goal.loop-block-preserved
loop-block-preserved c =
    let h = c.loop-block.invariant in
    let steps = c.in-Some.ensures.steps in
    let lists = c.give_story.new.lists.items in
    let before = wave_of (lists_in c.loop-block.lists.items) in
    let after = wave_of (lists_in lists) in
    let done = c.in_ok-give_story.ensures in
    let one = after_one c.in-Some.block.seen before after done.own done.others in
    record {
      can_next = tt;
      is_finite = tt;
      len = done.len ∙ h.len;
      within = All-rest (λ (p : Process). All (λ n. n < vec_len c.args.lists.now) p.seen.part.nets) c.in-Some.block _ _ steps.0 h.within;
      none = none_rest c.in-Some.block (into_iter_items c.next.new.self) before after (subst AreApart steps.0 h.apart)
          (subst (λ (ps : List Process). All (λ (q : Process). (n : ℕ) → owns q.seen.part n ≡ true → before n ≡ []) ps) steps.0 h.none) done.others;
      apart = (subst AreApart steps.0 h.apart).1;
      left = λ n.
          after_same (into_iter_items c.next.new.self) after (after_block c.in-Some.block.seen before) one n
          ∙ ap (λ ps. after_blocks ps before n) (sym steps.0)
          ∙ h.left n;
      told = λ e. done.told c.if-not-branch.false (lists_in c.args.lists.now.items) (h.told e);
    }

pub loop-block-preserved-then-not-branch : goal.loop-block-preserved-then-not-branch
loop-block-preserved-then-not-branch c =
    let h = c.loop-block.invariant in
    let steps = c.in-Some.ensures.steps in
    let lists = c.give_story.new.lists.items in
    let before = wave_of (lists_in c.loop-block.lists.items) in
    let after = wave_of (lists_in lists) in
    let done = c.in_ok-give_story.ensures in
    let one = after_one c.in-Some.block.seen before after done.own done.others in
    record {
      can_next = tt;
      is_finite = tt;
      len = done.len ∙ h.len;
      within = All-rest (λ (p : Process). All (λ n. n < vec_len c.args.lists.now) p.seen.part.nets) c.in-Some.block _ _ steps.0 h.within;
      none = none_rest c.in-Some.block (into_iter_items c.next.new.self) before after (subst AreApart steps.0 h.apart)
          (subst (λ (ps : List Process). All (λ (q : Process). (n : ℕ) → owns q.seen.part n ≡ true → before n ≡ []) ps) steps.0 h.none) done.others;
      apart = (subst AreApart steps.0 h.apart).1;
      left = λ n.
          after_same (into_iter_items c.next.new.self) after (after_block c.in-Some.block.seen before) one n
          ∙ ap (λ ps. after_blocks ps before n) (sym steps.0)
          ∙ h.left n;
      told = λ e. absurd (true≢false (sym e));
    }

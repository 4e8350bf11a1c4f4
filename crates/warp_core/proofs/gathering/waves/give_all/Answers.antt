use Rattle.std.proofs.Common.{◌<◌, ◌∙◌, sym, ap, All, vec_len}
use Rattle.std.specs.Vec.Iter.{into_iter_items}
use Rattle.std.proofs.lemmas.List.Elements.{All-rest}
use Rattle.net_waves.specs.Waves.{lists_in, wave_of}
use Rattle.warp_process.specs.View.{Process}
use Rattle.warp_core.specs.Inner.Gather.{after_block, after_blocks}
use Rattle.warp_core.proofs.GivenLogs.{after_one, after_same}
use Rattle.warp_core.proofs.gathering.waves.give_all.Goals as goal

pub loop-block-preserved : goal.loop-block-preserved
loop-block-preserved c =
    let h = c.loop-block.invariant in
    let steps = c.in-Some.ensures.steps in
    let before = wave_of (lists_in c.loop-block.lists.items) in
    let after = wave_of (lists_in c.give_logs.new.lists.items) in
    let one = after_one c.in-Some.block.seen before after c.give_logs.ensures.own c.give_logs.ensures.others in
    record {
      can_next = tt;
      is_finite = tt;
      len = c.give_logs.ensures.len ∙ h.len;
      within = All-rest (λ (p : Process). All (λ n. n < vec_len c.args.lists.now) p.seen.part.nets) c.in-Some.block _ _ steps.0 h.within;
      left = λ n.
          after_same (into_iter_items c.next.new.self) after (after_block c.in-Some.block.seen before) one n
          ∙ ap (λ ps. after_blocks ps before n) (sym steps.0)
          ∙ h.left n;
    }

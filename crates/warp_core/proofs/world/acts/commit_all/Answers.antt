use Rattle.std.proofs.Common.{◌≡◌, ◌<◌, length, ap, sym, ◌∙◌, subst, arith}
use Rattle.std.proofs.lemmas.List.{length-set, get_or-set_other}
use Rattle.warp_process.specs.Commit.{IsCommittable}
use Rattle.warp_process.specs.View.{View, Process}
use Rattle.warp_core.specs.Matched.{no_process, seen_at}
use Rattle.warp_core.proofs.Changing.{committed_more, lawful_more}
use Rattle.warp_core.proofs.Sweeping.{seen_is}
use Rattle.warp_core.proofs.world.acts.commit_all.Goals as goal

pub commit_one-requires : goal.commit_one-requires
commit_one-requires c =
    let i = c.loop-number.number in
    let blocks = c.loop-number.blocks.items in
    let within : i < length blocks = omega (arith, c.loop-number.invariant.count, c.args.blocks.now.ok.0) in
    let e = seen_is blocks i c.index_mut.result.now within c.index_mut.ensures.value in
    let same : seen_at blocks i ≡ seen_at c.args.blocks.now.items i = ap (λ (p : Process). p.seen) (c.loop-number.invariant.rest i (omega arith)) in
    subst (λ (v : View). IsCommittable v c.args.time) (sym (e ∙ same)) (c.requires i (omega (arith, within, c.loop-number.invariant.count)))

pub loop-number-preserved : goal.loop-number-preserved
loop-number-preserved c =
    let i = c.loop-number.number in
    let blocks = c.loop-number.blocks.items in
    let within : i < length blocks = omega (arith, c.loop-number.invariant.count, c.args.blocks.now.ok.0) in
    record {
      count = length-set blocks i c.commit_one.new.block ∙ c.loop-number.invariant.count;
      done = committed_more c.args.blocks.now.items blocks i c.args.time c.index_mut.result.now c.commit_one.new.block within c.index_mut.ensures.value (c.loop-number.invariant.rest i (omega arith))
          c.commit_one.ensures.committed c.loop-number.invariant.done;
      lawful = lawful_more blocks i c.commit_one.new.block within c.commit_one.ensures.lawful c.loop-number.invariant.lawful;
      rest = λ b from. get_or-set_other blocks i b c.commit_one.new.block no_process (omega (arith, from)) ∙ c.loop-number.invariant.rest b (omega (arith, from));
    }

use Rattle.std.proofs.Common.{subst}
use Rattle.net_waves.specs.Waves.{lists_in}
use Rattle.warp_part.specs.Portion.{Portion}
use Rattle.warp_core.specs.OwnNets.{AreOwn}
use Rattle.warp_core.proofs.Finished.{log_wave}
use Rattle.warp_core.proofs.Histories.{told_more}
use Rattle.warp_core.proofs.gathering.waves.give_story.Goals as goal

pub returns-clause-told : goal.returns-clause-told
returns-clause-told c = λ _ first told.
    let v = c.args.block.seen in
    let own : AreOwn v.part c.in_ok-own.own.items = subst (λ (p : Portion). AreOwn p c.in_ok-own.own.items) c.in-Some.ensures.part c.in_ok-own.ensures in
    rw (c.in_ok-push.ensures.items, c.new.ensures)
    (told_more v c.law.ensures.seen.part c.in_ok-own.own.items own c.in-Some.history c.in-Some.ensures.history (λ n. (log_wave v c.law.ensures.seen n).0) (lists_in c.args.lists.now.items) (lists_in c.give_history.new.lists.items)
    c.requires.none c.in-Some.ensures.own c.in-Some.ensures.others c.args.stories.now.items first told)

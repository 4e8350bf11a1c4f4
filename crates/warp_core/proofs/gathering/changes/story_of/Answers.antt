use Rattle.std.proofs.Common.{subst}
use Rattle.warp_part.specs.Portion.{Portion}
use Rattle.warp_core.specs.OwnNets.{AreOwn}
use Rattle.warp_core.proofs.gathering.changes.story_of.Goals as goal

pub returns : goal.returns
returns g c =
    rw c.new.ensures (record {
      lawful = c.law.ensures.seen;
      own = subst (λ (p : Portion). AreOwn p c.in_ok-own.own.items) c.in-Some.ensures.part c.in_ok-own.ensures;
      words = c.in-Some.ensures.history;
    })

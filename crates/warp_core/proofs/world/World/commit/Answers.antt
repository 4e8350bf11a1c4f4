use Rattle.std.proofs.Common.{◌+◌, ◌<◌, refl, sym, subst}
use Rattle.warp_core.specs.Shown.{scene_of}
use Rattle.warp_core.specs.Play.{IsCommittedAll}
use Rattle.warp_core.specs.World.{Scene, IsBefore, IsLeastTime}
use Rattle.warp_core.proofs.Acted.{scene_with}
use Rattle.warp_core.proofs.CommittedAll.{committable, committed_lawful, committed_before}
use Rattle.warp_core.proofs.NextTimes.{next_same}
use Rattle.warp_core.proofs.Played.{same_course}
use Rattle.warp_core.proofs.world.World.commit.Goals as goal

pub commit_all-requires : goal.commit_all-requires
commit_all-requires c =
    let w = scene_of c.self.inside in
    let time = c.least-least.result in
    let least = subst (λ (v : Scene). IsLeastTime v time) (sym c.self.view_is) c.least-least.ensures in
    λ b within. committable w c.self.invariant.law c.law.ensures time least b (subst (λ n. b < n) c.self.invariant.law.count within)

pub invariant_of-self : goal.invariant_of-self
invariant_of-self c =
    let w = scene_of c.self.inside in
    let time = c.least-least.result in
    let new = c.commit_all.new.blocks.items in
    let all = c.commit_all.ensures in
    let law = c.self.invariant.law in
    let least = subst (λ (v : Scene). IsLeastTime v time) (sym c.self.view_is) c.least-least.ensures in
    record {
      law = committed_lawful w law c.law.ensures time least new all.count (λ b l. all.committed b (subst (λ n. b < n) (sym law.count) l)) (λ b l. all.lawful b (subst (λ n. b < n) (sym law.count) l));
      soonest = c.self.invariant.soonest;
      next = next_same w.blocks new (w.horizon + 1) c.self.inside.next.items all.count (λ b t l event. ((all.committed b l).events t).0 event) (λ b t l event. ((all.committed b l).events t).1 event) c.self.invariant.next;
    }

pub returns-clause-played : goal.returns-clause-played
returns-clause-played c =
    let w = scene_of c.self.inside in
    let time = c.least-least.result in
    let new = c.commit_all.new.blocks.items in
    let all = c.commit_all.ensures in
    let law = c.self.invariant.law in
    let least = subst (λ (v : Scene). IsLeastTime v time) (sym c.self.view_is) c.least-least.ensures in
    subst (λ (v : Scene). IsCommittedAll v (scene_with w new w.flight)) c.self.view_is (record {
      course = same_course w new w.flight;
      time = time;
      least = least;
      count = all.count;
      blocks = λ b l. all.committed b (subst (λ n. b < n) (sym law.count) l);
      flight = refl;
    })

pub returns-clause-never_earlier : goal.returns-clause-never_earlier
returns-clause-never_earlier c =
    let w = scene_of c.self.inside in
    let time = c.least-least.result in
    let all = c.commit_all.ensures in
    let law = c.self.invariant.law in
    let least = subst (λ (v : Scene). IsLeastTime v time) (sym c.self.view_is) c.least-least.ensures in
    λ s h. committed_before w law c.law.ensures time least c.commit_all.new.blocks.items all.count (λ b l. all.committed b (subst (λ n. b < n) (sym law.count) l))
    (λ b l. all.lawful b (subst (λ n. b < n) (sym law.count) l)) s (subst (λ (v : Scene). IsBefore v s) (sym c.self.view_is) h)

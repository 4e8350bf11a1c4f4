use Rattle.std.proofs.Common.{◌+◌, ◌<◌, List, length, sym, subst, arith}
use Rattle.warp_process.specs.declared.message.Message.{Message}
use Rattle.warp_process.specs.View.{View}
use Rattle.warp_core.specs.Shown.{scene_of}
use Rattle.warp_core.specs.Inner.Kept.{IsSoonest, IsNextTime}
use Rattle.warp_core.specs.Matched.{seen_at}
use Rattle.warp_core.specs.World.{Scene, IsBefore}
use Rattle.warp_core.proofs.NextTimes.{next_kept}
use Rattle.warp_core.proofs.Played.{run_lawful, run_before, some_finished}
use Rattle.warp_core.proofs.Sweeping.{seen_is}
use Rattle.warp_core.proofs.world.World.advance.Goals as goal

pub invariant_of-self : goal.invariant_of-self
invariant_of-self c =
    let w = scene_of c.self.inside in
    let b = c.args.number in
    let end = c.self.inside.horizon + 1 in
    let new = c.run-answer.new.blocks.items in
    let out = c.run-answer.new.flight.items in
    let run = c.run-answer.ensures in
    let law = c.self.invariant.law in
    let moved = some_finished (seen_at w.blocks b) (seen_at new b) c.args.steps c.run-answer.result run.ok run.some in
    let within : b < w.cut.blocks = omega (arith, c.if-number-blocks.false, c.blocks-2.ensures.count) in
    let within' : b < length w.blocks = subst (λ n. b < n) (sym law.count) within in
    let here = subst (λ (v : View). IsNextTime v end c.next_of.result) (seen_is new b c.index.result.now (subst (λ n. b < n) (sym run.others.count) within') c.index.ensures) c.next_of.ensures in
    record {
      law = run_lawful w law b moved.0 within new out run.others moved.1 run.lawful run.sends;
      soonest = subst (λ (ms : List Message). IsSoonest ms end c.soonest_from-self-inside.result) c.as_slice.ensures.value c.soonest_from-self-inside.ensures;
      next = next_kept w.blocks new end b c.next_of.result c.self.inside.next.items within' run.others c.self.invariant.next here;
    }

pub returns-clause-never_earlier : goal.returns-clause-never_earlier
returns-clause-never_earlier c =
    let w = scene_of c.self.inside in
    let b = c.args.number in
    let new = c.run-answer.new.blocks.items in
    let run = c.run-answer.ensures in
    let moved = some_finished (seen_at w.blocks b) (seen_at new b) c.args.steps c.run-answer.result run.ok run.some in
    let within : b < w.cut.blocks = omega (arith, c.if-number-blocks.false, c.blocks-2.ensures.count) in
    λ s h. run_before w c.self.invariant.law b moved.0 within new c.run-answer.new.flight.items run.others moved.1 run.lawful run.sends s (subst (λ (v : Scene). IsBefore v s) (sym c.self.view_is) h)

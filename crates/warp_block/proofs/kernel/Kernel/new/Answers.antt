use Rattle.std.proofs.Common.{◌≡◌, ◌∙◌, ◌++◌, ap, subst}
use Rattle.warp_part.specs.Portion.{Portion}
use Rattle.warp_process.specs.Heard.{IsReceived}
use Rattle.warp_process.specs.Opening.{opening_messages}
use Rattle.part_engine.specs.Runs.{IsOpeningRun, begins_of}
use Rattle.warp_block.proofs.Opening.{opened_at, opened_seen, opened_sends}
use Rattle.warp_block.proofs.kernel.Kernel.new.Goals as goal

pub invariant_of-result : goal.invariant_of-result
invariant_of-result c =
    let received : IsReceived c.in_ok-heard.heard = subst IsReceived c.heard.view_is c.heard.invariant.received in
    let opening : IsOpeningRun c.in_ok-heard.heard.part c.args.horizon c.in_ok-engine.engine
    = subst (λ (p : Portion). IsOpeningRun p c.args.horizon c.in_ok-engine.engine) c.part-2.ensures c.in_ok-engine.ensures in
    record {
      at = opened_at c.args.part c.args.stimulus.now c.args.horizon c.in_ok-heard.heard c.in_ok-heard.ensures received c.in_ok-engine.engine opening c.new-2.result c.new-2.ensures;
      begins = c.begins-begins.ensures ∙ ap begins_of c.part.ensures;
    }

pub returns-clause-opening : goal.returns-clause-opening
returns-clause-opening c =
    let received : IsReceived c.in_ok-heard.heard = subst IsReceived c.heard.view_is c.heard.invariant.received in
    let opening : IsOpeningRun c.in_ok-heard.heard.part c.args.horizon c.in_ok-engine.engine
    = subst (λ (p : Portion). IsOpeningRun p c.args.horizon c.in_ok-engine.engine) c.part-2.ensures c.in_ok-engine.ensures in
    opened_seen c.args.part c.args.stimulus.now c.args.horizon c.in_ok-heard.heard c.in_ok-heard.ensures received c.in_ok-engine.engine opening c.new-2.result c.new-2.ensures

pub returns-clause-sends : goal.returns-clause-sends
returns-clause-sends c =
    let received : IsReceived c.in_ok-heard.heard = subst IsReceived c.heard.view_is c.heard.invariant.received in
    let opening : IsOpeningRun c.in_ok-heard.heard.part c.args.horizon c.in_ok-engine.engine
    = subst (λ (p : Portion). IsOpeningRun p c.args.horizon c.in_ok-engine.engine) c.part-2.ensures c.in_ok-engine.ensures in
    let told : c.tell_first.new.out.items ≡ c.args.out.now.items ++ opening_messages c.in_ok-heard.heard.part
    = c.in_ok-tell_first.ensures.ok ∙ ap (λ (p : Portion). c.args.out.now.items ++ opening_messages p) c.part-3.ensures in
    opened_sends c.args.part c.args.stimulus.now c.args.horizon c.in_ok-heard.heard c.in_ok-heard.ensures received c.in_ok-engine.engine opening c.new-2.result c.new-2.ensures
    c.args.out.now.items c.tell_first.new.out.items told

use Rattle.std.proofs.Common.{◌≡◌, ◌+◌, ◌++◌, List, ap, sym, ◌∙◌, subst}
use Rattle.warp_process.specs.declared.message.Sign.TheVariants.{Plus}
use Rattle.warp_process.specs.Opening.{silent_view, opening_view, opening_messages}
use Rattle.warp_part.specs.Portion.{Portion}
use Rattle.warp_process.specs.Sends.{SendsOnce}
use Rattle.warp_process.specs.View.{Process}
use Rattle.warp_core.specs.Inner.Opened.{AreOpened}
use Rattle.warp_core.proofs.StartingWorlds.{more_opened}
use Rattle.warp_core.proofs.world.opening.open.Goals as goal

pub loop-number-preserved : goal.loop-number-preserved
loop-number-preserved c =
    let g = c.args.stimulus.now in
    let block = c.in_ok-block.block in
    let out = c.new.new.out.items in
    let opening = c.in_ok-block.ensures.opening ∙ ap (λ (p : Portion). opening_view p g c.args.horizon) c.in_ok-part.ensures in
    let once = subst (λ (p : Portion). SendsOnce (silent_view p g c.args.horizon) block.seen Plus (λ t. t ≡ 0) c.loop-number.flight.items out) c.in_ok-part.ensures c.in_ok-block.ensures.sends in
    let told = subst (λ (p : Portion). out ≡ c.loop-number.flight.items ++ opening_messages p) c.in_ok-part.ensures c.in_ok-block.ensures.told in
    subst (λ (bs : List Process). AreOpened c.args.circuit.now c.args.cut.now g c.args.horizon (c.loop-number.number + 1) bs out) (sym c.in_ok-push.ensures.items)
    (more_opened c.args.circuit.now c.args.cut.now g c.args.horizon c.requires.cut c.loop-number.number c.loop-number.blocks.items block c.loop-number.flight.items out c.loop-number.invariant opening c.law.ensures.seen once told)

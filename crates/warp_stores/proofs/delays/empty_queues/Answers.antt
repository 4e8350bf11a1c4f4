use Rattle.std.proofs.Common.{◌≡◌, ◌∙◌, ◌+◌, List, [], ◌∷◌, ◌++◌, map, take, get_or, ap, sym}
use Rattle.std.proofs.lemmas.List.{map-append, take_all, take_more}
use Rattle.warp_stores.specs.Delays.{Delayed, empty_after}
use Rattle.warp_stores.proofs.delays.empty_queues.Goals as goal

pub loop-delay-init : goal.loop-delay-init
loop-delay-init c = c.new-queues.ensures.items

pub loop-delay-preserved : goal.loop-delay-preserved
loop-delay-preserved c =
    let delays = c.args.delays.now in
    let i = c.loop-delay.delay-index in
    let more : map empty_after (take (i + 1) delays) ≡ map empty_after (take i delays) ++ empty_after (get_or delays i 0) ∷ [] =
    ap (map empty_after) (take_more delays i 0 c.loop-delay-test.true) ∙ map-append empty_after (take i delays) (get_or delays i 0 ∷ []) in
    c.in_ok-push.ensures.items ∙ ap (λ (q : Delayed). c.loop-delay.queues.items ++ q ∷ []) c.new.ensures ∙ ap (λ (qs : List Delayed). qs ++ empty_after (get_or delays i 0) ∷ []) c.loop-delay.invariant ∙ sym more

pub returns : goal.returns
returns c = c.loop-delay.invariant ∙ ap (map empty_after) (take_all c.loop-delay.delay-index c.args.delays.now c.loop-delay-test.false)

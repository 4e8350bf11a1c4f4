use Rattle.std.proofs.Common.{◌≡◌, ◌∙◌, List, length, subst, sym, arith}
use Rattle.number_groups.specs.declared.groups.Keyed.{Keyed}
use Rattle.warp_gates.specs.Inner.Fronts.{AreClocked}
use Rattle.warp_gates.specs.Inner.First.{AreTimed}
use Rattle.warp_gates.proofs.Listing.{timed_none, clocked_made}
use Rattle.warp_gates.proofs.readers.clocked_of.Goals as goal

pub loop-place-init : goal.loop-place-init
loop-place-init c = subst (λ (es : List Keyed). AreTimed c.args.wiring.now 0 es) (sym c.new-flops.ensures.items) (timed_none c.args.wiring.now)

pub of-requires-2 : goal.of-requires-2
of-requires-2 c =
    let all : c.loop-place.place ≡ length c.args.wiring.now = omega (arith, c.len-place-end.ensures) in
    let made : AreClocked c.args.wiring.now c.in_ok-rows.rows =
    clocked_made c.args.wiring.now c.loop-place.place c.len-places.result c.loop-place.flops.items c.deref.result.now c.requires.cells all c.len-places.ensures c.deref.ensures.value c.loop-place.invariant c.in_ok-rows.rows c.in_ok-rows.ensures in
    made.same ∙ sym c.len-places.ensures

pub returns : goal.returns
returns c =
    let all : c.loop-place.place ≡ length c.args.wiring.now = omega (arith, c.len-place-end.ensures) in
    let made : AreClocked c.args.wiring.now c.in_ok-rows.rows =
    clocked_made c.args.wiring.now c.loop-place.place c.len-places.result c.loop-place.flops.items c.deref.result.now c.requires.cells all c.len-places.ensures c.deref.ensures.value c.loop-place.invariant c.in_ok-rows.rows c.in_ok-rows.ensures in
    subst (AreClocked c.args.wiring.now) (sym c.of-2.ensures) made

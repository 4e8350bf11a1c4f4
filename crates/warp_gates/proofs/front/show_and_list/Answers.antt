use Rattle.std.proofs.Common.{◌≡◌, ◌∙◌, ℕ, ◌<◌, ◌/◌, ◌++◌, ◌∷◌, [], List, length, take, get_or, set, ap, sym, refl, subst, arith, append_assoc, ◌+◌}
use Rattle.std.proofs.lemmas.List.{take_more, take_all}
use Rattle.warp_gates.specs.declared.front.Front.{Front}
use Rattle.warp_gates.specs.Inner.Fronts.{AreShown}
use Rattle.warp_gates.specs.Inner.Told.{AreListed}
use Rattle.warp_gates.proofs.Showing.{shown_none, shown_more}
use Rattle.warp_gates.proofs.Stale.{listed_none, listed_more}
use Rattle.warp_gates.proofs.front.show_and_list.Goals as goal

pub loop-edge-init : goal.loop-edge-init
loop-edge-init c = record {
  shown = shown_none c.args.value c.args.fronts.now;
  listed = λ before h. listed_none before c.args.fronts.now c.args.stale.now.items h;
  room = omega arith;
  capacity = refl;
}

pub loop-edge-preserved : goal.loop-edge-preserved
loop-edge-preserved c =
    let edge : ℕ = get_or c.args.edges.now c.loop-edge.edge-index 0 in
    let within : edge / 8 < length c.loop-edge.fronts = omega (arith, c.requires.within c.loop-edge.edge-index 0 c.loop-edge-test.true) in
    let fronts : List Front = set c.loop-edge.fronts (edge / 8) c.show_at.new.front in
    let more : take (c.loop-edge.edge-index + 1) c.args.edges.now ≡ take c.loop-edge.edge-index c.args.edges.now ++ edge ∷ [] = take_more c.args.edges.now c.loop-edge.edge-index 0 c.loop-edge-test.true in
    record {
      shown = subst (λ (es : List ℕ). AreShown es c.args.value c.args.fronts.now fronts) (sym more)
          (shown_more (take c.loop-edge.edge-index c.args.edges.now) edge c.args.value c.args.fronts.now c.loop-edge.fronts _ c.show_at.new.front c.loop-edge.invariant.shown within c.show_at.ensures);
      listed = λ before h.
          subst (λ (es : List ℕ). AreListed es fronts c.list.new.stale.items)
          (append_assoc before (take c.loop-edge.edge-index c.args.edges.now) (edge ∷ []) ∙ ap (λ (es : List ℕ). before ++ es) (sym more))
          (listed_more (before ++ take c.loop-edge.edge-index c.args.edges.now) edge c.loop-edge.fronts _ c.show_at.new.front c.loop-edge.stale.items c.list.new.stale.items (c.loop-edge.invariant.listed before h) within c.list.ensures.listed);
      room = omega (arith, c.list.ensures.room, c.loop-edge.invariant.room);
      capacity = c.list.ensures.capacity ∙ c.loop-edge.invariant.capacity;
    }

pub returns : goal.returns
returns c =
    let all : take c.loop-edge.edge-index c.args.edges.now ≡ c.args.edges.now = take_all c.loop-edge.edge-index c.args.edges.now c.loop-edge-test.false in
    record {
      shown = subst (λ (es : List ℕ). AreShown es c.args.value c.args.fronts.now c.loop-edge.fronts) all c.loop-edge.invariant.shown;
      listed = λ before h. subst (λ (es : List ℕ). AreListed (before ++ es) c.loop-edge.fronts c.loop-edge.stale.items) all (c.loop-edge.invariant.listed before h);
      room = omega (arith, c.loop-edge.invariant.room, c.loop-edge.auto.edge-index-end);
      capacity = c.loop-edge.invariant.capacity;
    }

use Rattle.std.proofs.Common.{◌≡◌, ◌∙◌, ◌++◌, List, take, drop, length, map, sym, ap, subst, arith}
use Rattle.gate_values.specs.declared.logic.Logic.{Logic}
use Rattle.warp_gates.specs.declared.front.Front.{Front}
use Rattle.warp_gates.specs.Cells.{Gates, HaveSettled}
use Rattle.warp_gates.specs.Shown.Held.{gates_of}
use Rattle.warp_gates.proofs.Steps.{written_back}
use Rattle.warp_gates.proofs.Undoing.{length-unmoved, queues_map, have_settled}
use Rattle.warp_gates.proofs.gates.Gates.undo.Goals as goal

pub returns-clause-queues : goal.returns-clause-queues
returns-clause-queues c =
    let len : c.self.inside.fronts.len ≡ length c.self.inside.fronts.items = omega arith in
    let fronts : take c.self.inside.fronts.len (c.take_back.new.fronts ++ drop (length c.take_back.new.fronts) c.self.inside.fronts.items) ≡ c.take_back.new.fronts =
    written_back c.self.inside.fronts.items c.take_back.new.fronts c.self.inside.fronts.len len (c.take_back.ensures.following.queues.same ∙ ap (λ (fs : List Front). length fs) c.deref_mut.ensures.value) in
    ap (λ (fs : List Front). map (λ (f : Front). f.queue) fs) fronts
    ∙ queues_map c.deref_mut.result.now c.take_back.new.fronts c.take_back.ensures.following.queues
    ∙ ap (λ (fs : List Front). map (λ (f : Front). f.queue) fs) c.deref_mut.ensures.value
    ∙ ap (λ (g : Gates). g.queues) c.self.view_is

pub returns-clause-outputs : goal.returns-clause-outputs
returns-clause-outputs c =
    let len : c.self.inside.fronts.len ≡ length c.self.inside.fronts.items = omega arith in
    let len' : c.self.inside.values.len ≡ length c.self.inside.values.items = omega arith in
    let fronts : take c.self.inside.fronts.len (c.take_back.new.fronts ++ drop (length c.take_back.new.fronts) c.self.inside.fronts.items) ≡ c.take_back.new.fronts =
    written_back c.self.inside.fronts.items c.take_back.new.fronts c.self.inside.fronts.len len (c.take_back.ensures.following.queues.same ∙ ap (λ (fs : List Front). length fs) c.deref_mut.ensures.value) in
    let values : take c.self.inside.values.len (c.take_back.new.values ++ drop (length c.take_back.new.values) c.self.inside.values.items) ≡ c.take_back.new.values =
    written_back c.self.inside.values.items c.take_back.new.values c.self.inside.values.len len'
    (ap (λ (vs : List Logic). length vs) c.take_back.ensures.values ∙ length-unmoved c.args.words.now c.deref_mut-2.result.now ∙ ap (λ (vs : List Logic). length vs) c.deref_mut-2.ensures.value) in
    let same : length c.deref_mut.result.now ≡ length c.self.inside.wiring = ap (λ (fs : List Front). length fs) c.deref_mut.ensures.value ∙ c.self.invariant.fronts.same in
    let next : HaveSettled (gates_of c.self.inside.wiring c.deref_mut.result.now c.deref_mut-2.result.now) (gates_of c.self.inside.wiring c.take_back.new.fronts c.take_back.new.values) =
    have_settled c.self.inside.wiring c.deref_mut-2.result.now c.take_back.new.values c.deref_mut.result.now c.take_back.new.fronts same c.take_back.ensures.following in
    let next' : HaveSettled c.args.self.now (gates_of c.self.inside.wiring c.take_back.new.fronts c.take_back.new.values) =
    subst (λ (g : Gates). HaveSettled g (gates_of c.self.inside.wiring c.take_back.new.fronts c.take_back.new.values)) c.self.view_is
    (subst (λ (vs : List Logic). HaveSettled (gates_of c.self.inside.wiring c.self.inside.fronts.items vs) (gates_of c.self.inside.wiring c.take_back.new.fronts c.take_back.new.values)) c.deref_mut-2.ensures.value
    (subst (λ (fs : List Front). HaveSettled (gates_of c.self.inside.wiring fs c.deref_mut-2.result.now) (gates_of c.self.inside.wiring c.take_back.new.fronts c.take_back.new.values)) c.deref_mut.ensures.value next)) in
    subst (λ (fs : List Front). HaveSettled c.args.self.now (gates_of c.self.inside.wiring fs (take c.self.inside.values.len (c.take_back.new.values ++ drop (length c.take_back.new.values) c.self.inside.values.items)))) (sym fronts)
    (subst (λ (vs : List Logic). HaveSettled c.args.self.now (gates_of c.self.inside.wiring c.take_back.new.fronts vs)) (sym values) next')

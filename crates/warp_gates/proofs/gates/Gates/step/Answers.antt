use Rattle.std.proofs.Common.{◌≡◌, ◌∙◌, ◌++◌, List, take, drop, length, map, sym, ap, subst, arith}
use Rattle.gate_values.specs.declared.logic.Logic.{Logic}
use Rattle.warp_gates.specs.declared.front.Front.{Front}
use Rattle.warp_gates.specs.declared.put.Put.{Put}
use Rattle.warp_gates.specs.Cells.{Gates, ArePut, HaveNext}
use Rattle.warp_gates.specs.Shown.Held.{gates_of}
use Rattle.warp_gates.proofs.Moving.{length-moved}
use Rattle.warp_gates.proofs.Steps.{written_back, passed_next, passed_puts, passed_queues}
use Rattle.warp_gates.proofs.gates.Gates.step.Goals as goal

pub returns-clause-queues : goal.returns-clause-queues
returns-clause-queues c =
    let len : c.self.inside.fronts.len ≡ length c.self.inside.fronts.items = omega arith in
    let fronts : take c.self.inside.fronts.len (c.pass_on.new.fronts ++ drop (length c.pass_on.new.fronts) c.self.inside.fronts.items) ≡ c.pass_on.new.fronts =
    written_back c.self.inside.fronts.items c.pass_on.new.fronts c.self.inside.fronts.len len (c.pass_on.ensures.told.same ∙ ap (λ (fs : List Front). length fs) c.deref_mut.ensures.value) in
    ap (λ (fs : List Front). map (λ (f : Front). f.queue) fs) fronts
    ∙ passed_queues c.deref_mut.result.now c.pass_on.new.fronts _ _ c.pass_on.ensures.told
    ∙ ap (λ (fs : List Front). map (λ (f : Front). f.queue) fs) c.deref_mut.ensures.value
    ∙ ap (λ (g : Gates). g.queues) c.self.view_is

pub returns-clause-outputs : goal.returns-clause-outputs
returns-clause-outputs c =
    let len : c.self.inside.fronts.len ≡ length c.self.inside.fronts.items = omega arith in
    let len' : c.self.inside.values.len ≡ length c.self.inside.values.items = omega arith in
    let fronts : take c.self.inside.fronts.len (c.pass_on.new.fronts ++ drop (length c.pass_on.new.fronts) c.self.inside.fronts.items) ≡ c.pass_on.new.fronts =
    written_back c.self.inside.fronts.items c.pass_on.new.fronts c.self.inside.fronts.len len (c.pass_on.ensures.told.same ∙ ap (λ (fs : List Front). length fs) c.deref_mut.ensures.value) in
    let values : take c.self.inside.values.len (c.pass_on.new.values ++ drop (length c.pass_on.new.values) c.self.inside.values.items) ≡ c.pass_on.new.values =
    written_back c.self.inside.values.items c.pass_on.new.values c.self.inside.values.len len'
    (ap (λ (vs : List Logic). length vs) c.pass_on.ensures.values ∙ length-moved c.args.words.now c.deref_mut-2.result.now ∙ ap (λ (vs : List Logic). length vs) c.deref_mut-2.ensures.value) in
    let same : length c.deref_mut.result.now ≡ length c.self.inside.wiring = ap (λ (fs : List Front). length fs) c.deref_mut.ensures.value ∙ c.self.invariant.fronts.same in
    let next : HaveNext (gates_of c.self.inside.wiring c.deref_mut.result.now c.deref_mut-2.result.now) (gates_of c.self.inside.wiring c.pass_on.new.fronts c.pass_on.new.values) =
    passed_next c.self.inside.wiring c.deref_mut-2.result.now c.pass_on.new.values c.deref_mut.result.now c.pass_on.new.fronts same c.pass_on.ensures.outputs in
    let next' : HaveNext c.args.self.now (gates_of c.self.inside.wiring c.pass_on.new.fronts c.pass_on.new.values) =
    subst (λ (g : Gates). HaveNext g (gates_of c.self.inside.wiring c.pass_on.new.fronts c.pass_on.new.values)) c.self.view_is
    (subst (λ (vs : List Logic). HaveNext (gates_of c.self.inside.wiring c.self.inside.fronts.items vs) (gates_of c.self.inside.wiring c.pass_on.new.fronts c.pass_on.new.values)) c.deref_mut-2.ensures.value
    (subst (λ (fs : List Front). HaveNext (gates_of c.self.inside.wiring fs c.deref_mut-2.result.now) (gates_of c.self.inside.wiring c.pass_on.new.fronts c.pass_on.new.values)) c.deref_mut.ensures.value next)) in
    subst (λ (fs : List Front). HaveNext c.args.self.now (gates_of c.self.inside.wiring fs (take c.self.inside.values.len (c.pass_on.new.values ++ drop (length c.pass_on.new.values) c.self.inside.values.items)))) (sym fronts)
    (subst (λ (vs : List Logic). HaveNext c.args.self.now (gates_of c.self.inside.wiring c.pass_on.new.fronts vs)) (sym values) next')

pub returns-clause-puts : goal.returns-clause-puts
returns-clause-puts c =
    let len : c.self.inside.fronts.len ≡ length c.self.inside.fronts.items = omega arith in
    let fronts : take c.self.inside.fronts.len (c.pass_on.new.fronts ++ drop (length c.pass_on.new.fronts) c.self.inside.fronts.items) ≡ c.pass_on.new.fronts =
    written_back c.self.inside.fronts.items c.pass_on.new.fronts c.self.inside.fronts.len len (c.pass_on.ensures.told.same ∙ ap (λ (fs : List Front). length fs) c.deref_mut.ensures.value) in
    let values : List Logic = take c.self.inside.values.len (c.pass_on.new.values ++ drop (length c.pass_on.new.values) c.self.inside.values.items) in
    let first : List Put = c.reserve-2.new.self.items in
    let put : ArePut (gates_of c.self.inside.wiring c.deref_mut.result.now c.self.inside.values.items) (gates_of c.self.inside.wiring c.pass_on.new.fronts values) first c.pass_on.new.puts.items =
    passed_puts c.self.inside.wiring c.self.inside.values.items values c.deref_mut.result.now c.pass_on.new.fronts first c.pass_on.new.puts.items c.pass_on.ensures.told in
    let put' : ArePut c.args.self.now (gates_of c.self.inside.wiring c.pass_on.new.fronts values) first c.pass_on.new.puts.items =
    subst (λ (g : Gates). ArePut g (gates_of c.self.inside.wiring c.pass_on.new.fronts values) first c.pass_on.new.puts.items) c.self.view_is
    (subst (λ (fs : List Front). ArePut (gates_of c.self.inside.wiring fs c.self.inside.values.items) (gates_of c.self.inside.wiring c.pass_on.new.fronts values) first c.pass_on.new.puts.items) c.deref_mut.ensures.value put) in
    let put'' : ArePut c.args.self.now (gates_of c.self.inside.wiring c.pass_on.new.fronts values) c.args.puts.now.items c.pass_on.new.puts.items =
    subst (λ (ps : List Put). ArePut c.args.self.now (gates_of c.self.inside.wiring c.pass_on.new.fronts values) ps c.pass_on.new.puts.items) c.reserve-2.ensures.items put' in
    subst (λ (fs : List Front). ArePut c.args.self.now (gates_of c.self.inside.wiring fs values) c.args.puts.now.items c.pass_on.new.puts.items) (sym fronts) put''

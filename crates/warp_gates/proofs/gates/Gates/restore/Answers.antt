use Rattle.std.proofs.Common.{◌≡◌, ◌∙◌, ◌++◌, List, take, drop, length, map, sym, ap, subst, arith}
use Rattle.warp_gates.specs.declared.front.Front.{Front}
use Rattle.warp_gates.specs.Cells.{Gates, HaveRestored}
use Rattle.warp_gates.specs.Shown.Held.{gates_of}
use Rattle.warp_gates.proofs.Steps.{written_back}
use Rattle.warp_gates.proofs.Undoing.{queues_map, queues_restored, have_restored}
use Rattle.warp_gates.proofs.gates.Gates.restore.Goals as goal

pub returns-clause-queues : goal.returns-clause-queues
returns-clause-queues c =
    let len : c.self.inside.fronts.len ≡ length c.self.inside.fronts.items = omega arith in
    let fronts : take c.self.inside.fronts.len (c.restore_all.new.fronts ++ drop (length c.restore_all.new.fronts) c.self.inside.fronts.items) ≡ c.restore_all.new.fronts =
    written_back c.self.inside.fronts.items c.restore_all.new.fronts c.self.inside.fronts.len len (c.restore_all.ensures.same ∙ ap (λ (fs : List Front). length fs) c.deref_mut.ensures.value) in
    ap (λ (fs : List Front). map (λ (f : Front). f.queue) fs) fronts
    ∙ queues_map c.deref_mut.result.now c.restore_all.new.fronts (queues_restored c.self.inside.wiring c.args.words.now c.deref_mut.result.now c.restore_all.new.fronts c.restore_all.ensures)
    ∙ ap (λ (fs : List Front). map (λ (f : Front). f.queue) fs) c.deref_mut.ensures.value
    ∙ ap (λ (g : Gates). g.queues) c.self.view_is

pub returns-clause-outputs : goal.returns-clause-outputs
returns-clause-outputs c =
    let len : c.self.inside.fronts.len ≡ length c.self.inside.fronts.items = omega arith in
    let fronts : take c.self.inside.fronts.len (c.restore_all.new.fronts ++ drop (length c.restore_all.new.fronts) c.self.inside.fronts.items) ≡ c.restore_all.new.fronts =
    written_back c.self.inside.fronts.items c.restore_all.new.fronts c.self.inside.fronts.len len (c.restore_all.ensures.same ∙ ap (λ (fs : List Front). length fs) c.deref_mut.ensures.value) in
    let same : length c.deref_mut.result.now ≡ length c.self.inside.wiring = ap (λ (fs : List Front). length fs) c.deref_mut.ensures.value ∙ c.self.invariant.fronts.same in
    let back : HaveRestored c.args.words.now (gates_of c.self.inside.wiring c.deref_mut.result.now c.self.inside.values.items) (gates_of c.self.inside.wiring c.restore_all.new.fronts c.self.inside.values.items) =
    have_restored c.self.inside.wiring c.self.inside.values.items c.args.words.now c.deref_mut.result.now c.restore_all.new.fronts same c.restore_all.ensures in
    let back' : HaveRestored c.args.words.now c.args.self.now (gates_of c.self.inside.wiring c.restore_all.new.fronts c.self.inside.values.items) =
    subst (λ (g : Gates). HaveRestored c.args.words.now g (gates_of c.self.inside.wiring c.restore_all.new.fronts c.self.inside.values.items)) c.self.view_is
    (subst (λ (fs : List Front). HaveRestored c.args.words.now (gates_of c.self.inside.wiring fs c.self.inside.values.items) (gates_of c.self.inside.wiring c.restore_all.new.fronts c.self.inside.values.items)) c.deref_mut.ensures.value back) in
    subst (λ (fs : List Front). HaveRestored c.args.words.now c.args.self.now (gates_of c.self.inside.wiring fs c.self.inside.values.items)) (sym fronts) back'

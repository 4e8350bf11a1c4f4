use Rattle.std.proofs.Common.{◌≡◌, ◌∙◌, ◌<◌, ◌++◌, ℕ, List, Option, Some, IfSome, All, length, ap, sym, subst, arith}
use Rattle.std.proofs.lemmas.List.{nil_from_length}
use Rattle.std.proofs.lemmas.List.Elements.{All-append, All-nil, All-rest}
use Rattle.std.proofs.lemmas.Result.{err_from_is_err_and}
use Rattle.std.specs.Vec.Iter.{into_iter_items}
use Rattle.warp_process.specs.declared.message.Message.{Message}
use Rattle.warp_rounds.specs.declared.runs.Made.{Made}
use Rattle.warp_rounds.specs.Inner.Work.{AreThere, IsUndelivered}
use Rattle.warp_rounds.proofs.Faulting.{only_memory}
use Rattle.warp_rounds.proofs.runs.sites_of.Goals as goal

pub loop-made-preserved : goal.loop-made-preserved
loop-made-preserved g c =
    let IsThere : Option (Made g.row.L.Denot g.L.Logs) → Type 0 = λ one. IfSome one (λ made. AreThere c.args.cut.now.blocks made.sent.items) in
    let h = c.loop-made.invariant in
    let steps = c.in-Some.ensures.steps in
    let some = c.in-Some-made.is in
    let is : c.in-Some.made ≡ Some c.in-Some-made.field-0 = cc in
    let first : IsThere c.in-Some.made = subst (All IsThere) steps.0 h.left 0 c.in-Some.made (omega arith) in
    let here : AreThere c.args.cut.now.blocks c.in-Some-made.field-0.sent.items = subst IsThere is first in
    record {
      can_next = tt;
      is_finite = tt;
      count = omega (arith, ap length steps.0, h.count, c.in_ok-push.ensures.len);
      few = h.few;
      left = All-rest IsThere c.in-Some.made _ _ steps.0 h.left;
      there = subst (AreThere c.args.cut.now.blocks) (sym (c.in_ok-extend_from_slice.ensures.items ∙ ap (λ (ms : List Message). c.loop-made.desk.sent.items ++ ms) c.as_slice.ensures.value))
          (All-append (λ (m : Message). m.block < c.args.cut.now.blocks) c.loop-made.desk.sent.items c.in-Some-made.field-0.sent.items h.there here);
    }

pub loop-made-init : goal.loop-made-init
loop-made-init g c =
    let items = c.into_iter-made-iterator.ensures.into_iter_gives.0 in
    record {
      can_next = tt;
      is_finite = tt;
      count = omega (arith, c.new-sites.ensures.len, c.in_ok-made-items.ensures.count, ap length items, c.in_ok-made-items.made-items.ok.0);
      few = omega (arith, c.in_ok-made-items.ensures.count, c.in_ok-made-items.ensures.few);
      left = subst (All (λ (one : Option (Made g.row.L.Denot g.L.Logs)). IfSome one (λ made. AreThere c.args.cut.now.blocks made.sent.items))) (sym items) c.in_ok-made-items.ensures.there;
      there = subst (AreThere c.args.cut.now.blocks) (sym c.new-desk.ensures) (All-nil (λ (m : Message). m.block < c.args.cut.now.blocks));
    }

pub returns-in_err-deliver-clause-fault : goal.returns-in_err-deliver-clause-fault
returns-in_err-deliver-clause-fault g c =
    let p = err_from_is_err_and c.from_residual-in_err-deliver.result c.from_residual-in_err-deliver.ensures.1 in
    let none = nil_from_length (into_iter_items c.loop-made.made-iterator) (omega (arith, c.in-None.ensures.steps.0, c.loop-made.made-iterator.rest.ok.0)) in
    let count : length c.as_slice-2.result.now ≡ c.args.cut.now.blocks = omega (arith, c.as_slice-2.ensures.len, c.loop-made.invariant.count, ap length none) in
    rw (p.1, p.2) (only_memory c.args.cut.now.blocks c.loop-made.desk.sent.items c.in_err-deliver.field-0.0 c.loop-made.invariant.there
    (subst (λ (n : ℕ). IsUndelivered n c.loop-made.desk.sent.items c.in_err-deliver.field-0.0) count c.in_err-deliver.ensures.fault))

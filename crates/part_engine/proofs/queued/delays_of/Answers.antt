use Rattle.std.proofs.Common.{eqb, Vec, ℕ, ◌+◌, ◌∙◌, sym, subst, ap, arith}
use Rattle.std.specs.declared.alloc.Global.{Global}
use Rattle.std.proofs.lemmas.List.Filters.{dedup_is}
use Rattle.part_engine.specs.Inner.Queues.{HaveDelays}
use Rattle.part_engine.proofs.Queueing.{delays_none, delays_more, delays_same, delays_settled}
use Rattle.part_engine.proofs.queued.delays_of.Goals as goal
use Rattle.part_engine.proofs.queued.delays_of.Goals.{then-is_put_out+in_ok-push, else-is_put_out}

pub loop-slot-init : goal.loop-slot-init
loop-slot-init c = subst (HaveDelays c.args.part.now c.args.used 0) (sym c.new-delays.ensures.items) (delays_none c.args.part.now c.args.used)

pub loop-slot-preserved : goal.loop-slot-preserved
loop-slot-preserved c = elim c.if-is_put_out.branch [
  | then-is_put_out+in_ok-push w ↦
      (let e = ap (λ (v : Vec ℕ Global). v.items) w.delays-is ∙ w.in_ok-push.ensures.items in
      subst (HaveDelays c.args.part.now c.args.used (c.loop-slot.slot + 1)) (sym e) (delays_more c.args.part.now c.args.used c.loop-slot.slot w.delay.result c.loop-slot.delays.items w.delay.ensures.delay c.loop-slot.invariant))
  | else-is_put_out w ↦
      subst (λ (v : Vec ℕ Global). HaveDelays c.args.part.now c.args.used (c.loop-slot.slot + 1) v.items) (sym w.delays-is)
      (delays_same c.args.part.now c.args.used c.loop-slot.slot c.loop-slot.delays.items (sym c.is_put_out.ensures ∙ w.if-is_put_out.false) c.loop-slot.invariant)
]

pub returns : goal.returns
returns c =
    delays_settled c.args.part.now c.args.used c.loop-slot.slot c.loop-slot.delays.items c.sort_unstable.new.self.items c.dedup.new.self.items
    (omega (arith, c.len-slot-end.ensures.count, c.loop-slot-test.false)) (omega (arith, c.len-slot-end.ensures.few, c.loop-slot.auto.slot-end)) c.loop-slot.invariant
    c.sort_unstable.ensures.permutation c.sort_unstable.ensures.sorted (omega (arith, c.sort_unstable.ensures.len))
    (dedup_is eqb c.sort_unstable.new.self.items c.dedup.new.self.items c.dedup.ensures.filtered) (omega (arith, c.dedup.ensures.bound))

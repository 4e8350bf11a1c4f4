use Rattle.std.proofs.Common.{◌≡◌, ◌<◌, ◌++◌, ℕ, List, Option, IfSome, get_or, length, take, drop, ap, subst, sym, arith}
use Rattle.std.proofs.lemmas.Grind.{common_steps}
use Rattle.warp_rounds.specs.declared.runs.Made.{Made}
use Rattle.warp_rounds.specs.Inner.Work.{AreThere}
use Rattle.warp_rounds.proofs.runs.made_by.Goals as goal

-- a slice that stands for all of a list is what the list becomes
written : {T : Type 0} → (new old : List T) (n : ℕ) → length new ≡ n → length old ≡ n → take n (new ++ drop (length new) old) ≡ new
written new old n first second = grind (arith, common_steps)

pub for_each_mut-requires-clause-accepts : goal.for_each_mut-requires-clause-accepts
for_each_mut-requires-clause-accepts g c κs within = λ i p l e. (
  omega (arith, l, ap length c.as_mut_slice.ensures.value, c.loop.made.ok.0, c.loop.invariant.count, c.loop.invariant.end, c.loop.auto.counter-end, c.loop-test.false),
  c.requires.cut,
  c.requires.horizon,
)

pub returns-clause-there : goal.returns-clause-there
returns-clause-there g c =
    let M : Type 0 = Option (Made g.row.L.Denot g.L.Logs) in
    let made : List M = c.for_each_mut.new.s in
    let old : c.as_mut_slice.result.now ≡ c.loop.made.items = c.as_mut_slice.ensures.value in
    let longer : length made ≡ length c.as_mut_slice.result.now = c.for_each_mut.auto.s in
    let all = written made c.loop.made.items c.loop.made.len (omega (arith, longer, ap length old, c.loop.made.ok.0)) (sym c.loop.made.ok.0) in
    subst (λ (ms : List M). (k : ℕ) (d : M) → k < length ms → IfSome (get_or ms k d) (λ one. AreThere c.args.cut.now.blocks one.sent.items)) (sym all)
    (λ k d l.
    let within : k < length c.as_mut_slice.result.now = omega (arith, l, longer) in
    let call = (c.for_each_mut.ensures k d within).1 in
    subst (λ (o : M). IfSome o (λ one. AreThere c.args.cut.now.blocks one.sent.items)) call.left call.call)

use Rattle.std.proofs.Common.{◌≡◌, ◌+◌, ◌-◌, ◌<◌, ℕ, List, [], length, drop, sym, subst, arith}
use Rattle.std.proofs.lemmas.List.{drop_all}
use Rattle.std.specs.List.{All, flat_map}
use Rattle.warp_stores.specs.Words.{Move}
use Rattle.warp_stores.specs.Delays.{Delayed, queue_at, made_since}
use Rattle.warp_gates.specs.Cells.{HaveRestored}
use Rattle.warp_journal.proofs.Restoring.{AreRestoring, restoring_none, restoring_back, back_asks, same_queue}
use Rattle.warp_journal.proofs.stepping.restore_from.Goals as goal

pub loop-left-init : goal.loop-left-init
loop-left-init c =
    let none : drop (length c.args.queues.now) c.args.queues.now ≡ [] = drop_all (length c.args.queues.now) c.args.queues.now (omega arith) in (
      omega (arith, c.len-left.ensures),
      subst (λ (n : ℕ). AreRestoring (flat_map (made_since c.args.step) (drop n c.args.queues.now)) c.args.gates.now c.args.gates.now) (sym c.len-left.ensures)
          (subst (λ (qs : List Delayed). AreRestoring (flat_map (made_since c.args.step) qs) c.args.gates.now c.args.gates.now) (sym none) (restoring_none c.args.gates.now c.law.ensures.gates)),
    )

pub restore-requires : goal.restore-requires
restore-requires c =
    let k : ℕ = c.loop-left.left - 1 in
    let back : AreRestoring (flat_map (made_since c.args.step) (drop c.loop-left.left c.args.queues.now)) c.args.gates.now c.loop-left.gates = c.loop-left.invariant.1 in
    subst (λ (ws : List Move). All (λ w. w.place < length c.loop-left.gates.cells) ws) (sym c.made_since.ensures)
    (back_asks (made_since c.args.step) c.args.queues.now k (queue_at c.args.queues.now k) c.args.gates.now c.loop-left.gates c.requires (omega (arith, c.loop-left.invariant.0, c.loop-left-test.true)) (same_queue c.args.queues.now k (omega (arith, c.loop-left.invariant.0, c.loop-left-test.true))) back.cells)

pub loop-left-preserved : goal.loop-left-preserved
loop-left-preserved c =
    let k : ℕ = c.loop-left.left - 1 in
    let within : k < length c.args.queues.now = omega (arith, c.loop-left.invariant.0, c.loop-left-test.true) in
    let next : k + 1 ≡ c.loop-left.left = omega (arith, c.loop-left-test.true) in
    let back : AreRestoring (flat_map (made_since c.args.step) (drop c.loop-left.left c.args.queues.now)) c.args.gates.now c.loop-left.gates = c.loop-left.invariant.1 in
    let back' : AreRestoring (flat_map (made_since c.args.step) (drop (k + 1) c.args.queues.now)) c.args.gates.now c.loop-left.gates =
    subst (λ (n : ℕ). AreRestoring (flat_map (made_since c.args.step) (drop n c.args.queues.now)) c.args.gates.now c.loop-left.gates) (sym next) back in
    let restored : HaveRestored (made_since c.args.step (queue_at c.args.queues.now k)) c.loop-left.gates c.restore.new.self =
    subst (λ (ws : List Move). HaveRestored ws c.loop-left.gates c.restore.new.self) c.made_since.ensures c.restore.ensures.outputs in (
      omega arith,
      restoring_back (made_since c.args.step) c.args.queues.now k (queue_at c.args.queues.now k) c.args.gates.now c.loop-left.gates c.restore.new.self c.law.ensures.gates c.requires within (same_queue c.args.queues.now k within) back'
          c.restore.ensures.cells c.restore.ensures.queues c.restore.ensures.values c.law-in-loop-left.ensures.gates restored,
    )

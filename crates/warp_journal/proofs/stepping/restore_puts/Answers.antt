use Rattle.std.proofs.Common.{◌≡◌, ◌∙◌, ◌+◌, ◌-◌, ◌<◌, ◌∷◌, ℕ, List, [], length, drop, slice_index_or, ap, sym, subst, arith}
use Rattle.std.specs.List.{All, flat_map}
use Rattle.std.proofs.lemmas.List.{drop_all}
use Rattle.warp_stores.specs.Words.{Move}
use Rattle.warp_gates.specs.declared.put.Put.{Put}
use Rattle.warp_gates.specs.Cells.{HaveRestored}
use Rattle.warp_journal.proofs.Restoring.{AreRestoring, restoring_none, restoring_back, back_asks, flat_singles, same_at}
use Rattle.warp_journal.proofs.stepping.restore_puts.Goals as goal

pub loop-left-init : goal.loop-left-init
loop-left-init c =
    let single : Put → List Move = λ p. p.word ∷ [] in
    let none : drop (length c.args.puts.now) c.args.puts.now ≡ [] = drop_all (length c.args.puts.now) c.args.puts.now (omega arith) in
    (omega arith, subst (λ (ps : List Put). AreRestoring (flat_map single ps) c.args.gates.now c.args.gates.now) (sym none) (restoring_none c.args.gates.now c.law.ensures.gates))

pub restore-requires : goal.restore-requires
restore-requires c =
    let single : Put → List Move = λ p. p.word ∷ [] in
    let k : ℕ = c.loop-left.left - 1 in
    let put : Put = slice_index_or c.args.puts.now k c.index-puts-left.result in
    let within_puts : k < length c.args.puts.now = omega (arith, c.loop-left.invariant.0, c.loop-left-test.true) in
    let is : put ≡ slice_index_or c.args.puts.now k put = same_at c.args.puts.now k c.index-puts-left.result put within_puts in
    let back : AreRestoring (flat_map single (drop c.loop-left.left c.args.puts.now)) c.args.gates.now c.loop-left.gates = c.loop-left.invariant.1 in
    let within : All (λ (w : Move). w.place < length c.args.gates.now.cells) (flat_map single c.args.puts.now) =
    subst (All (λ (w : Move). w.place < length c.args.gates.now.cells)) (sym (flat_singles (λ (p : Put). p.word) c.args.puts.now)) c.requires in
    back_asks single c.args.puts.now k put c.args.gates.now c.loop-left.gates within within_puts is back.cells

pub loop-left-preserved : goal.loop-left-preserved
loop-left-preserved c =
    let single : Put → List Move = λ p. p.word ∷ [] in
    let k : ℕ = c.loop-left.left - 1 in
    let put : Put = slice_index_or c.args.puts.now k c.index-puts-left.result in
    let within_puts : k < length c.args.puts.now = omega (arith, c.loop-left.invariant.0, c.loop-left-test.true) in
    let is : put ≡ slice_index_or c.args.puts.now k put = same_at c.args.puts.now k c.index-puts-left.result put within_puts in
    let next : k + 1 ≡ c.loop-left.left = omega (arith, c.loop-left-test.true) in
    let back : AreRestoring (flat_map single (drop c.loop-left.left c.args.puts.now)) c.args.gates.now c.loop-left.gates = c.loop-left.invariant.1 in
    let back' : AreRestoring (flat_map single (drop (k + 1) c.args.puts.now)) c.args.gates.now c.loop-left.gates =
    subst (λ (n : ℕ). AreRestoring (flat_map single (drop n c.args.puts.now)) c.args.gates.now c.loop-left.gates) (sym next) back in
    let within : All (λ (w : Move). w.place < length c.args.gates.now.cells) (flat_map single c.args.puts.now) =
    subst (All (λ (w : Move). w.place < length c.args.gates.now.cells)) (sym (flat_singles (λ (p : Put). p.word) c.args.puts.now)) c.requires in (
      omega arith,
      restoring_back single c.args.puts.now k put c.args.gates.now c.loop-left.gates c.restore.new.self c.law.ensures.gates within within_puts is back'
          c.restore.ensures.cells c.restore.ensures.queues c.restore.ensures.values c.law-in-loop-left.ensures.gates c.restore.ensures.outputs,
    )

pub returns-clause-outputs : goal.returns-clause-outputs
returns-clause-outputs c =
    let single : Put → List Move = λ p. p.word ∷ [] in
    let none : c.loop-left.left ≡ 0 = omega (arith, c.loop-left-test.false) in
    let back : AreRestoring (flat_map single (drop c.loop-left.left c.args.puts.now)) c.args.gates.now c.loop-left.gates = c.loop-left.invariant.1 in
    subst (λ (ws : List Move). HaveRestored ws c.args.gates.now c.loop-left.gates) (ap (λ (n : ℕ). flat_map single (drop n c.args.puts.now)) none ∙ flat_singles (λ (p : Put). p.word) c.args.puts.now) back.outputs

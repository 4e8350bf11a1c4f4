use Rattle.std.proofs.Common.{◌≡◌, ◌∙◌, ◌<◌, ◌≤◌, ℕ, zero, suc, nat_eq, false, length, sym, subst, arith}
use Rattle.std.proofs.lemmas.Result.{err_from_is_err_and}
use Rattle.warp_rounds.specs.Inner.Work.{IsRoundFault}
use Rattle.warp_rounds.proofs.runs.rounds_of.Goals.{then-is_alone, else-is_alone, then-is_empty, else-is_empty}
use Rattle.warp_rounds.proofs.runs.rounds_of.Goals as goal

-- slices that aren't empty have items
some_items : (n : ℕ) → nat_eq n 0 ≡ false → 0 < n
some_items zero h = absurd cc
some_items (suc n) h = omega arith

pub play_at-requires-clause-some : goal.play_at-requires-clause-some
play_at-requires-clause-some g c κs within = λ several. elim c.if-is_empty.branch [
  | then-is_empty w ↦ absurd (omega (arith, several, w.workers-is))
  | else-is_empty w ↦ elim c.if-is_alone.branch [
    | then-is_alone u ↦ absurd (let a = u.value-is in let b = w.if-is_empty.false in cc)
    | else-is_alone u ↦ some_items (length c.args.sites.now) (sym u.is_empty.ensures ∙ (sym u.value-is ∙ w.if-is_empty.false))
  ]
]

pub returns-in_err-played-clause-fault : goal.returns-in_err-played-clause-fault
returns-in_err-played-clause-fault g c =
    let p = err_from_is_err_and c.from_residual.result c.from_residual.ensures.1 in
    let few : c.if-is_empty.workers ≤ c.args.term.workers = elim c.if-is_empty.branch [
      | then-is_empty w ↦ omega (arith, w.workers-is, c.requires.workers)
      | else-is_empty w ↦ omega (arith, w.workers-is)
    ] in
    rw (p.1, p.2) (record {
      floor = c.loop-floor.floor;
      seats = c.if-is_empty.workers;
      within = c.loop-floor-test.true;
      few = few;
      met = subst (λ (n : ℕ). IsRoundFault n c.if-is_empty.workers c.loop-floor.floor c.args.term.window c.in_err-played.field-0.0) (sym c.requires.blocks.0) c.in_err-played.ensures.fault;
    })

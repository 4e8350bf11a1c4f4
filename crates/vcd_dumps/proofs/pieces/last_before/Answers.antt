use Rattle.std.proofs.Common.{◌≡◌, ◌-◌, ◌+◌, ℕ, length, sym, ◌∙◌, ap, arith}
use Rattle.std.proofs.lemmas.Bool.Decides.{nat_tests}
use Rattle.net_waves.specs.Packed.{words_at, told_below}
use Rattle.vcd_dumps.specs.Walk.{last_stop}
use Rattle.vcd_dumps.proofs.PieceLaws.{last-here, last-earlier}
use Rattle.vcd_dumps.proofs.pieces.last_before.Goals as goal

pub returns-then-not-is_empty : goal.returns-then-not-is_empty
returns-then-not-is_empty c =
    let p = c.args.packed.now in
    let at : ℕ = c.loop-end.end - 1 in
    let back : at + 1 ≡ c.loop-end.end = omega (arith, c.loop-end-test.true) in
    let empty = rw c.words.ensures at c.is_empty.ensures in
    let some : length (words_at p at) ≡ 0 → ⊥ = λ none. grind (arith, nat_tests, none, empty, c.if-not-is_empty.true) in
    sym (last-here p at some) ∙ ap (λ (t : ℕ). last_stop 0 (told_below p t)) back ∙ c.loop-end.invariant.1

pub loop-end-preserved : goal.loop-end-preserved
loop-end-preserved c =
    let p = c.args.packed.now in
    let at : ℕ = c.loop-end.end - 1 in
    let back : at + 1 ≡ c.loop-end.end = omega (arith, c.loop-end-test.true) in
    let empty = rw c.words.ensures at c.is_empty.ensures in
    let none : length (words_at p at) ≡ 0 = grind (arith, nat_tests, empty, c.if-not-is_empty.false) in
    (omega (arith, c.loop-end.invariant.0), sym (last-earlier p at none) ∙ ap (λ (t : ℕ). last_stop 0 (told_below p t)) back ∙ c.loop-end.invariant.1)

use Rattle.std.proofs.Common.{◌≡◌, ◌≢◌, ◌∙◌, ◌-◌, ◌<◌, List, ℕ, zero, suc, length, get_or, ap, sym, refl, arith}
use Rattle.number_groups.specs.Inner.Rows.{start_at}
use Rattle.number_groups.proofs.Rowing.{start_at-zero, start_at-suc}
use Rattle.number_groups.proofs.rows.start_of.Goals as goal

pub returns-then-place-eq0 : goal.returns-then-place-eq0
returns-then-place-eq0 c = sym (ap (λ (n : ℕ). start_at 0 c.args.ends.now n) c.if-place-eq0.true ∙ start_at-zero 0 c.args.ends.now)

one_before : (es : List ℕ) (place : ℕ) → place ≢ 0 → place < length es → get_or es (place - 1) 0 ≡ start_at 0 es place
one_before es zero h k = absurd (h refl)
one_before es (suc place) h k =
    let back : suc place - 1 ≡ place = omega arith in
    ap (λ (n : ℕ). get_or es n 0) back ∙ sym (start_at-suc 0 es place (omega arith))

pub returns-else-place-eq0 : goal.returns-else-place-eq0
returns-else-place-eq0 c = one_before c.args.ends.now c.args.place c.if-place-eq0.false c.requires

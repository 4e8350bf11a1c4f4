use Rattle.std.proofs.Common.{◌≡◌, sym, ap, ◌∙◌}
use Rattle.std.proofs.lemmas.Bool.{eqb-true}
use Rattle.warp_part.specs.Portion.{Portion}
use Rattle.warp_part.proofs.PartEquality.{parts_same, one_same}
use Rattle.warp_part.proofs.part.Part.is_same.Goals.{then-self-other, else-self-other}
use Rattle.warp_part.proofs.part.Part.is_same.Goals as goal

pub returns-then-same_numbers : goal.returns-then-same_numbers
returns-then-same_numbers c = (
  λ e. parts_same c.args.self.now c.args.other.now c.law.ensures c.law-2.ensures block nets (c.is_same_everywhere.ensures.0 e),
  λ e. c.is_same_everywhere.ensures.1 (λ i l. one_same c.args.self.now c.args.other.now e i),
)
  where
    inside_block : c.self.inside.block ≡ c.other.inside.block
    inside_block = elim c.if-self-other.branch [
      | then-self-other w ↦ w.if-self-other.true
      | else-self-other w ↦ eqb-true c.self.inside.block c.other.inside.block (sym w.value-is ∙ c.if-same_numbers.true)
    ]

    block : c.args.self.now.block ≡ c.args.other.now.block
    block = ap (λ (p : Portion). p.block) (sym c.self.view_is) ∙ (inside_block ∙ ap (λ (p : Portion). p.block) c.other.view_is)

    nets : c.args.self.now.nets ≡ c.args.other.now.nets
    nets = elim c.if-self-other.branch [
      | then-self-other w ↦ rw (← c.self.view_is, ← c.other.view_is) (sym w.deref.ensures.value ∙ (w.same_numbers.ensures.0 (sym w.value-is ∙ c.if-same_numbers.true) ∙ w.deref-then-self-other.ensures.value))
      | else-self-other w ↦ absurd (w.if-self-other.false inside_block)
    ]

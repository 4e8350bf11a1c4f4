use Rattle.std.proofs.Common.{◌≡◌, ℕ, List, length, get_or, sym, subst, ap, ◌∙◌, arith}
use Rattle.event_times.specs.Marks.{IsRising}
use Rattle.event_times.proofs.Cutting.{rising_drop, way_on}
use Rattle.event_times.proofs.times.Times.keep_from.Goals as goal

last_is : (now then : List ℕ) (n last : ℕ) → now ≡ then → last ≡ get_or now n last → last ≡ get_or then n last
last_is now then n last same is = is ∙ ap (λ (ts : List ℕ). get_or ts n last) same

pub loop-gone-preserved : goal.loop-gone-preserved
loop-gone-preserved c = (
  way_on c.args.floor c.loop-gone.gone c.loop-gone.self-inside.first c.index-last.result.now (record { first = c.self.inside.first; times = c.self.inside.times.items }) c.loop-gone.invariant.0
      (omega (arith, c.loop-gone-test.true, c.len.ensures, ap length c.loop-gone.invariant.1)) (last_is _ _ _ _ c.loop-gone.invariant.1 c.index-last.ensures) (omega (arith, c.if-last-floor.false)),
  c.loop-gone.invariant.1,
)

pub invariant_of-self : goal.invariant_of-self
invariant_of-self c =
    subst (IsRising 0) (sym c.drop_front.ensures) (rising_drop 0 c.loop-gone.gone c.loop-gone.self-inside.times.items (subst (IsRising 0) (sym c.loop-gone.invariant.1) c.self.invariant))

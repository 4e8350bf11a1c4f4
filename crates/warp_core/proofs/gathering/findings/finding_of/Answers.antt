use Rattle.std.proofs.Common.{◌≡◌, ◌∙◌, Bool, true, false, not, MatchBool, refl, ap, sym, arith}
use Rattle.std.proofs.lemmas.Bool.{true≢false}
use Rattle.warp_process.specs.View.{View}
use Rattle.warp_core.specs.Matched.{seen_at, IsBlockOf}
use Rattle.warp_core.proofs.Sweeping.{seen_is}
use Rattle.warp_core.proofs.gathering.findings.finding_of.Goals as goal

pub returns : goal.returns
returns g c = record {
  part = go c.is_of.result refl;
  told = λ of. c.in_ok-untold.ensures c.args.circuit.now of;
}
  where
    here : c.index-blocks-number.result.seen ≡ seen_at c.args.blocks.now c.args.number
    here = seen_is c.args.blocks.now c.args.number c.index-blocks-number.result (omega (arith, c.requires.number, c.requires.count)) c.index-blocks-number.is

    Is : Type 0
    Is = IsBlockOf c.args.circuit.now c.args.cut.now c.args.horizon c.args.number (seen_at c.args.blocks.now c.args.number)

    go : (b : Bool) → c.is_of.result ≡ b → MatchBool (not b) (¬ Is) Is
    go true e =
        let both = c.is_of.ensures.0 e in
        record {
          part = ap (λ (v : View). v.part) (sym here) ∙ both.0 ∙ c.in_ok-part.ensures;
          horizon_is = ap (λ (v : View). v.horizon) (sym here) ∙ both.1;
        }
    go false e = λ is. true≢false (sym (c.is_of.ensures.1 (ap (λ (v : View). v.part) here ∙ is.part ∙ sym c.in_ok-part.ensures, ap (λ (v : View). v.horizon) here ∙ is.horizon_is)) ∙ e)

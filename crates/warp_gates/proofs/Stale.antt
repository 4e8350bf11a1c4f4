-- Edges that are listed, one to each place that is stale.
use Rattle.std.proofs.Common.{◌≡◌, ◌∙◌, inl, inr, ℕ, suc, ◌/◌, ◌<◌, ◌≤◌, Bool, true, false, ◌||◌, eqb, cond, List, [], ◌∷◌, ◌++◌, length, get_or, set, refl, ap, sym, subst, arith}
use Rattle.std.proofs.lemmas.List.{append-nil, length-set, length-append, get_or-set_other}
use Rattle.warp_gates.specs.declared.front.Front.{Front}
use Rattle.warp_gates.specs.Inner.Fronts.{has, has_gate, front_at, AreSettled}
use Rattle.warp_gates.specs.Inner.Told.{AreListed}
use Rattle.warp_gates.proofs.Showing.{same_or_not, eqb_same, or_true, has-append, has_gate-append}
use Rattle.warp_gates.proofs.Moving.{either}

-- where no place is stale, none is listed
pub listed_nothing : (fronts : List Front) → AreSettled fronts → AreListed [] fronts []
listed_nothing fronts settled = record {
  some = λ edge h. h;
  all = λ place d within stale. (let fresh : (front_at d fronts place).is_stale ≡ false = settled.each place d within in cc);
  few = omega arith;
}

-- what a place's edge was put behind, if it wasn't stale
abbrev listed_with : ℕ → Bool → List ℕ → List ℕ
listed_with edge was stale = cond was stale (stale ++ edge ∷ [])

some_more : (before stale : List ℕ) (edge x : ℕ) (was : Bool) → ((y : ℕ) → has stale y ≡ true → has before y ≡ true) → has (listed_with edge was stale) x ≡ true → has (before ++ edge ∷ []) x ≡ true
some_more before stale edge x true some h = has-append before edge x ∙ ap (λ (b : Bool). b || eqb edge x) (some x h)
some_more before stale edge x false some h = elim (either (has stale x) (eqb edge x) (sym (has-append stale edge x) ∙ h)) [
  | inl was ↦ has-append before edge x ∙ ap (λ (b : Bool). b || eqb edge x) (some x was)
  | inr here ↦ has-append before edge x ∙ ap (λ (b : Bool). has before x || b) here ∙ or_true (has before x)
]

gate_stays : (stale : List ℕ) (edge place : ℕ) (was : Bool) → has_gate stale place ≡ true → has_gate (listed_with edge was stale) place ≡ true
gate_stays stale edge place true h = h
gate_stays stale edge place false h = has_gate-append stale edge place ∙ ap (λ (b : Bool). b || eqb (edge / 8) place) h

gate_here : (stale : List ℕ) (edge place : ℕ) (was : Bool) → edge / 8 ≡ place → (was ≡ true → has_gate stale place ≡ true) → has_gate (listed_with edge was stale) place ≡ true
gate_here stale edge place true here h = h refl
gate_here stale edge place false here h = has_gate-append stale edge place ∙ ap (λ (b : Bool). has_gate stale place || b) (eqb_same (edge / 8) place here) ∙ or_true (has_gate stale place)

few_more : (stale : List ℕ) (edge : ℕ) (was : Bool) → length (listed_with edge was stale) ≤ suc (length stale)
few_more stale edge true = omega arith
few_more stale edge false = omega (arith, length-append stale (edge ∷ []))

-- one edge more, at which a value is shown
pub listed_more : (before : List ℕ) (edge : ℕ) (mid : List Front) (e g : Front) (stale new : List ℕ) → AreListed before mid stale → edge / 8 < length mid → new ≡ cond (get_or mid (edge / 8) e).is_stale stale (stale ++ edge ∷ [])
    → AreListed (before ++ edge ∷ []) (set mid (edge / 8) g) new
listed_more before edge mid e g stale new listed within is =
    let was : Bool = (get_or mid (edge / 8) e).is_stale in
    subst (λ (es : List ℕ). AreListed (before ++ edge ∷ []) (set mid (edge / 8) g) es) (sym is)
    record {
      some = λ x h. some_more before stale edge x was listed.some h;
      all = λ place d h s.
          let len : length (set mid (edge / 8) g) ≡ length mid = length-set mid (edge / 8) g in
          elim (same_or_not place (edge / 8)) [
            | inl here ↦
                gate_here stale edge place was (sym here)
                (λ so. listed.all place e (omega arith) (ap (λ (i : ℕ). (front_at e mid i).is_stale) here ∙ so))
            | inr there ↦
                let at : front_at d (set mid (edge / 8) g) place ≡ front_at d mid place = get_or-set_other mid (edge / 8) place g d there in
                gate_stays stale edge place was (listed.all place d (omega arith) (sym (ap (λ (x : Front). x.is_stale) at) ∙ s))
          ];
      few = omega (arith, few_more stale edge was, length-append before (edge ∷ []), listed.few);
    }

-- no edge more
pub listed_none : (before : List ℕ) (fronts : List Front) (stale : List ℕ) → AreListed before fronts stale → AreListed (before ++ []) fronts stale
listed_none before fronts stale h = subst (λ (es : List ℕ). AreListed es fronts stale) (sym (append-nil before)) h

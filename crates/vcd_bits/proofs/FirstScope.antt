-- The scope of the first variable that has bits, a variable at a time.
use Rattle.std.proofs.Common.{◌≡◌, ℕ, zero, suc, ◌+◌, ◌<◌, true, false, List, [], ◌∷◌, length, drop, get_or, min, Vec, Global, refl, ap, sym, ◌∙◌, arith, add-one}
use Rattle.std.proofs.lemmas.List.{get_or-map, length-map}
use Rattle.gate_vcd.specs.Declarations.{Variable}
use Rattle.gate_vcd.specs.declared.variable.Variable.{Variable as Held}
use Rattle.gate_vcd.specs.Shown.Commands.{variable, variables}
use Rattle.vcd_bits.specs.Names.{first_scope}
use Rattle.vcd_bits.specs.Shown.Held.{texts_in}

-- a variable without bits is passed over
pub first-on : (paths : List (List ℕ)) (vs : List Variable) (i : ℕ) (v : Variable) → i < length paths → i < length vs → (get_or vs i v).valued ≡ false → first_scope (drop i paths) (drop i vs) ≡ first_scope (drop (i + 1) paths) (drop (i + 1) vs)
first-on paths vs i v lp lv e = by paths vs i lp lv e ∙ ap (λ n. first_scope (drop n paths) (drop n vs)) (sym (add-one i))
  where
    by : (paths : List (List ℕ)) (vs : List Variable) (i : ℕ) → i < length paths → i < length vs → (get_or vs i v).valued ≡ false → first_scope (drop i paths) (drop i vs) ≡ first_scope (drop (suc i) paths) (drop (suc i) vs)
    by [] vs i lp lv e = absurd (omega arith)
    by (p ∷ paths) [] i lp lv e = absurd (omega arith)
    by (p ∷ paths) (w ∷ vs) zero lp lv e = rw e refl
    by (p ∷ paths) (w ∷ vs) (suc i) lp lv e = by paths vs i (omega arith) (omega arith) e

-- a variable with bits is the first one
pub first-found : (paths : List (List ℕ)) (vs : List Variable) (i : ℕ) (p : List ℕ) (v : Variable) → i < length paths → i < length vs → (get_or vs i v).valued ≡ true → first_scope (drop i paths) (drop i vs) ≡ get_or paths i p
first-found [] vs i p v lp lv e = absurd (omega arith)
first-found (q ∷ paths) [] i p v lp lv e = absurd (omega arith)
first-found (q ∷ paths) (w ∷ vs) zero p v lp lv e = rw e refl
first-found (q ∷ paths) (w ∷ vs) (suc i) p v lp lv e = first-found paths vs i p v (omega arith) (omega arith) e

-- no variable is left
pub first-none : (paths : List (List ℕ)) (vs : List Variable) (n : ℕ) → n ≡ min (length vs) (length paths) → first_scope (drop n paths) (drop n vs) ≡ []
first-none [] vs n e = let none : n ≡ 0 = omega arith in rw none refl
first-none (q ∷ paths) [] n e = let none : n ≡ 0 = omega arith in rw none refl
first-none (q ∷ paths) (w ∷ vs) zero e = absurd (omega arith)
first-none (q ∷ paths) (w ∷ vs) (suc n) e = first-none paths vs n (omega arith)

-- the same of what is kept
module _ (paths : List (Vec ℕ Global)) (vs : List Held) (at : ℕ) (h : first_scope (texts_in paths) (variables vs) ≡ first_scope (drop at (texts_in paths)) (drop at (variables vs))) where
  pub scope-on : (v : Held) → at < length paths → at < length vs → v ≡ get_or vs at v → v.valued ≡ false → first_scope (texts_in paths) (variables vs) ≡ first_scope (drop (at + 1) (texts_in paths)) (drop (at + 1) (variables vs))
  scope-on v lp lv ev e =
      h ∙ first-on (texts_in paths) (variables vs) at (variable v) (omega (arith, lp, length-map paths (λ (x : Vec ℕ Global). x.items))) (omega (arith, lv, length-map vs variable)) (ap (λ (w : Variable). w.valued) (get_or-map variable vs at v (variable v) lv) ∙ ap (λ (w : Held). w.valued) (sym ev) ∙ e)

  pub scope-found : (p : Vec ℕ Global) (text : List ℕ) (v : Held) → at < length paths → at < length vs → p ≡ get_or paths at p → text ≡ p.items → v ≡ get_or vs at v → v.valued ≡ true → text ≡ first_scope (texts_in paths) (variables vs)
  scope-found p text v lp lv ep et ev e =
      et ∙ ap (λ (x : Vec ℕ Global). x.items) ep ∙ sym (get_or-map (λ (x : Vec ℕ Global). x.items) paths at p p.items lp)
      ∙ sym (h ∙ first-found (texts_in paths) (variables vs) at p.items (variable v) (omega (arith, lp, length-map paths (λ (x : Vec ℕ Global). x.items))) (omega (arith, lv, length-map vs variable)) (ap (λ (w : Variable). w.valued) (get_or-map variable vs at v (variable v) lv) ∙ ap (λ (w : Held). w.valued) (sym ev) ∙ e))

  pub scope-none : at ≡ min (length vs) (length paths) → [] ≡ first_scope (texts_in paths) (variables vs)
  scope-none e = sym (h ∙ first-none (texts_in paths) (variables vs) at (omega (arith, e, length-map paths (λ (x : Vec ℕ Global). x.items), length-map vs variable)))

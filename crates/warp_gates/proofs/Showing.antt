-- Values that are shown along edges.
use Rattle.std.proofs.Common.{◌≡◌, ◌≢◌, ◌∙◌, ◌⊎◌, inl, inr, ℕ, ◌/◌, ◌%◌, ◌<◌, Bool, true, false, ◌||◌, eqb, cond, List, [], ◌∷◌, ◌++◌, length, get_or, set, refl, ap, sym, subst, arith}
use Rattle.std.proofs.lemmas.List.{length-set, get_or-set_same, get_or-set_other, get_or_default}
use Rattle.std.proofs.lemmas.List.Folds.{list_any-append}
use Rattle.std.proofs.lemmas.Grind.{common_steps}
use Rattle.gate_values.specs.declared.logic.Logic.{Logic}
use Rattle.gate_values.specs.declared.logic.Logic.TheVariants.{X}
use Rattle.warp_gates.specs.declared.front.Front.{Front}
use Rattle.warp_gates.specs.Cells.{value_at}
use Rattle.warp_gates.specs.Inner.Pins.{pins_of}
use Rattle.warp_gates.specs.Inner.Fronts.{has, has_gate, edge_of, front_at, IsShown, AreShown, IsShownAt}

pub same_or_not : (i j : ℕ) → (i ≡ j) ⊎ (i ≢ j)
same_or_not i j = grind arith

pub eqb_same : (i j : ℕ) → i ≡ j → eqb i j ≡ true
eqb_same i j h = grind (arith, common_steps)

pub eqb_other : (i j : ℕ) → i ≢ j → eqb i j ≡ false
eqb_other i j h = grind (arith, common_steps)

pub value_at-set : (values : List Logic) (i k : ℕ) (v : Logic) → i < length values → value_at (set values i v) k ≡ cond (eqb k i) v (value_at values k)
value_at-set values i k v h =
    elim (same_or_not k i) [
      | inl same ↦ rw (same, eqb_same i i refl) (get_or-set_same values i v X h)
      | inr other ↦ rw (eqb_other k i other) (get_or-set_other values i k v X other)
    ]

pub or_false : (b : Bool) → (b || false) ≡ b
or_false true = refl
or_false false = refl

pub or_true : (b : Bool) → (b || true) ≡ true
or_true true = refl
or_true false = refl

pub has-append : (xs : List ℕ) (x n : ℕ) → has (xs ++ x ∷ []) n ≡ (has xs n || eqb x n)
has-append xs x n = list_any-append (λ y. eqb y n) xs (x ∷ []) ∙ ap (λ (b : Bool). has xs n || b) (or_false (eqb x n))

pub has_gate-append : (xs : List ℕ) (x n : ℕ) → has_gate (xs ++ x ∷ []) n ≡ (has_gate xs n || eqb (x / 8) n)
has_gate-append xs x n = list_any-append (λ y. eqb (y / 8) n) xs (x ∷ []) ∙ ap (λ (b : Bool). has_gate xs n || b) (or_false (eqb (x / 8) n))

shown_nothing : (value : Logic) (place : ℕ) (f : Front) → IsShown [] value place f f
shown_nothing value place f = record { queue = refl; kind = refl; output = refl; pins = λ k h. refl; stale = sym (or_false f.is_stale) }

pub shown_none : (value : Logic) (fronts : List Front) → AreShown [] value fronts fronts
shown_none value fronts = record { same = refl; each = λ place d h. shown_nothing value place (front_at d fronts place) }

or_more : (a b c : Bool) → (a || (b || c)) ≡ ((a || b) || c)
or_more true b c = refl
or_more false b c = refl

-- one edge more to a place
shown_here : (edges : List ℕ) (edge : ℕ) (value : Logic) (place : ℕ) (f g h : Front) → edge / 8 ≡ place → IsShown edges value place f g → IsShownAt (edge % 8) value g h → IsShown (edges ++ edge ∷ []) value place f h
shown_here edges edge value place f g h here old new =
    record {
      queue = new.queue ∙ old.queue;
      kind = new.kind ∙ old.kind;
      output = new.output ∙ old.output;
      pins = λ k small.
          let goal : Bool → Type 0 = λ b. value_at (pins_of h.pins) k ≡ cond b value (value_at (pins_of f.pins) k) in
          subst goal (sym (has-append edges edge (edge_of place k)))
          (elim (same_or_not k (edge % 8)) [
            | inl same ↦
                let e : edge ≡ edge_of place k = omega arith in
                rw (eqb_same edge (edge_of place k) e, or_true (has edges (edge_of place k))) (new.pins k small ∙ rw (eqb_same k (edge % 8) same) refl)
            | inr other ↦
                let e : edge ≢ edge_of place k = omega arith in
                rw (eqb_other edge (edge_of place k) e, or_false (has edges (edge_of place k))) (new.pins k small ∙ rw (eqb_other k (edge % 8) other) (old.pins k small))
          ]);
      stale = rw (has_gate-append edges edge place, eqb_same (edge / 8) place here, or_true (has_gate edges place), or_true f.is_stale) new.stale;
    }

-- one edge more to another place
shown_there : (edges : List ℕ) (edge : ℕ) (value : Logic) (place : ℕ) (f g : Front) → edge / 8 ≢ place → IsShown edges value place f g → IsShown (edges ++ edge ∷ []) value place f g
shown_there edges edge value place f g there old =
    record {
      queue = old.queue;
      kind = old.kind;
      output = old.output;
      pins = λ k small.
          let e : edge ≢ edge_of place k = omega arith in
          rw (has-append edges edge (edge_of place k), eqb_other edge (edge_of place k) e, or_false (has edges (edge_of place k))) (old.pins k small);
      stale = rw (has_gate-append edges edge place, eqb_other (edge / 8) place there, or_false (has_gate edges place)) old.stale;
    }

-- one edge more
pub shown_more : (edges : List ℕ) (edge : ℕ) (value : Logic) (old mid : List Front) (e : Front) (g : Front) → AreShown edges value old mid → edge / 8 < length mid → IsShownAt (edge % 8) value (get_or mid (edge / 8) e) g
    → AreShown (edges ++ edge ∷ []) value old (set mid (edge / 8) g)
shown_more edges edge value old mid e g before within shown =
    let same : length mid ≡ length old = before.same in
    record {
      same = length-set mid (edge / 8) g ∙ same;
      each = λ place d h.
          elim (same_or_not (edge / 8) place) [
            | inl here ↦
                let at-here : front_at d (set mid (edge / 8) g) place ≡ g = ap (λ (i : ℕ). get_or (set mid (edge / 8) g) i d) (sym here) ∙ get_or-set_same mid (edge / 8) g d within in
                let was : front_at d mid place ≡ get_or mid (edge / 8) e = ap (λ (i : ℕ). get_or mid i d) (sym here) ∙ get_or_default mid (edge / 8) d e within in
                subst (λ (x : Front). IsShown (edges ++ edge ∷ []) value place (front_at d old place) x) (sym at-here)
                (shown_here edges edge value place (front_at d old place) (get_or mid (edge / 8) e) g here (subst (λ (x : Front). IsShown edges value place (front_at d old place) x) was (before.each place d h)) shown)
            | inr there ↦
                let at-there : front_at d (set mid (edge / 8) g) place ≡ front_at d mid place = get_or-set_other mid (edge / 8) place g d (λ e. there (sym e)) in
                subst (λ (x : Front). IsShown (edges ++ edge ∷ []) value place (front_at d old place) x) (sym at-there)
                (shown_there edges edge value place (front_at d old place) (front_at d mid place) there (before.each place d h))
          ];
    }

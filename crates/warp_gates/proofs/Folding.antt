-- Gates that take their inputs one after the other.
use Rattle.std.proofs.Common.{◌≡◌, ◌≢◌, ◌∙◌, inl, inr, ℕ, ◌+◌, ◌%◌, ◌<◌, Bool, true, false, ◌&&◌, ◌||◌, eqb, cond, List, [], ◌∷◌, ◌++◌, length, get_or, map, take, refl, ap, sym, arith}
use Rattle.std.specs.List.{list_any, list_all, count_by}
use Rattle.std.proofs.lemmas.List.Folds.{list_any-append, list_all-append}
use Rattle.std.proofs.lemmas.List.Sums.{sum_by-append}
use Rattle.warp_gates.proofs.Showing.{same_or_not, eqb_same, eqb_other}
use Rattle.gate_values.specs.declared.logic.Logic.{Logic}
use Rattle.gate_values.specs.declared.logic.Logic.TheVariants.{Zero, One, X, Z}
use Rattle.gate_values.specs.declared.gate.Kind.{Kind}
use Rattle.gate_values.specs.declared.gate.Kind.TheVariants.{And, Or, Xor}
use Rattle.gate_values.specs.Tables.{table_of, and_of, or_of, xor_of, is_zero, is_one, is_known, odd_ones}
use Rattle.std.proofs.lemmas.List.{take_more, map-append, get_or_default}
use Rattle.warp_gates.specs.Cells.{value_at, gate_output}
use Rattle.warp_gates.specs.Inner.Fronts.{neutral}
use Rattle.warp_gates.specs.Inner.Wide.{is_folded}

-- what AND makes of some, and of one more
and_cases : (any all : Bool) (v : Logic) → cond (any || (is_zero v || false)) Zero (cond (all && (is_one v && true)) One X) ≡ and_of (cond any Zero (cond all One X) ∷ v ∷ [])
and_cases true all Zero = refl
and_cases true all One = refl
and_cases true all X = refl
and_cases true all Z = refl
and_cases false true Zero = refl
and_cases false true One = refl
and_cases false true X = refl
and_cases false true Z = refl
and_cases false false Zero = refl
and_cases false false One = refl
and_cases false false X = refl
and_cases false false Z = refl

or_cases : (any all : Bool) (v : Logic) → cond (any || (is_one v || false)) One (cond (all && (is_zero v && true)) Zero X) ≡ or_of (cond any One (cond all Zero X) ∷ v ∷ [])
or_cases true all Zero = refl
or_cases true all One = refl
or_cases true all X = refl
or_cases true all Z = refl
or_cases false true Zero = refl
or_cases false true One = refl
or_cases false true X = refl
or_cases false true Z = refl
or_cases false false Zero = refl
or_cases false false One = refl
or_cases false false X = refl
or_cases false false Z = refl

and_more : (vs : List Logic) (v : Logic) → and_of (vs ++ v ∷ []) ≡ and_of (and_of vs ∷ v ∷ [])
and_more vs v =
    ap (λ (b : Bool). cond b Zero (cond (list_all is_one (vs ++ v ∷ [])) One X)) (list_any-append is_zero vs (v ∷ []))
    ∙ ap (λ (b : Bool). cond (list_any is_zero vs || list_any is_zero (v ∷ [])) Zero (cond b One X)) (list_all-append is_one vs (v ∷ []))
    ∙ and_cases (list_any is_zero vs) (list_all is_one vs) v

or_more : (vs : List Logic) (v : Logic) → or_of (vs ++ v ∷ []) ≡ or_of (or_of vs ∷ v ∷ [])
or_more vs v =
    ap (λ (b : Bool). cond b One (cond (list_all is_zero (vs ++ v ∷ [])) Zero X)) (list_any-append is_one vs (v ∷ []))
    ∙ ap (λ (b : Bool). cond (list_any is_one vs || list_any is_one (v ∷ [])) One (cond b Zero X)) (list_all-append is_zero vs (v ∷ []))
    ∙ or_cases (list_any is_one vs) (list_all is_zero vs) v

-- the parity of some, and of one more
abbrev flipped : Bool → Bool → Bool
flipped odd true = cond odd false true
flipped odd false = odd

parity : (n : ℕ) (b : Bool) → eqb ((n + (0 + cond b 1 0)) % 2) 1 ≡ flipped (eqb (n % 2) 1) b
parity n true =
    elim (same_or_not (n % 2) 1) [
      | inl odd ↦ (let even : (n + (0 + 1)) % 2 ≢ 1 = omega arith in rw (eqb_same (n % 2) 1 odd, eqb_other ((n + (0 + 1)) % 2) 1 even) refl)
      | inr even ↦ (let odd : (n + (0 + 1)) % 2 ≡ 1 = omega arith in rw (eqb_other (n % 2) 1 even, eqb_same ((n + (0 + 1)) % 2) 1 odd) refl)
    ]
parity n false = ap (λ (m : ℕ). eqb (m % 2) 1) (omega arith)

odd_more : (vs : List Logic) (v : Logic) → odd_ones (vs ++ v ∷ []) ≡ flipped (odd_ones vs) (is_one v)
odd_more vs v =
    let n : ℕ = count_by is_one vs in
    ap (λ (m : ℕ). eqb (m % 2) 1) (sum_by-append (λ x. cond (is_one x) 1 0) vs (v ∷ [])) ∙ parity n (is_one v)

xor_cases : (known odd : Bool) (v : Logic) → cond (known && (is_known v && true)) (cond (flipped odd (is_one v)) One Zero) X ≡ xor_of (cond known (cond odd One Zero) X ∷ v ∷ [])
xor_cases true true Zero = refl
xor_cases true true One = refl
xor_cases true true X = refl
xor_cases true true Z = refl
xor_cases true false Zero = refl
xor_cases true false One = refl
xor_cases true false X = refl
xor_cases true false Z = refl
xor_cases false true Zero = refl
xor_cases false true One = refl
xor_cases false true X = refl
xor_cases false true Z = refl
xor_cases false false Zero = refl
xor_cases false false One = refl
xor_cases false false X = refl
xor_cases false false Z = refl

xor_more : (vs : List Logic) (v : Logic) → xor_of (vs ++ v ∷ []) ≡ xor_of (xor_of vs ∷ v ∷ [])
xor_more vs v =
    ap (λ (b : Bool). cond b (cond (odd_ones (vs ++ v ∷ [])) One Zero) X) (list_all-append is_known vs (v ∷ []))
    ∙ ap (λ (b : Bool). cond (list_all is_known vs && list_all is_known (v ∷ [])) (cond b One Zero) X) (odd_more vs v)
    ∙ xor_cases (list_all is_known vs) (odd_ones vs) v

-- what one of these makes of some, and of one more
pub table_of-more : (kind : Kind) (vs : List Logic) (v : Logic) → is_folded kind ≡ true → table_of kind (vs ++ v ∷ []) ≡ table_of kind (table_of kind vs ∷ v ∷ [])
unfolding table_of
table_of-more And vs v h = and_more vs v
table_of-more Or vs v h = or_more vs v
table_of-more Xor vs v h = xor_more vs v
table_of-more kind vs v h = cc

pub table_of-none : (kind : Kind) → is_folded kind ≡ true → table_of kind [] ≡ neutral kind
unfolding table_of
table_of-none And h = refl
table_of-none Or h = refl
table_of-none Xor h = refl
table_of-none kind h = cc

pub gate_output-none : (values : List Logic) (kind : Kind) → is_folded kind ≡ true → neutral kind ≡ gate_output values kind []
gate_output-none values kind h = sym (table_of-none kind h)

pub gate_output-more : (values : List Logic) (kind : Kind) (inputs : List ℕ) (k : ℕ) (d output : Logic) → is_folded kind ≡ true → k < length inputs → get_or inputs k 0 < length values → output ≡ gate_output values kind (take k inputs)
    → table_of kind (output ∷ get_or values (get_or inputs k 0) d ∷ []) ≡ gate_output values kind (take (k + 1) inputs)
gate_output-more values kind inputs k d output h within small so =
    let f : ℕ → Logic = value_at values in
    let input : ℕ = get_or inputs k 0 in
    ap (λ (v : Logic). table_of kind (v ∷ get_or values input d ∷ [])) so
    ∙ sym (ap (λ (is : List ℕ). table_of kind (map f is)) (take_more inputs k 0 within)
    ∙ ap (table_of kind) (map-append f (take k inputs) (input ∷ []))
    ∙ table_of-more kind (map f (take k inputs)) (f input) h
    ∙ ap (λ (v : Logic). table_of kind (table_of kind (map f (take k inputs)) ∷ v ∷ [])) (get_or_default values input X d small))

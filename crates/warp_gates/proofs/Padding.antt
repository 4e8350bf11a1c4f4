-- Four inputs in place of fewer.
use Rattle.std.proofs.Common.{◌≡◌, ◌∙◌, ℕ, zero, suc, ◌+◌, ◌-◌, ◌%◌, ◌<◌, ◌≤◌, Bool, true, false, ◌&&◌, ◌||◌, eqb, cond, List, [], ◌∷◌, ◌++◌, length, map, replicate, refl, ap, sym, subst, arith}
use borrow.Author.Tests.{leb-true}
use Rattle.std.specs.List.{All, list_any, list_all, count_by, sum_by}
use Rattle.std.proofs.lemmas.List.{ext_get_or, length-append, length-replicate, length-map}
use Rattle.std.proofs.lemmas.List.Folds.{list_any-append, list_all-append}
use Rattle.std.proofs.lemmas.List.Sums.{sum_by-append, sum_by-cons}
use Rattle.gate_values.specs.declared.logic.Logic.{Logic}
use Rattle.gate_values.specs.declared.logic.Logic.TheVariants.{Zero, One, X}
use Rattle.gate_values.specs.declared.gate.Kind.{Kind}
use Rattle.gate_values.specs.declared.gate.Kind.TheVariants.{And, Nand, Or, Nor, Xor, Xnor, Not, Buff}
use Rattle.gate_values.specs.Tables.{table_of, inverted, and_of, or_of, xor_of, only_of, passed, is_zero, is_one, is_known, odd_ones, HasInputs}
use Rattle.warp_gates.specs.declared.front.Front.{Front}
use Rattle.warp_gates.specs.Cells.{Cell, Outside, Gate, Flop, value_at, gate_output, IsCell}
use Rattle.warp_gates.specs.Inner.Pins.{pins_of}
use Rattle.warp_gates.specs.Inner.Fronts.{neutral, padded, inputs_of, is_narrow, IsShowing}
use Rattle.warp_gates.specs.Inner.Told.{cell_output, is_gate}
use Rattle.warp_gates.proofs.Showing.{or_false}

any_replicate : (p : Logic → Bool) (v : Logic) (k : ℕ) → p v ≡ false → list_any p (replicate k v) ≡ false
any_replicate p v zero h = refl
any_replicate p v (suc k) h = rw h (any_replicate p v k h)

all_replicate : (p : Logic → Bool) (v : Logic) (k : ℕ) → p v ≡ true → list_all p (replicate k v) ≡ true
all_replicate p v zero h = refl
all_replicate p v (suc k) h = rw h (all_replicate p v k h)

and_true : (b : Bool) → (b && true) ≡ b
and_true true = refl
and_true false = refl

any_more : (p : Logic → Bool) (vs : List Logic) (v : Logic) (k : ℕ) → p v ≡ false → list_any p (vs ++ replicate k v) ≡ list_any p vs
any_more p vs v k h = list_any-append p vs (replicate k v) ∙ ap (λ (b : Bool). list_any p vs || b) (any_replicate p v k h) ∙ or_false (list_any p vs)

all_more : (p : Logic → Bool) (vs : List Logic) (v : Logic) (k : ℕ) → p v ≡ true → list_all p (vs ++ replicate k v) ≡ list_all p vs
all_more p vs v k h = list_all-append p vs (replicate k v) ∙ ap (λ (b : Bool). list_all p vs && b) (all_replicate p v k h) ∙ and_true (list_all p vs)

ones_none : (k : ℕ) → sum_by (λ x. cond (is_one x) 1 0) (replicate k Zero) ≡ 0
ones_none zero = refl
ones_none (suc k) = let rest : sum_by (λ x. cond (is_one x) 1 0) (replicate k Zero) ≡ 0 = ones_none k in sum_by-cons (λ x. cond (is_one x) 1 0) Zero (replicate k Zero) ∙ omega arith

ones_more : (vs : List Logic) (k : ℕ) → count_by is_one (vs ++ replicate k Zero) ≡ count_by is_one vs
ones_more vs k =
    let f : Logic → ℕ = λ x. cond (is_one x) 1 0 in
    sum_by-append f vs (replicate k Zero) ∙ ap (λ (n : ℕ). sum_by f vs + n) (ones_none k) ∙ omega arith

and_padded : (vs : List Logic) (k : ℕ) → and_of (vs ++ replicate k One) ≡ and_of vs
and_padded vs k = rw (any_more is_zero vs One k refl, all_more is_one vs One k refl) refl

or_padded : (vs : List Logic) (k : ℕ) → or_of (vs ++ replicate k Zero) ≡ or_of vs
or_padded vs k = rw (any_more is_one vs Zero k refl, all_more is_zero vs Zero k refl) refl

xor_padded : (vs : List Logic) (k : ℕ) → xor_of (vs ++ replicate k Zero) ≡ xor_of vs
xor_padded vs k =
    ap (λ (b : Bool). cond b (cond (odd_ones (vs ++ replicate k Zero)) One Zero) X) (all_more is_known vs Zero k refl)
    ∙ ap (λ (n : ℕ). cond (list_all is_known vs) (cond (eqb (n % 2) 1) One Zero) X) (ones_more vs k)

only_padded : (vs : List Logic) (k : ℕ) (v : Logic) → length vs ≡ 1 → only_of (vs ++ replicate k v) ≡ only_of vs
only_padded [] k v h = absurd (omega arith)
only_padded (u ∷ us) k v h = refl

pub table_of-padded : (kind : Kind) (vs : List Logic) → HasInputs kind (length vs) → table_of kind (padded kind vs) ≡ table_of kind vs
unfolding table_of
table_of-padded And vs h = and_padded vs (4 - length vs)
table_of-padded Nand vs h = ap inverted (and_padded vs (4 - length vs))
table_of-padded Or vs h = or_padded vs (4 - length vs)
table_of-padded Nor vs h = ap inverted (or_padded vs (4 - length vs))
table_of-padded Xor vs h = xor_padded vs (4 - length vs)
table_of-padded Xnor vs h = ap inverted (xor_padded vs (4 - length vs))
table_of-padded Not vs h = ap inverted (only_padded vs (4 - length vs) Zero h)
table_of-padded Buff vs h = ap passed (only_padded vs (4 - length vs) Zero h)

-- a gate of few inputs, from its pins
pub narrow_output : (values : List Logic) (cell : Cell) (front : Front) (end : ℕ) → IsCell end cell → is_gate cell ≡ true → is_narrow (inputs_of cell) ≡ true → IsShowing values cell front → table_of front.kind (pins_of front.pins) ≡ cell_output values cell
narrow_output values Outside front end cell gate narrow showing = cc
narrow_output values (Flop d clock) front end cell gate narrow showing = cc
narrow_output values (Gate kind inputs) front end cell gate narrow showing =
    let vs : List Logic = map (value_at values) inputs in
    let many : length vs ≡ length inputs = length-map inputs (value_at values) in
    let few : length inputs ≤ 4 = leb-true (length inputs) 4 narrow in
    let four : length (padded kind vs) ≡ 4 = omega (arith, length-append vs (replicate (4 - length vs) (neutral kind)), length-replicate (4 - length vs) (neutral kind)) in
    let pins : pins_of front.pins ≡ padded kind vs = ext_get_or X (pins_of front.pins) (padded kind vs) (sym four) (λ k h. showing.1 narrow k h) in
    ap (λ (k : Kind). table_of k (pins_of front.pins)) showing.0
    ∙ ap (table_of kind) pins
    ∙ table_of-padded kind vs (subst (HasInputs kind) (sym many) cell.0)

-- a gate of many inputs
pub wide_is : (values : List Logic) (cell : Cell) (front : Front) → is_gate cell ≡ true → IsShowing values cell front → gate_output values front.kind (inputs_of cell) ≡ cell_output values cell
wide_is values Outside front gate showing = cc
wide_is values (Flop d clock) front gate showing = cc
wide_is values (Gate kind inputs) front gate showing = ap (λ (k : Kind). gate_output values k inputs) showing.0

pub wide_has : (values : List Logic) (cell : Cell) (front : Front) (end : ℕ) → IsCell end cell → is_gate cell ≡ true → IsShowing values cell front → HasInputs front.kind (length (inputs_of cell))
wide_has values Outside front end cell gate showing = cc
wide_has values (Flop d clock) front end cell gate showing = cc
wide_has values (Gate kind inputs) front end cell gate showing = subst (λ (k : Kind). HasInputs k (length inputs)) (sym showing.0) cell.0

pub wide_within : (cell : Cell) (end : ℕ) → IsCell end cell → is_gate cell ≡ true → All (λ i. i < end) (inputs_of cell)
wide_within Outside end cell gate = cc
wide_within (Flop d clock) end cell gate = cc
wide_within (Gate kind inputs) end cell gate = cell.1

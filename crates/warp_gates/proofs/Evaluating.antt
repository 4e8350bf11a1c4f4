-- Gates are evaluated, edge by edge.
use Rattle.std.proofs.Common.{◌≡◌, ◌∙◌, inl, inr, ℕ, zero, suc, ◌+◌, ◌/◌, ◌%◌, ◌<◌, ◌≤◌, Bool, true, false, ◌&&◌, ◌||◌, not, eqb, ltb, cond, List, [], ◌∷◌, ◌++◌, length, get_or, take, set, refl, ap, sym, subst, arith}
use borrow.Author.Tests.{leb-true}
use Rattle.std.specs.List.{All}
use Rattle.std.proofs.lemmas.Bool.{cases_lt, lt-ltb, le-ltb}
use Rattle.std.proofs.lemmas.List.Folds.{list_any-append}
use Rattle.std.proofs.lemmas.Grind.{flat_map-append}
use Rattle.std.proofs.lemmas.List.{length-set, length-append, append-nil, get_or-set_same, get_or-set_other, get_or_default, get_or_past}
use Rattle.gate_values.specs.declared.logic.Logic.{Logic}
use Rattle.warp_stores.specs.Words.{Move}
use Rattle.warp_gates.specs.declared.front.Front.{Front}
use Rattle.warp_gates.specs.declared.put.Put.{Put}
use Rattle.warp_gates.specs.Cells.{Cell, Outside, Gate, Flop, value_at, cell_at, put_of}
use Rattle.warp_gates.specs.declared.pins.Pins.{Pins}
use Rattle.warp_gates.specs.Inner.Pins.{pins_of}
use Rattle.warp_gates.specs.Inner.Fronts.{front_at, row_of, has, has_gate, inputs_of, is_narrow, pin_of, AreReaders, AreFronts, IsShowing, IsFresh}
use Rattle.warp_gates.specs.Inner.Told.{AreEvaluating, AreRefreshed, IsEdge, all_edges, cell_output, is_gate}
use Rattle.warp_gates.proofs.Showing.{same_or_not, eqb_same, eqb_other, has_gate-append, or_true}
use Rattle.warp_gates.proofs.Telling.{told_more}

pub showing_settled : (values : List Logic) (cell : Cell) (f g : Front) → g.kind ≡ f.kind → g.pins ≡ f.pins → IsShowing values cell f → IsShowing values cell g
showing_settled values Outside f g kind pins h = tt
showing_settled values (Flop d clock) f g kind pins h = tt
showing_settled values (Gate k inputs) f g kind pins h = (kind ∙ h.0, λ narrow i small. ap (λ (p : Pins). value_at (pins_of p) i) pins ∙ h.1 narrow i small)

fresh_settled : (values : List Logic) (cell : Cell) (g : Front) → is_gate cell ≡ true → g.output ≡ cell_output values cell → IsFresh values cell g
fresh_settled values Outside g gate h = tt
fresh_settled values (Flop d clock) g gate h = tt
fresh_settled values (Gate k inputs) g gate h = inr h

-- a gate puts out what it makes of the values
pub fronts_settled : (cells : List Cell) (values : List Logic) (now : List Front) (place : ℕ) (e g : Front) → AreFronts cells values now → place < length cells → is_gate (cell_at cells place) ≡ true
    → g.kind ≡ (front_at e now place).kind → g.pins ≡ (front_at e now place).pins → g.output ≡ cell_output values (cell_at cells place) → AreFronts cells values (set now place g)
fronts_settled cells values now place e g fronts within gate kind pins output =
    let len : length now ≡ length cells = fronts.same in
    record {
      same = length-set now place g ∙ fronts.same;
      showing = λ p d h. elim (same_or_not p place) [
        | inl here ↦
            let at : front_at d (set now place g) p ≡ g = ap (λ (i : ℕ). front_at d (set now place g) i) here ∙ get_or-set_same now place g d (omega arith) in
            subst (λ (x : Front). IsShowing values (cell_at cells p) x) (sym at)
            (subst (λ (i : ℕ). IsShowing values (cell_at cells i) g) (sym here) (showing_settled values (cell_at cells place) (front_at e now place) g kind pins (fronts.showing place e within)))
        | inr there ↦ subst (λ (x : Front). IsShowing values (cell_at cells p) x) (sym (get_or-set_other now place p g d there)) (fronts.showing p d h)
      ];
      fresh = λ p d h. elim (same_or_not p place) [
        | inl here ↦
            let at : front_at d (set now place g) p ≡ g = ap (λ (i : ℕ). front_at d (set now place g) i) here ∙ get_or-set_same now place g d (omega arith) in
            subst (λ (x : Front). IsFresh values (cell_at cells p) x) (sym at)
            (subst (λ (i : ℕ). IsFresh values (cell_at cells i) g) (sym here) (fresh_settled values (cell_at cells place) g gate output))
        | inr there ↦ subst (λ (x : Front). IsFresh values (cell_at cells p) x) (sym (get_or-set_other now place p g d there)) (fronts.fresh p d h)
      ];
    }

-- one stale gate
pub evaluating_more : (cells : List Cell) (values : List Logic) (old now : List Front) (before out : List Put) (place : ℕ) (e : Front) (value : Logic)
    → AreEvaluating cells values old now before out → place < length cells → is_gate (cell_at cells place) ≡ true → (front_at e now place).is_stale ≡ true → value ≡ cell_output values (cell_at cells place)
    → AreEvaluating cells values old (set now place (record (front_at e now place) { output = value; is_stale = false })) before (out ++ put_of place (front_at e now place).queue (front_at e now place).output value)
evaluating_more cells values old now before out place e value state within gate stale output =
    let f : Front = front_at e now place in
    let g : Front = record f { output = value; is_stale = false } in
    let len : length now ≡ length cells = state.fronts.same in
    let len' : length now ≡ length old = state.told.same in
    record {
      fronts = fronts_settled cells values now place e g state.fronts within gate refl refl output;
      told = told_more old now before out place e value state.told (omega arith) (inl (state.stale place e (omega arith) stale));
      stale = λ p d h s. elim (same_or_not p place) [
        | inl here ↦
            let at : front_at d (set now place g) p ≡ g = ap (λ (i : ℕ). front_at d (set now place g) i) here ∙ get_or-set_same now place g d (omega arith) in
            let fresh : (front_at d (set now place g) p).is_stale ≡ false = ap (λ (x : Front). x.is_stale) at in
            cc
        | inr there ↦
            let at : front_at d (set now place g) p ≡ front_at d now p = get_or-set_other now place p g d there in
            ap (λ (x : Front). x.output) at ∙ state.stale p d h (sym (ap (λ (x : Front). x.is_stale) at) ∙ s)
      ];
    }

pub and_true : (b : Bool) → (b && true) ≡ b
and_true true = refl
and_true false = refl

pub and_false : (b : Bool) → (b && false) ≡ false
and_false true = refl
and_false false = refl

-- the gate of one edge isn't stale any more
pub refreshed_one : (edge : ℕ) (now : List Front) (g : Front) → edge / 8 < length now → g.is_stale ≡ false → AreRefreshed (edge ∷ []) now (set now (edge / 8) g)
refreshed_one edge now g within fresh =
    record {
      same = length-set now (edge / 8) g;
      stale = λ p d h. elim (same_or_not p (edge / 8)) [
        | inl here ↦
            let at : front_at d (set now (edge / 8) g) p ≡ g = ap (λ (i : ℕ). front_at d (set now (edge / 8) g) i) here ∙ get_or-set_same now (edge / 8) g d within in
            ap (λ (x : Front). x.is_stale) at ∙ fresh ∙ sym (ap (λ (b : Bool). (front_at d now p).is_stale && not (b || false)) (eqb_same (edge / 8) p (sym here)) ∙ and_false (front_at d now p).is_stale)
        | inr there ↦
            ap (λ (x : Front). x.is_stale) (get_or-set_other now (edge / 8) p g d there)
            ∙ sym (ap (λ (b : Bool). (front_at d now p).is_stale && not (b || false)) (eqb_other (edge / 8) p (λ s. there (sym s))) ∙ and_true (front_at d now p).is_stale)
      ];
      others = λ p d h none. elim (same_or_not p (edge / 8)) [
        | inl here ↦ (let some : (eqb (edge / 8) p || false) ≡ true = ap (λ (b : Bool). b || false) (eqb_same (edge / 8) p (sym here)) in cc)
        | inr there ↦ get_or-set_other now (edge / 8) p g d there
      ];
    }

-- a gate that isn't stale stays
pub refreshed_same : (edge : ℕ) (now : List Front) (e : Front) → edge / 8 < length now → (front_at e now (edge / 8)).is_stale ≡ false → AreRefreshed (edge ∷ []) now now
refreshed_same edge now e within fresh =
    record {
      same = refl;
      stale = λ p d h. elim (same_or_not p (edge / 8)) [
        | inl here ↦
            let at : (front_at d now p).is_stale ≡ false = ap (λ (i : ℕ). (front_at d now i).is_stale) here ∙ ap (λ (x : Front). x.is_stale) (get_or_default now (edge / 8) d e within) ∙ fresh in
            at ∙ sym (ap (λ (b : Bool). b && not (has_gate (edge ∷ []) p)) at)
        | inr there ↦ sym (ap (λ (b : Bool). (front_at d now p).is_stale && not (b || false)) (eqb_other (edge / 8) p (λ s. there (sym s))) ∙ and_true (front_at d now p).is_stale)
      ];
      others = λ p d h none. refl;
    }

-- edges, and one more
pub refreshed_none : (now : List Front) → AreRefreshed [] now now
refreshed_none now = record { same = refl; stale = λ p d h. sym (and_true (front_at d now p).is_stale); others = λ p d h n. refl }

and_not : (s a b : Bool) → ((s && not a) && not (b || false)) ≡ (s && not (a || b))
and_not true true b = refl
and_not true false true = refl
and_not true false false = refl
and_not false a b = refl

or_is_false : (a b : Bool) → (a || b) ≡ false → (a ≡ false) × (b ≡ false)
or_is_false true b h = cc
or_is_false false b h = (refl, h)

pub refreshed_more : (edges : List ℕ) (edge : ℕ) (old mid new : List Front) → AreRefreshed edges old mid → AreRefreshed (edge ∷ []) mid new → AreRefreshed (edges ++ edge ∷ []) old new
refreshed_more edges edge old mid new first second =
    let len : length mid ≡ length old = first.same in
    record {
      same = second.same ∙ first.same;
      stale = λ p d h.
          second.stale p d (omega arith)
          ∙ ap (λ (b : Bool). b && not (has_gate (edge ∷ []) p)) (first.stale p d h)
          ∙ and_not (front_at d old p).is_stale (has_gate edges p) (eqb (edge / 8) p)
          ∙ ap (λ (b : Bool). (front_at d old p).is_stale && not b) (sym (has_gate-append edges edge p));
      others = λ p d h none.
          let both : (has_gate edges p ≡ false) × (eqb (edge / 8) p ≡ false) = or_is_false (has_gate edges p) (eqb (edge / 8) p) (sym (has_gate-append edges edge p) ∙ none) in
          second.others p d (omega arith) (ap (λ (b : Bool). b || false) both.1) ∙ first.others p d h both.0;
    }

-- the same, as a call tells it
pub evaluating_one : (cells : List Cell) (values : List Logic) (old now : List Front) (before out out' : List Put) (place : ℕ) (e g : Front) (value : Logic)
    → AreEvaluating cells values old now before out → place < length cells → is_gate (cell_at cells place) ≡ true → (front_at e now place).is_stale ≡ true → value ≡ cell_output values (cell_at cells place)
    → g ≡ record (front_at e now place) { output = value; is_stale = false } → out' ≡ out ++ put_of place (front_at e now place).queue (front_at e now place).output value
    → AreEvaluating cells values old (set now place g) before out'
evaluating_one cells values old now before out out' place e g value state within gate stale output front puts =
    subst (λ (x : Front). AreEvaluating cells values old (set now place x) before out') (sym front)
    (subst (λ (ps : List Put). AreEvaluating cells values old (set now place (record (front_at e now place) { output = value; is_stale = false })) before ps) (sym puts)
    (evaluating_more cells values old now before out place e value state within gate stale output))

and_not' : (s a b : Bool) → ((s && not a) && not b) ≡ (s && not (a || b))
and_not' true true b = refl
and_not' true false b = refl
and_not' false a b = refl

has_gate-both : (a b : List ℕ) (gate : ℕ) → has_gate (a ++ b) gate ≡ (has_gate a gate || has_gate b gate)
has_gate-both a b gate = list_any-append (λ x. eqb (x / 8) gate) a b

-- edges, and others
pub refreshed_then : (edges more : List ℕ) (old mid new : List Front) → AreRefreshed edges old mid → AreRefreshed more mid new → AreRefreshed (edges ++ more) old new
refreshed_then edges more old mid new first second =
    let len : length mid ≡ length old = first.same in
    record {
      same = second.same ∙ first.same;
      stale = λ p d h.
          second.stale p d (omega arith)
          ∙ ap (λ (b : Bool). b && not (has_gate more p)) (first.stale p d h)
          ∙ and_not' (front_at d old p).is_stale (has_gate edges p) (has_gate more p)
          ∙ ap (λ (b : Bool). (front_at d old p).is_stale && not b) (sym (has_gate-both edges more p));
      others = λ p d h none.
          let both : (has_gate edges p ≡ false) × (has_gate more p ≡ false) = or_is_false (has_gate edges p) (has_gate more p) (sym (has_gate-both edges more p) ∙ none) in
          second.others p d (omega arith) both.1 ∙ first.others p d h both.0;
    }

-- ---- the edges from the places of words

pub all_edges-more : (rows : List (List ℕ)) (words : List Move) (w : Move) → all_edges rows (words ++ w ∷ []) ≡ all_edges rows words ++ row_of rows w.place
all_edges-more rows words w = flat_map-append (λ (x : Move). row_of rows x.place) words (w ∷ []) ∙ ap (λ (es : List ℕ). all_edges rows words ++ es) (append-nil (row_of rows w.place))

pub all_edges-within : (rows : List (List ℕ)) (words : List Move) (i : ℕ) (d : Move) → i < length words → length (all_edges rows (take i words)) + length (row_of rows (get_or words i d).place) ≤ length (all_edges rows words)
all_edges-within rows [] i d h = absurd (omega arith)
all_edges-within rows (w ∷ ws) zero d h = omega (arith, length-append (row_of rows w.place) (all_edges rows ws))
all_edges-within rows (w ∷ ws) (suc i) d h =
    omega (arith, all_edges-within rows ws i d (omega arith), length-append (row_of rows w.place) (all_edges rows ws), length-append (row_of rows w.place) (all_edges rows (take i ws)))

pub has_get_or : (xs : List ℕ) (k d : ℕ) → k < length xs → has xs (get_or xs k d) ≡ true
has_get_or [] k d h = absurd (omega arith)
has_get_or (x ∷ xs) zero d h = ap (λ (b : Bool). b || has xs x) (eqb_same x x refl)
has_get_or (x ∷ xs) (suc k) d h = ap (λ (b : Bool). eqb x (get_or xs k d) || b) (has_get_or xs k d (omega arith)) ∙ or_true (eqb x (get_or xs k d))

gate_of_input : (cell : Cell) (k : ℕ) → k < length (inputs_of cell) → is_gate cell ≡ true
gate_of_input Outside k h = absurd (omega arith)
gate_of_input (Flop d clock) k h = absurd (omega arith)
gate_of_input (Gate kind inputs) k h = refl

few_pins : (inputs : List ℕ) (k pin : ℕ) (b : Bool) → is_narrow inputs ≡ b → k < length inputs → pin ≡ pin_of inputs k → ltb pin 4 ≡ is_narrow inputs
few_pins inputs k pin true narrow h at =
    let few : length inputs ≤ 4 = leb-true (length inputs) 4 narrow in
    let is : pin ≡ k = at ∙ ap (λ (b : Bool). cond b k 4) narrow in
    lt-ltb pin 4 (omega arith) ∙ sym narrow
few_pins inputs k pin false wide h at =
    let is : pin ≡ 4 = at ∙ ap (λ (b : Bool). cond b k 4) wide in
    le-ltb pin 4 (omega arith) ∙ sym wide

pub is_edge : (cells : List Cell) (rows : List (List ℕ)) (place edge : ℕ) → AreReaders cells rows → has (row_of rows place) edge ≡ true → IsEdge cells edge
is_edge cells rows place edge readers h =
    let found : (k : ℕ) × (k < length (inputs_of (cell_at cells (edge / 8)))) × (get_or (inputs_of (cell_at cells (edge / 8))) k 0 ≡ place) × (edge % 8 ≡ pin_of (inputs_of (cell_at cells (edge / 8))) k) = readers.sound place edge h in
    record {
      gate = gate_of_input (cell_at cells (edge / 8)) found.0 found.1;
      few = few_pins (inputs_of (cell_at cells (edge / 8))) found.0 (edge % 8) (is_narrow (inputs_of (cell_at cells (edge / 8)))) refl found.1 found.3;
    }

pub edge_within : (cells : List Cell) (rows : List (List ℕ)) (place edge : ℕ) → AreReaders cells rows → has (row_of rows place) edge ≡ true → edge / 8 < length cells
edge_within cells rows place edge readers h =
    let found : (k : ℕ) × (k < length (inputs_of (cell_at cells (edge / 8)))) × (get_or (inputs_of (cell_at cells (edge / 8))) k 0 ≡ place) × (edge % 8 ≡ pin_of (inputs_of (cell_at cells (edge / 8))) k) = readers.sound place edge h in
    elim (cases_lt (edge / 8) (length cells)) [
      | inl lt ↦ lt
      | inr ge ↦
          let none : cell_at cells (edge / 8) ≡ Outside = get_or_past cells (edge / 8) Outside ge in
          let few : found.0 < 0 = subst (λ (c : Cell). found.0 < length (inputs_of c)) none found.1 in
          absurd (omega arith)
    ]

pub are_edges : (cells : List Cell) (rows : List (List ℕ)) (place : ℕ) → AreReaders cells rows → All (IsEdge cells) (row_of rows place)
are_edges cells rows place readers k d h = is_edge cells rows place (get_or (row_of rows place) k d) readers (has_get_or (row_of rows place) k d h)

pub edges_within : (cells : List Cell) (rows : List (List ℕ)) (place : ℕ) → AreReaders cells rows → All (λ e. e / 8 < length cells) (row_of rows place)
edges_within cells rows place readers k d h = edge_within cells rows place (get_or (row_of rows place) k d) readers (has_get_or (row_of rows place) k d h)

-- Words that change values are shown to the gates that read their places.
use Rattle.std.proofs.Common.{◌≡◌, ◌≢◌, ◌∙◌, ◌⊎◌, inl, inr, ℕ, suc, ◌-◌, ◌/◌, ◌%◌, ◌<◌, ◌≤◌, Bool, true, false, ◌||◌, eqb, cond, List, [], ◌∷◌, ◌++◌, length, map, get_or, set, replicate, refl, ap, sym, subst, arith}
use Rattle.std.proofs.lemmas.Bool.{cases_lt}
use borrow.Author.Tests.{leb-true}
use Rattle.std.proofs.lemmas.List.{length-set, length-map, get_or-map}
use Rattle.std.proofs.Math.ListN.{get_or-append}
use Rattle.std.proofs.Math.Seq.{get_or-append_right}
use Rattle.std.proofs.lemmas.List.Folds.{list_any-append}
use Rattle.gate_values.specs.declared.logic.Logic.{Logic}
use Rattle.gate_values.specs.declared.logic.Logic.TheVariants.{X}
use Rattle.gate_values.specs.declared.gate.Kind.{Kind}
use Rattle.gate_values.specs.Tables.{table_of}
use Rattle.warp_stores.specs.Words.{Move}
use Rattle.warp_gates.specs.declared.front.Front.{Front}
use Rattle.warp_gates.specs.Cells.{Cell, Outside, Gate, Flop, value_at, cell_at, gate_output, moved}
use Rattle.warp_gates.specs.Inner.Pins.{pins_of}
use Rattle.warp_gates.specs.Inner.Fronts.{neutral, padded, inputs_of, is_narrow, edge_of, pin_of, has, has_gate, row_of, front_at, AreReaders, AreFronts, IsShowing, IsFresh, IsShown, AreShown, IsKept, AreTouched, reached}
use Rattle.warp_gates.proofs.Showing.{same_or_not, eqb_same, eqb_other, value_at-set, or_true, or_false}

pub moved-append : (words : List Move) (w : Move) (values : List Logic) → moved (words ++ w ∷ []) values ≡ set (moved words values) w.place w.after
moved-append [] w values = refl
moved-append (v ∷ vs) w values = moved-append vs w (set values v.place v.after)

pub length-moved : (words : List Move) (values : List Logic) → length (moved words values) ≡ length values
length-moved [] values = refl
length-moved (v ∷ vs) values = length-moved vs (set values v.place v.after) ∙ length-set values v.place v.after

-- a byte's pins, where a gate has fewer inputs
pub padded_at : (kind : Kind) (values : List Logic) (inputs : List ℕ) (k : ℕ) → k < length inputs → value_at (padded kind (map (value_at values) inputs)) k ≡ value_at values (get_or inputs k 0)
padded_at kind values inputs k h =
    let f : ℕ → Logic = value_at values in
    let many : length (map f inputs) ≡ length inputs = length-map inputs f in
    get_or-append (map f inputs) (replicate (4 - length (map f inputs)) (neutral kind)) X k (omega arith) ∙ get_or-map f inputs k 0 X h

pub padded_past : (kind : Kind) (values other : List Logic) (inputs : List ℕ) (k : ℕ) → length inputs ≤ k → value_at (padded kind (map (value_at values) inputs)) k ≡ value_at (padded kind (map (value_at other) inputs)) k
padded_past kind values other inputs k h =
    let f : ℕ → Logic = value_at values in
    let g : ℕ → Logic = value_at other in
    let many : length (map f inputs) ≡ length inputs = length-map inputs f in
    let many' : length (map g inputs) ≡ length inputs = length-map inputs g in
    let same : length (map f inputs) ≡ length (map g inputs) = omega arith in
    get_or-append_right (map f inputs) (replicate (4 - length (map f inputs)) (neutral kind)) k X (omega arith)
    ∙ ap (λ (n : ℕ). get_or (replicate (4 - n) (neutral kind)) (k - n) X) same
    ∙ sym (get_or-append_right (map g inputs) (replicate (4 - length (map g inputs)) (neutral kind)) k X (omega arith))

pub has_gate-has : (edges : List ℕ) (gate pin : ℕ) → pin < 8 → has edges (edge_of gate pin) ≡ true → has_gate edges gate ≡ true
has_gate-has [] gate pin small h = h
has_gate-has (e ∷ es) gate pin small h =
    elim (same_or_not e (edge_of gate pin)) [
      | inl same ↦ (let g : e / 8 ≡ gate = omega arith in rw (eqb_same (e / 8) gate g) refl)
      | inr other ↦ (let rest : has es (edge_of gate pin) ≡ true = rw (eqb_other e (edge_of gate pin) other) at h in rw (has_gate-has es gate pin small rest) (or_true (eqb (e / 8) gate)))
    ]

pub map_same : (f g : ℕ → Logic) (xs : List ℕ) → ((k : ℕ) → k < length xs → f (get_or xs k 0) ≡ g (get_or xs k 0)) → map f xs ≡ map g xs
map_same f g [] h = refl
map_same f g (x ∷ xs) h =
    let here : f x ≡ g x = h 0 (omega arith) in
    let rest : map f xs ≡ map g xs = map_same f g xs (λ k l. h (suc k) (omega arith)) in
    cc

-- ---- one word

pub true_or_not : (b : Bool) → (b ≡ true) ⊎ (b ≡ false)
true_or_not true = inl refl
true_or_not false = inr refl

-- an edge to a gate is from one of its inputs
sound_at : (cells : List Cell) (rows : List (List ℕ)) (place gate pin : ℕ) → AreReaders cells rows → pin < 8 → has (row_of rows place) (edge_of gate pin) ≡ true
    → (k : ℕ) × (k < length (inputs_of (cell_at cells gate))) × (get_or (inputs_of (cell_at cells gate)) k 0 ≡ place) × (pin ≡ pin_of (inputs_of (cell_at cells gate)) k)
sound_at cells rows place gate pin readers small h =
    let at : edge_of gate pin / 8 ≡ gate = omega arith in
    let on : edge_of gate pin % 8 ≡ pin = omega arith in
    let P : ℕ → Type 0 = λ g. (k : ℕ) × (k < length (inputs_of (cell_at cells g))) × (get_or (inputs_of (cell_at cells g)) k 0 ≡ place) × (edge_of gate pin % 8 ≡ pin_of (inputs_of (cell_at cells g)) k) in
    let found : P gate = subst P at (readers.sound place (edge_of gate pin) h) in
    (found.0, found.1, found.2, sym on ∙ found.3)

-- at an input that isn't the place there is no edge from it
no_edge : (cells : List Cell) (rows : List (List ℕ)) (place gate k : ℕ) → AreReaders cells rows → is_narrow (inputs_of (cell_at cells gate)) ≡ true → k < 4 → (k < length (inputs_of (cell_at cells gate)) → get_or (inputs_of (cell_at cells gate)) k 0 ≢ place)
    → has (row_of rows place) (edge_of gate k) ≡ false
no_edge cells rows place gate k readers narrow small other =
    elim (true_or_not (has (row_of rows place) (edge_of gate k))) [
      | inr isnt ↦ isnt
      | inl so ↦
          let found : (k' : ℕ) × (k' < length (inputs_of (cell_at cells gate))) × (get_or (inputs_of (cell_at cells gate)) k' 0 ≡ place) × (k ≡ pin_of (inputs_of (cell_at cells gate)) k') = sound_at cells rows place gate k readers (omega arith) so in
          let pin : pin_of (inputs_of (cell_at cells gate)) found.0 ≡ found.0 = ap (λ (b : Bool). cond b found.0 4) narrow in
          let same : found.0 ≡ k = sym pin ∙ sym found.3 in
          let within : k < length (inputs_of (cell_at cells gate)) = subst (λ (n : ℕ). n < length (inputs_of (cell_at cells gate))) same found.1 in
          absurd (other within (subst (λ (n : ℕ). get_or (inputs_of (cell_at cells gate)) n 0 ≡ place) same found.2))
    ]

-- at an input that is the place there is one
an_edge : (cells : List Cell) (rows : List (List ℕ)) (place gate k : ℕ) → AreReaders cells rows → k < length (inputs_of (cell_at cells gate)) → get_or (inputs_of (cell_at cells gate)) k 0 ≡ place
    → has (row_of rows place) (edge_of gate (pin_of (inputs_of (cell_at cells gate)) k)) ≡ true
an_edge cells rows place gate k readers within at = subst (λ (p : ℕ). has (row_of rows p) (edge_of gate (pin_of (inputs_of (cell_at cells gate)) k)) ≡ true) at (readers.complete gate k within)

pub pin_of-small : (inputs : List ℕ) (k : ℕ) → k < length inputs → pin_of inputs k < 8
pin_of-small inputs k h =
    elim (true_or_not (is_narrow inputs)) [
      | inl so ↦ (let few : length inputs ≤ 4 = leb-true (length inputs) 4 so in rw so (omega arith))
      | inr isnt ↦ rw isnt (omega arith)
    ]

-- a gate that no edge from the place is to doesn't read the place
not_read : (cells : List Cell) (rows : List (List ℕ)) (place gate k : ℕ) → AreReaders cells rows → has_gate (row_of rows place) gate ≡ false → k < length (inputs_of (cell_at cells gate)) → get_or (inputs_of (cell_at cells gate)) k 0 ≢ place
not_read cells rows place gate k readers none within at =
    let edge : has (row_of rows place) (edge_of gate (pin_of (inputs_of (cell_at cells gate)) k)) ≡ true = an_edge cells rows place gate k readers within at in
    let some : has_gate (row_of rows place) gate ≡ true = has_gate-has (row_of rows place) gate (pin_of (inputs_of (cell_at cells gate)) k) (pin_of-small (inputs_of (cell_at cells gate)) k within) edge in
    cc

-- what a gate that doesn't read the place makes of the values stays
same_output : (values : List Logic) (place : ℕ) (v : Logic) (kind : Kind) (inputs : List ℕ) → place < length values → ((k : ℕ) → k < length inputs → get_or inputs k 0 ≢ place) → gate_output (set values place v) kind inputs ≡ gate_output values kind inputs
same_output values place v kind inputs within other =
    ap (table_of kind) (map_same (value_at (set values place v)) (value_at values) inputs
    (λ k h. value_at-set values place (get_or inputs k 0) v within ∙ ap (λ (b : Bool). cond b v (value_at values (get_or inputs k 0))) (eqb_other (get_or inputs k 0) place (other k h))))

shown_as : (edges : List ℕ) (v : Logic) (gate k : ℕ) (f g : Front) (b : Bool) → IsShown edges v gate f g → k < 4 → has edges (edge_of gate k) ≡ b → value_at (pins_of g.pins) k ≡ cond b v (value_at (pins_of f.pins) k)
shown_as edges v gate k f g b shown small h = shown.pins k small ∙ ap (λ (c : Bool). cond c v (value_at (pins_of f.pins) k)) h

-- the pins of a gate after a word
pins_step : (cells : List Cell) (rows : List (List ℕ)) (place gate : ℕ) (v : Logic) (values : List Logic) (f g : Front) (kind : Kind) (inputs : List ℕ)
    → AreReaders cells rows → place < length values → inputs_of (cell_at cells gate) ≡ inputs → is_narrow inputs ≡ true → IsShown (row_of rows place) v gate f g
    → ((k : ℕ) → k < 4 → value_at (pins_of f.pins) k ≡ value_at (padded kind (map (value_at values) inputs)) k)
    → (k : ℕ) → k < 4 → value_at (pins_of g.pins) k ≡ value_at (padded kind (map (value_at (set values place v)) inputs)) k
pins_step cells rows place gate v values f g kind inputs readers within ins narrow shown old k small =
    let narrow' : is_narrow (inputs_of (cell_at cells gate)) ≡ true = ap is_narrow ins ∙ narrow in
    let input : ℕ = get_or inputs k 0 in
    let input' : get_or (inputs_of (cell_at cells gate)) k 0 ≡ input = ap (λ (is : List ℕ). get_or is k 0) ins in
    elim (cases_lt k (length inputs)) [
      | inl lt ↦
          let lt' : k < length (inputs_of (cell_at cells gate)) = subst (λ (is : List ℕ). k < length is) (sym ins) lt in
          let want : value_at (padded kind (map (value_at (set values place v)) inputs)) k ≡ cond (eqb input place) v (value_at values input) = padded_at kind (set values place v) inputs k lt ∙ value_at-set values place input v within in
          elim (same_or_not input place) [
            | inl same ↦
                let pin : pin_of (inputs_of (cell_at cells gate)) k ≡ k = ap (λ (b : Bool). cond b k 4) narrow' in
                let edge : has (row_of rows place) (edge_of gate k) ≡ true = subst (λ (p : ℕ). has (row_of rows place) (edge_of gate p) ≡ true) pin (an_edge cells rows place gate k readers lt' (input' ∙ same)) in
                shown_as (row_of rows place) v gate k f g true shown small edge ∙ sym (want ∙ ap (λ (b : Bool). cond b v (value_at values input)) (eqb_same input place same))
            | inr other ↦
                let none : has (row_of rows place) (edge_of gate k) ≡ false = no_edge cells rows place gate k readers narrow' small (λ l e. other (sym input' ∙ e)) in
                shown_as (row_of rows place) v gate k f g false shown small none ∙ old k small ∙ padded_at kind values inputs k lt ∙ sym (want ∙ ap (λ (b : Bool). cond b v (value_at values input)) (eqb_other input place other))
          ]
      | inr ge ↦
          let none : has (row_of rows place) (edge_of gate k) ≡ false = no_edge cells rows place gate k readers narrow' small (λ l e. let l' : k < length inputs = subst (λ (is : List ℕ). k < length is) ins l in omega arith) in
          shown_as (row_of rows place) v gate k f g false shown small none ∙ old k small ∙ padded_past kind values (set values place v) inputs k ge
    ]

showing_step : (cells : List Cell) (rows : List (List ℕ)) (place gate : ℕ) (v : Logic) (values : List Logic) (f g : Front) (cell : Cell)
    → AreReaders cells rows → place < length values → cell_at cells gate ≡ cell → IsShown (row_of rows place) v gate f g → IsShowing values cell f → IsShowing (set values place v) cell g
showing_step cells rows place gate v values f g Outside readers within at shown old = tt
showing_step cells rows place gate v values f g (Flop d clock) readers within at shown old = tt
showing_step cells rows place gate v values f g (Gate kind inputs) readers within at shown old =
    (shown.kind ∙ old.0, λ narrow. pins_step cells rows place gate v values f g kind inputs readers within (ap inputs_of at) narrow shown (old.1 narrow))

fresh_gate : (cells : List Cell) (rows : List (List ℕ)) (place gate : ℕ) (v : Logic) (values : List Logic) (f g : Front) (kind : Kind) (inputs : List ℕ)
    → AreReaders cells rows → place < length values → inputs_of (cell_at cells gate) ≡ inputs → IsShown (row_of rows place) v gate f g
    → (f.is_stale ≡ true) ⊎ (f.output ≡ gate_output values kind inputs) → (g.is_stale ≡ true) ⊎ (g.output ≡ gate_output (set values place v) kind inputs)
fresh_gate cells rows place gate v values f g kind inputs readers within ins shown old =
    elim (true_or_not (has_gate (row_of rows place) gate)) [
      | inl so ↦ inl (shown.stale ∙ ap (λ (b : Bool). f.is_stale || b) so ∙ or_true f.is_stale)
      | inr isnt ↦ elim old [
        | inl stale ↦ inl (shown.stale ∙ ap (λ (b : Bool). b || has_gate (row_of rows place) gate) stale)
        | inr settled ↦
            let other : (k : ℕ) → k < length inputs → get_or inputs k 0 ≢ place = subst (λ (is : List ℕ). (k : ℕ) → k < length is → get_or is k 0 ≢ place) ins (λ k l. not_read cells rows place gate k readers isnt l) in
            inr (shown.output ∙ settled ∙ sym (same_output values place v kind inputs within other))
      ]
    ]

fresh_step : (cells : List Cell) (rows : List (List ℕ)) (place gate : ℕ) (v : Logic) (values : List Logic) (f g : Front) (cell : Cell)
    → AreReaders cells rows → place < length values → cell_at cells gate ≡ cell → IsShown (row_of rows place) v gate f g → IsFresh values cell f → IsFresh (set values place v) cell g
fresh_step cells rows place gate v values f g Outside readers within at shown old = tt
fresh_step cells rows place gate v values f g (Flop d clock) readers within at shown old = tt
fresh_step cells rows place gate v values f g (Gate kind inputs) readers within at shown old =
    fresh_gate cells rows place gate v values f g kind inputs readers within (ap inputs_of at) shown old

-- a word more, and what is at hand is that of the values after it
pub fronts_more : (cells : List Cell) (rows : List (List ℕ)) (place : ℕ) (v : Logic) (values : List Logic) (old new : List Front)
    → AreReaders cells rows → place < length values → AreFronts cells values old → AreShown (row_of rows place) v old new → AreFronts cells (set values place v) new
fronts_more cells rows place v values old new readers within fronts shown =
    let same : length old ≡ length cells = fronts.same in
    record {
      same = shown.same ∙ fronts.same;
      showing = λ gate d h. showing_step cells rows place gate v values (front_at d old gate) (front_at d new gate) (cell_at cells gate) readers within refl (shown.each gate d (omega arith)) (fronts.showing gate d h);
      fresh = λ gate d h. fresh_step cells rows place gate v values (front_at d old gate) (front_at d new gate) (cell_at cells gate) readers within refl (shown.each gate d (omega arith)) (fronts.fresh gate d h);
    }

reached-append : (rows : List (List ℕ)) (words : List Move) (w : Move) (gate : ℕ) → reached rows (words ++ w ∷ []) gate ≡ (reached rows words gate || has_gate (row_of rows w.place) gate)
reached-append rows words w gate = list_any-append (λ (x : Move). has_gate (row_of rows x.place) gate) words (w ∷ []) ∙ ap (λ (b : Bool). reached rows words gate || b) (or_false (has_gate (row_of rows w.place) gate))

pub either : (a b : Bool) → (a || b) ≡ true → (a ≡ true) ⊎ (b ≡ true)
either true b h = inl refl
either false b h = inr h

pub touched_none : (rows : List (List ℕ)) (fronts : List Front) → AreTouched rows [] fronts fronts
touched_none rows fronts = record { same = refl; kept = λ place d h. record { queue = refl; kind = refl; output = refl }; stale = λ place d h s. inl s }

pub touched_more : (rows : List (List ℕ)) (words : List Move) (w : Move) (v : Logic) (old mid new : List Front) → AreTouched rows words old mid → AreShown (row_of rows w.place) v mid new → AreTouched rows (words ++ w ∷ []) old new
touched_more rows words w v old mid new touched shown =
    let same : length mid ≡ length old = touched.same in
    record {
      same = shown.same ∙ touched.same;
      kept = λ place d h.
          let before : IsKept (front_at d old place) (front_at d mid place) = touched.kept place d h in
          let after : IsShown (row_of rows w.place) v place (front_at d mid place) (front_at d new place) = shown.each place d (omega arith) in
          record { queue = after.queue ∙ before.queue; kind = after.kind ∙ before.kind; output = after.output ∙ before.output };
      stale = λ place d h s.
          let after : IsShown (row_of rows w.place) v place (front_at d mid place) (front_at d new place) = shown.each place d (omega arith) in
          elim (either (front_at d mid place).is_stale (has_gate (row_of rows w.place) place) (sym after.stale ∙ s)) [
            | inl was ↦ elim (touched.stale place d h was) [
              | inl first ↦ inl first
              | inr before ↦ inr (reached-append rows words w place ∙ ap (λ (b : Bool). b || has_gate (row_of rows w.place) place) before)
            ]
            | inr here ↦ inr (reached-append rows words w place ∙ ap (λ (b : Bool). reached rows words place || b) here ∙ or_true (reached rows words place))
          ];
    }

-- Who reads each place is listed, gate by gate.
use Rattle.std.proofs.Common.{◌≡◌, ◌≢◌, ◌∙◌, ◌⊎◌, inl, inr, ℕ, ◌+◌, ◌*◌, ◌/◌, ◌%◌, ◌<◌, ◌≤◌, Bool, true, false, ◌&&◌, ◌||◌, eqb, ltb, cond, List, [], ◌∷◌, ◌++◌, length, map, get_or, refl, ap, sym, subst, arith}
use borrow.Author.Tests.{eqb-true}
use Rattle.std.specs.List.{All, range_with_len}
use Rattle.std.proofs.lemmas.Bool.{cases_lt, lt-ltb, le-ltb}
use Rattle.std.proofs.lemmas.List.{get_or_past}
use Rattle.std.proofs.lemmas.List.Folds.{list_any-append}
use Rattle.std.proofs.lemmas.List.FromFn.{get_or-map-range_with_len, length-map-range_with_len}
use Rattle.number_groups.specs.declared.groups.Keyed.{Keyed}
use Rattle.number_groups.specs.Groups.{group}
use Rattle.number_groups.proofs.Grouping.{group_push, keys_push}
use Rattle.warp_gates.specs.Cells.{Cell, Outside, Gate, Flop, IsCell, cell_at}
use Rattle.warp_gates.specs.Inner.Fronts.{inputs_of, edge_of, pin_of, has, row_of, is_clocked_by, AreReaders, AreClocked}
use Rattle.warp_gates.specs.Inner.First.{AreListed, AreTimed}
use Rattle.warp_gates.proofs.Showing.{same_or_not, eqb_same, eqb_other, or_false, or_true}
use Rattle.warp_gates.proofs.Moving.{either, pin_of-small}
use Rattle.warp_gates.proofs.Evaluating.{and_true, and_false}

-- what is listed, with an entry more
has_push : (es : List Keyed) (k number place n : ℕ) → has (group (es ++ record { key = k; number = number } ∷ []) place) n ≡ (has (group es place) n || (eqb k place && eqb number n))
has_push es k number place n =
    ap (λ (xs : List ℕ). has xs n) (group_push es k number place)
    ∙ list_any-append (λ x. eqb x n) (group es place) (cond (eqb k place) (number ∷ []) [])
    ∙ ap (λ (b : Bool). has (group es place) n || b) (go (eqb k place))
  where
    go : (b : Bool) → has (cond b (number ∷ []) []) n ≡ (b && eqb number n)
    go true = or_false (eqb number n)
    go false = refl

both : (a b : Bool) → (a && b) ≡ true → (a ≡ true) × (b ≡ true)
both true b h = (refl, h)
both false b h = cc

pub listed_none : (cells : List Cell) → AreListed cells 0 0 []
listed_none cells = record {
  below = λ i d h. absurd (omega arith);
  complete = λ g k before h. absurd (elim before [ inl lt ↦ omega arith | inr last ↦ let lt : k < 0 = last.1 in omega arith ]);
  sound = λ place edge h. cc;
}

-- an input more
pub listed_one : (cells : List Cell) (gate k input number : ℕ) (es : List Keyed) → AreListed cells gate k es → k < length (inputs_of (cell_at cells gate)) → input ≡ get_or (inputs_of (cell_at cells gate)) k 0
    → number ≡ edge_of gate (pin_of (inputs_of (cell_at cells gate)) k) → input < length cells → AreListed cells gate (k + 1) (es ++ record { key = input; number = number } ∷ [])
listed_one cells gate k input number es listed within at edge-is small =
    let pin : ℕ = pin_of (inputs_of (cell_at cells gate)) k in
    let few : pin < 8 = pin_of-small (inputs_of (cell_at cells gate)) k within in
    let gate-is : number / 8 ≡ gate = omega arith in
    let pin-is : number % 8 ≡ pin = omega arith in
    record {
      below = keys_push es input number (length cells) small listed.below;
      complete = λ g i before h.
          let place : ℕ = get_or (inputs_of (cell_at cells g)) i 0 in
          let edge : ℕ = edge_of g (pin_of (inputs_of (cell_at cells g)) i) in
          let old : (g < gate) ⊎ ((g ≡ gate) × (i < k)) → has (group (es ++ record { key = input; number = number } ∷ []) place) edge ≡ true =
          (λ was. has_push es input number place edge ∙ ap (λ (b : Bool). b || (eqb input place && eqb number edge)) (listed.complete g i was h)) in
          elim before [
            | inl lt ↦ old (inl lt)
            | inr last ↦ elim (cases_lt i k) [
              | inl lt ↦ old (inr (last.0, lt))
              | inr ge ↦
                  let le : i < k + 1 = last.1 in
                  let same : i ≡ k = omega arith in
                  let key : input ≡ place = at ∙ ap (λ (j : ℕ). get_or (inputs_of (cell_at cells gate)) j 0) (sym same) ∙ ap (λ (x : ℕ). get_or (inputs_of (cell_at cells x)) i 0) (sym last.0) in
                  let number' : number ≡ edge = edge-is ∙ ap (λ (j : ℕ). edge_of gate (pin_of (inputs_of (cell_at cells gate)) j)) (sym same) ∙ ap (λ (x : ℕ). edge_of x (pin_of (inputs_of (cell_at cells x)) i)) (sym last.0) in
                  has_push es input number place edge
                  ∙ ap (λ (b : Bool). has (group es place) edge || (b && eqb number edge)) (eqb_same input place key)
                  ∙ ap (λ (b : Bool). has (group es place) edge || b) (eqb_same number edge number')
                  ∙ or_true (has (group es place) edge)
            ]
          ];
      sound = λ place edge h.
          elim (either (has (group es place) edge) (eqb input place && eqb number edge) (sym (has_push es input number place edge) ∙ h)) [
            | inl was ↦ listed.sound place edge was
            | inr now ↦
                let is : (eqb input place ≡ true) × (eqb number edge ≡ true) = both (eqb input place) (eqb number edge) now in
                let key : input ≡ place = eqb-true input place is.0 in
                let number' : number ≡ edge = eqb-true number edge is.1 in
                let on : edge / 8 ≡ gate = omega arith in
                let by : edge % 8 ≡ pin = omega arith in
                let P : ℕ → Type 0 = λ g. (i : ℕ) × (i < length (inputs_of (cell_at cells g))) × (get_or (inputs_of (cell_at cells g)) i 0 ≡ place) × (edge % 8 ≡ pin_of (inputs_of (cell_at cells g)) i) in
                let here : P gate = (k, within, sym at ∙ key, by) in
                subst P (sym on) here
          ];
    }

-- all inputs of a gate
pub listed_next : (cells : List Cell) (gate k : ℕ) (es : List Keyed) → length (inputs_of (cell_at cells gate)) ≤ k → AreListed cells gate k es → AreListed cells (gate + 1) 0 es
listed_next cells gate k es all listed =
    record {
      below = listed.below;
      complete = λ g i before h. elim before [
        | inl lt ↦ elim (cases_lt g gate) [
          | inl less ↦ listed.complete g i (inl less) h
          | inr more ↦
              let same : g ≡ gate = omega arith in
              let many : length (inputs_of (cell_at cells g)) ≤ k = subst (λ (x : ℕ). length (inputs_of (cell_at cells x)) ≤ k) (sym same) all in
              listed.complete g i (inr (same, omega arith)) h
        ]
        | inr none ↦ (let lt : i < 0 = none.1 in absurd (omega arith))
      ];
      sound = listed.sound;
    }

-- ---- the rows of all places

input_within : (cell : Cell) (end k : ℕ) → IsCell end cell → k < length (inputs_of cell) → get_or (inputs_of cell) k 0 < end
input_within Outside end k h l = absurd (omega arith)
input_within (Flop d clock) end k h l = absurd (omega arith)
input_within (Gate kind inputs) end k h l = h.1 k 0 l

-- an input of a gate is a place
pub input_small : (cells : List Cell) (gate k : ℕ) → All (IsCell (length cells)) cells → k < length (inputs_of (cell_at cells gate)) → get_or (inputs_of (cell_at cells gate)) k 0 < length cells
input_small cells gate k closed h =
    elim (cases_lt gate (length cells)) [
      | inl lt ↦ input_within (cell_at cells gate) (length cells) k (closed gate Outside lt) h
      | inr ge ↦ (let none : k < 0 = subst (λ (c : Cell). k < length (inputs_of c)) (get_or_past cells gate Outside ge) h in absurd (omega arith))
    ]

row_is : (es : List Keyed) (keys place : ℕ) (rows : List (List ℕ)) → rows ≡ map (group es) (range_with_len 0 keys) → place < keys → row_of rows place ≡ group es place
row_is es keys place rows is h = ap (λ (rs : List (List ℕ)). row_of rs place) is ∙ get_or-map-range_with_len (group es) 0 keys place place [] h (omega arith)

rows_many : (es : List Keyed) (keys : ℕ) (rows : List (List ℕ)) → rows ≡ map (group es) (range_with_len 0 keys) → length rows ≡ keys
rows_many es keys rows is = ap (λ (rs : List (List ℕ)). length rs) is ∙ length-map-range_with_len (group es) 0 keys

pub are_readers : (cells : List Cell) (es : List Keyed) (rows : List (List ℕ)) → All (IsCell (length cells)) cells → rows ≡ map (group es) (range_with_len 0 (length cells)) → AreListed cells (length cells) 0 es → AreReaders cells rows
are_readers cells es rows closed is listed =
    let many : length rows ≡ length cells = rows_many es (length cells) rows is in
    record {
      same = many;
      complete = λ gate k h.
          let place : ℕ = get_or (inputs_of (cell_at cells gate)) k 0 in
          let small : place < length cells = input_small cells gate k closed h in
          ap (λ (r : List ℕ). has r (edge_of gate (pin_of (inputs_of (cell_at cells gate)) k))) (row_is es (length cells) place rows is small)
          ∙ elim (cases_lt gate (length cells)) [
            | inl lt ↦ listed.complete gate k (inl lt) h
            | inr ge ↦ (let none : k < 0 = subst (λ (c : Cell). k < length (inputs_of c)) (get_or_past cells gate Outside ge) h in absurd (omega arith))
          ];
      sound = λ place edge h. elim (cases_lt place (length cells)) [
        | inl lt ↦ listed.sound place edge (sym (ap (λ (r : List ℕ). has r edge) (row_is es (length cells) place rows is lt)) ∙ h)
        | inr ge ↦ (let none : has (row_of rows place) edge ≡ false = ap (λ (r : List ℕ). has r edge) (get_or_past rows place [] (omega arith)) in cc)
      ];
    }

-- an input more, as calls tell it
pub listed_call : (cells : List Cell) (gate k pin : ℕ) (inputs : List ℕ) (es es' : List Keyed) → All (IsCell (length cells)) cells → inputs ≡ inputs_of (cell_at cells gate) → k < length inputs → pin ≡ pin_of inputs k → AreListed cells gate k es
    → es' ≡ es ++ record { key = get_or inputs k 0; number = gate * 8 + pin } ∷ [] → AreListed cells gate (k + 1) es'
listed_call cells gate k pin inputs es es' closed is within at listed more =
    let within' : k < length (inputs_of (cell_at cells gate)) = subst (λ (xs : List ℕ). k < length xs) is within in
    let input : get_or inputs k 0 ≡ get_or (inputs_of (cell_at cells gate)) k 0 = ap (λ (xs : List ℕ). get_or xs k 0) is in
    let small : get_or inputs k 0 < length cells = subst (λ (n : ℕ). n < length cells) (sym input) (input_small cells gate k closed within') in
    subst (λ (xs : List Keyed). AreListed cells gate (k + 1) xs) (sym more)
    (listed_one cells gate k (get_or inputs k 0) (gate * 8 + pin) es listed within' input (ap (λ (n : ℕ). gate * 8 + n) (at ∙ ap (λ (xs : List ℕ). pin_of xs k) is)) small)

pub readers_made : (cells : List Cell) (gate keys : ℕ) (es made : List Keyed) → All (IsCell (length cells)) cells → gate ≡ length cells → keys ≡ length cells → made ≡ es → AreListed cells gate 0 es
    → (rows : List (List ℕ)) → rows ≡ map (group made) (range_with_len 0 keys) → AreReaders cells rows
readers_made cells gate keys es made closed all many same listed rows is =
    are_readers cells es rows closed (is ∙ ap (λ (xs : List Keyed). map (group xs) (range_with_len 0 keys)) same ∙ ap (λ (n : ℕ). map (group es) (range_with_len 0 n)) many) (subst (λ (n : ℕ). AreListed cells n 0 es) all listed)

-- ---- clocks

pub timed_none : (cells : List Cell) → AreTimed cells 0 []
timed_none cells = record {
  below = λ i d h. absurd (omega arith);
  each = λ place flop. sym (ap (λ (b : Bool). b && is_clocked_by place (cell_at cells flop)) (le-ltb flop 0 (omega arith)));
}

-- a place more, which is no flip-flop's
no_clock : (place : ℕ) (cell : Cell) → ((p : ℕ) → is_clocked_by p cell ≡ false) → (b : Bool) → (b && is_clocked_by place cell) ≡ false
no_clock place cell none true = none place
no_clock place cell none false = refl

ltb_other : (n count : ℕ) → n ≢ count → ltb n (count + 1) ≡ ltb n count
ltb_other n count other = elim (cases_lt n count) [
  | inl lt ↦ lt-ltb n (count + 1) (omega arith) ∙ sym (lt-ltb n count lt)
  | inr ge ↦ le-ltb n (count + 1) (omega arith) ∙ sym (le-ltb n count ge)
]

pub timed_other : (cells : List Cell) (count : ℕ) (es : List Keyed) → AreTimed cells count es → ((p : ℕ) → is_clocked_by p (cell_at cells count) ≡ false) → AreTimed cells (count + 1) es
timed_other cells count es timed none = record {
  below = timed.below;
  each = λ place flop. timed.each place flop ∙ elim (same_or_not flop count) [
    | inl here ↦
        let none' : (p : ℕ) → is_clocked_by p (cell_at cells flop) ≡ false = λ p. ap (λ (i : ℕ). is_clocked_by p (cell_at cells i)) here ∙ none p in
        no_clock place (cell_at cells flop) none' (ltb flop count) ∙ sym (no_clock place (cell_at cells flop) none' (ltb flop (count + 1)))
    | inr there ↦ sym (ap (λ (b : Bool). b && is_clocked_by place (cell_at cells flop)) (ltb_other flop count there))
  ];
}

-- a flip-flop more
pub timed_one : (cells : List Cell) (count clock number : ℕ) (es : List Keyed) → AreTimed cells count es → ((p : ℕ) → is_clocked_by p (cell_at cells count) ≡ eqb clock p) → number ≡ count → clock < length cells
    → AreTimed cells (count + 1) (es ++ record { key = clock; number = number } ∷ [])
timed_one cells count clock number es timed is at small = record {
  below = keys_push es clock number (length cells) small timed.below;
  each = λ place flop. has_push es clock number place flop ∙ ap (λ (b : Bool). b || (eqb clock place && eqb number flop)) (timed.each place flop) ∙ elim (same_or_not flop count) [
    | inl here ↦
        ap (λ (b : Bool). (b && is_clocked_by place (cell_at cells flop)) || (eqb clock place && eqb number flop)) (le-ltb flop count (omega arith))
        ∙ ap (λ (b : Bool). eqb clock place && b) (eqb_same number flop (at ∙ sym here))
        ∙ and_true (eqb clock place)
        ∙ sym (ap (λ (b : Bool). b && is_clocked_by place (cell_at cells flop)) (lt-ltb flop (count + 1) (omega arith)) ∙ ap (λ (i : ℕ). is_clocked_by place (cell_at cells i)) here ∙ is place)
    | inr there ↦
        ap (λ (b : Bool). (ltb flop count && is_clocked_by place (cell_at cells flop)) || (eqb clock place && b)) (eqb_other number flop (λ e. there (sym e ∙ at)))
        ∙ ap (λ (b : Bool). (ltb flop count && is_clocked_by place (cell_at cells flop)) || b) (and_false (eqb clock place))
        ∙ or_false (ltb flop count && is_clocked_by place (cell_at cells flop))
        ∙ sym (ap (λ (b : Bool). b && is_clocked_by place (cell_at cells flop)) (ltb_other flop count there))
  ];
}

clocked_past : (cells : List Cell) (place flop : ℕ) → length cells ≤ flop → is_clocked_by place (cell_at cells flop) ≡ false
clocked_past cells place flop h = ap (is_clocked_by place) (get_or_past cells flop Outside h)

clock_within : (cell : Cell) (end place : ℕ) → IsCell end cell → end ≤ place → is_clocked_by place cell ≡ false
clock_within Outside end place h l = refl
clock_within (Gate kind inputs) end place h l = refl
clock_within (Flop d clock) end place h l = let small : clock < end = h.1 in eqb_other clock place (λ e. omega arith)

pub are_clocked : (cells : List Cell) (es : List Keyed) (rows : List (List ℕ)) → All (IsCell (length cells)) cells → rows ≡ map (group es) (range_with_len 0 (length cells)) → AreTimed cells (length cells) es → AreClocked cells rows
are_clocked cells es rows closed is timed =
    let many : length rows ≡ length cells = rows_many es (length cells) rows is in
    record {
      same = many;
      each = λ place flop. elim (cases_lt place (length cells)) [
        | inl lt ↦
            ap (λ (r : List ℕ). has r flop) (row_is es (length cells) place rows is lt) ∙ timed.each place flop ∙ elim (cases_lt flop (length cells)) [
              | inl less ↦ ap (λ (b : Bool). b && is_clocked_by place (cell_at cells flop)) (lt-ltb flop (length cells) less)
              | inr more ↦ ap (λ (b : Bool). b && is_clocked_by place (cell_at cells flop)) (le-ltb flop (length cells) more) ∙ sym (clocked_past cells place flop more)
            ]
        | inr ge ↦
            ap (λ (r : List ℕ). has r flop) (get_or_past rows place [] (omega arith)) ∙ sym (elim (cases_lt flop (length cells)) [
              | inl less ↦ clock_within (cell_at cells flop) (length cells) place (closed flop Outside less) ge
              | inr more ↦ clocked_past cells place flop more
            ])
      ];
    }

pub clocked_made : (cells : List Cell) (count keys : ℕ) (es made : List Keyed) → All (IsCell (length cells)) cells → count ≡ length cells → keys ≡ length cells → made ≡ es → AreTimed cells count es
    → (rows : List (List ℕ)) → rows ≡ map (group made) (range_with_len 0 keys) → AreClocked cells rows
clocked_made cells count keys es made closed all many same timed rows is =
    are_clocked cells es rows closed (is ∙ ap (λ (xs : List Keyed). map (group xs) (range_with_len 0 keys)) same ∙ ap (λ (n : ℕ). map (group es) (range_with_len 0 n)) many) (subst (λ (n : ℕ). AreTimed cells n es) all timed)

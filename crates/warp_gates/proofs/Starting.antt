-- What is kept of each place at first.
use Rattle.std.proofs.Common.{◌≡◌, ◌∙◌, inl, inr, ℕ, zero, suc, ◌+◌, ◌-◌, ◌<◌, ◌≤◌, Bool, false, cond, List, [], ◌∷◌, ◌++◌, length, map, get_or, set, replicate, Some, refl, ap, sym, subst, arith}
use Rattle.std.specs.List.{All}
use Rattle.std.proofs.lemmas.Bool.{cases_lt, lt-ltb, le-ltb}
use Rattle.std.proofs.lemmas.List.{length-map, length-replicate, get_or-replicate, ext_get_or, get_or_past, length-append}
use Rattle.std.proofs.Math.ListN.{get_or-append}
use Rattle.std.proofs.Math.Seq.{get_or-append_right}
use Rattle.gate_values.specs.declared.logic.Logic.{Logic}
use Rattle.gate_values.specs.declared.logic.Logic.TheVariants.{X}
use Rattle.gate_values.specs.declared.gate.Kind.{Kind}
use Rattle.gate_values.specs.Tables.{table_of, HasInputs}
use Rattle.gate_values.proofs.Beginning.{table_of-unknown}
use Rattle.warp_stores.specs.declared.word.TheConstants.{PLACES}
use Rattle.warp_gates.specs.declared.front.Front.{Front}
use Rattle.warp_gates.specs.Cells.{Cell, Outside, Gate, Flop, IsCell, value_at, cell_at, gate_output, first_output}
use Rattle.warp_gates.specs.declared.pins.Pins.{Pins}
use Rattle.warp_gates.specs.Inner.Pins.{pins_of, pins_in}
use Rattle.warp_gates.specs.Inner.Fronts.{front_at, neutral, padded, inputs_of, IsShowing, IsFresh, AreReaders, AreClocked}
use Rattle.warp_gates.specs.Inner.Held.{AreHeld}
use Rattle.warp_gates.specs.Inner.First.{unknown, first_pin, kind_of, IsFirst, AreFirst}
use Rattle.warp_gates.proofs.Moving.{padded_at, map_same}
use Rattle.warp_gates.proofs.Steps.{nothing, output-map, output_past, queue-map}

pub unknown_at : (n place : ℕ) → value_at (unknown n) place ≡ X
unknown_at zero place = refl
unknown_at (suc n) zero = refl
unknown_at (suc n) (suc place) = unknown_at n place

-- the pins of a gate whose inputs are unknown
padded_first : (kind : Kind) (n : ℕ) (inputs : List ℕ) (k : ℕ) → k < 4 → value_at (padded kind (map (value_at (unknown n)) inputs)) k ≡ first_pin kind (length inputs) k
padded_first kind n inputs k small = elim (cases_lt k (length inputs)) [
  | inl lt ↦ padded_at kind (unknown n) inputs k lt ∙ unknown_at n (get_or inputs k 0) ∙ sym (ap (λ (b : Bool). cond b X (neutral kind)) (lt-ltb k (length inputs) lt))
  | inr ge ↦
      let f : ℕ → Logic = value_at (unknown n) in
      let many : length (map f inputs) ≡ length inputs = length-map inputs f in
      get_or-append_right (map f inputs) (replicate (4 - length (map f inputs)) (neutral kind)) k X (omega arith)
      ∙ get_or-replicate (4 - length (map f inputs)) (k - length (map f inputs)) (neutral kind) X (omega arith)
      ∙ sym (ap (λ (b : Bool). cond b X (neutral kind)) (le-ltb k (length inputs) ge))
]

pin_at : (kind : Kind) (count k : ℕ) → k < 4 → value_at (first_pin kind count 0 ∷ first_pin kind count 1 ∷ first_pin kind count 2 ∷ first_pin kind count 3 ∷ []) k ≡ first_pin kind count k
pin_at kind count zero h = refl
pin_at kind count (suc zero) h = refl
pin_at kind count (suc (suc zero)) h = refl
pin_at kind count (suc (suc (suc zero))) h = refl
pin_at kind count (suc (suc (suc (suc k)))) h = absurd (omega arith)

pub first_showing : (kind : Kind) (inputs : List ℕ) (front : Front) → front.kind ≡ kind
    → pins_of front.pins ≡ first_pin kind (length inputs) 0 ∷ first_pin kind (length inputs) 1 ∷ first_pin kind (length inputs) 2 ∷ first_pin kind (length inputs) 3 ∷ [] → (n : ℕ) → IsShowing (unknown n) (Gate kind inputs) front
first_showing kind inputs front is pins n =
    (is, λ narrow k small. ap (λ (vs : List Logic). value_at vs k) pins ∙ pin_at kind (length inputs) k small ∙ sym (padded_first kind n inputs k small))

-- four values, set one after the other
pub pins_set : (bits : ℕ) (a b c d : Logic) (p q r s : List Logic) → bits ≡ 0 → p ≡ set (pins_in bits) 0 a → q ≡ set p 1 b → r ≡ set q 2 c → s ≡ set r 3 d → s ≡ a ∷ b ∷ c ∷ d ∷ []
pins_set bits a b c d p q r s none first second third fourth =
    fourth ∙ ap (λ (vs : List Logic). set vs 3 d) (third ∙ ap (λ (vs : List Logic). set vs 2 c) (second ∙ ap (λ (vs : List Logic). set vs 1 b) (first ∙ ap (λ (n : ℕ). set (pins_in n) 0 a) none)))

pub four : (a b c d a' b' c' d' : Logic) → a ≡ a' → b ≡ b' → c ≡ c' → d ≡ d' → (a ∷ b ∷ c ∷ d ∷ []) ≡ (a' ∷ b' ∷ c' ∷ d' ∷ [])
four a b c d a' b' c' d' h i j k = cc

-- what is kept of a gate
pub first_of_gate : (cell : Cell) (kind : Kind) (number : ℕ) (content : Logic) (inputs : List ℕ) (pins : Pins) → Some kind ≡ kind_of cell → inputs ≡ inputs_of cell
    → pins_of pins ≡ first_pin kind (length inputs) 0 ∷ first_pin kind (length inputs) 1 ∷ first_pin kind (length inputs) 2 ∷ first_pin kind (length inputs) 3 ∷ []
    → IsFirst cell number content (record { queue = number; pins = pins; kind = kind; output = X; is_stale = false })
first_of_gate Outside kind number content inputs pins is reads h = absurd cc
first_of_gate (Flop d clock) kind number content inputs pins is reads h = absurd cc
first_of_gate (Gate k is) kind number content inputs pins same reads h =
    let kind-is : kind ≡ k = cc in
    record {
      queue = refl;
      output = refl;
      fresh = refl;
      showing = first_showing k is (record { queue = number; pins = pins; kind = kind; output = X; is_stale = false }) kind-is
          (h ∙ ap (λ (x : Kind). first_pin x (length inputs) 0 ∷ first_pin x (length inputs) 1 ∷ first_pin x (length inputs) 2 ∷ first_pin x (length inputs) 3 ∷ []) kind-is
          ∙ ap (λ (xs : List ℕ). first_pin k (length xs) 0 ∷ first_pin k (length xs) 1 ∷ first_pin k (length xs) 2 ∷ first_pin k (length xs) 3 ∷ []) reads);
    }

-- what a gate makes of unknown inputs
first_gate : (n : ℕ) (kind : Kind) (inputs : List ℕ) → HasInputs kind (length inputs) → gate_output (unknown n) kind inputs ≡ X
first_gate n kind inputs h = ap (table_of kind) (map_same (value_at (unknown n)) (λ (i : ℕ). X) inputs (λ k l. unknown_at n (get_or inputs k 0))) ∙ table_of-unknown kind inputs h

first_fresh : (n end : ℕ) (cell : Cell) (content : Logic) (front : Front) → IsCell end cell → front.output ≡ first_output cell content → IsFresh (unknown n) cell front
first_fresh n end Outside content front h is = tt
first_fresh n end (Flop d clock) content front h is = tt
first_fresh n end (Gate kind inputs) content front h is = inr (is ∙ sym (first_gate n kind inputs h.0))

pub held_first : (cells : List Cell) (queues : List ℕ) (contents : List Logic) (fronts : List Front) (rows flops : List (List ℕ)) → length cells ≤ PLACES → All (IsCell (length cells)) cells
    → AreFirst cells queues contents (length cells) fronts → AreReaders cells rows → AreClocked cells flops → AreHeld cells fronts (unknown (length cells)) rows flops
held_first cells queues contents fronts rows flops few closed first readers clocked =
    let many : length fronts ≡ length cells = first.many in
    record {
      few = few;
      closed = closed;
      values = length-replicate (length cells) X;
      fronts = record {
        same = many;
        showing = λ place d h. let f : IsFirst (cell_at cells place) (get_or queues place 0) (value_at contents place) (front_at d fronts place) = first.each place d h in f.showing (length cells);
        fresh = λ place d h.
            let f : IsFirst (cell_at cells place) (get_or queues place 0) (value_at contents place) (front_at d fronts place) = first.each place d h in
            first_fresh (length cells) (length cells) (cell_at cells place) (value_at contents place) (front_at d fronts place) (closed place Outside h) f.output;
      };
      settled = record {
        each = λ place d h. let f : IsFirst (cell_at cells place) (get_or queues place 0) (value_at contents place) (front_at d fronts place) = first.each place d (omega arith) in f.fresh;
      };
      readers = readers;
      clocked = clocked;
    }

pub first_queues : (cells : List Cell) (queues : List ℕ) (contents : List Logic) (fronts : List Front) → length queues ≡ length cells → AreFirst cells queues contents (length cells) fronts → map (λ (f : Front). f.queue) fronts ≡ queues
first_queues cells queues contents fronts same first =
    let many : length fronts ≡ length cells = first.many in
    let count : length (map (λ (f : Front). f.queue) fronts) ≡ length fronts = length-map fronts (λ (f : Front). f.queue) in
    ext_get_or 0 (map (λ (f : Front). f.queue) fronts) queues (omega arith)
    (λ place h.
    let f : IsFirst (cell_at cells place) (get_or queues place 0) (value_at contents place) (front_at nothing fronts place) = first.each place nothing (omega arith) in
    queue-map fronts place ∙ f.queue)

-- what places put out at first
pub first_outputs : (cells : List Cell) (queues : List ℕ) (contents : List Logic) (fronts : List Front) → length contents ≡ length cells → AreFirst cells queues contents (length cells) fronts
    → (place : ℕ) → value_at (map (λ (f : Front). f.output) fronts) place ≡ first_output (cell_at cells place) (value_at contents place)
first_outputs cells queues contents fronts same first place =
    let many : length fronts ≡ length cells = first.many in
    output-map fronts place ∙ elim (cases_lt place (length cells)) [
      | inl lt ↦ (let f : IsFirst (cell_at cells place) (get_or queues place 0) (value_at contents place) (front_at nothing fronts place) = first.each place nothing lt in f.output)
      | inr ge ↦ output_past fronts place (omega arith) ∙ sym (ap (λ (c : Cell). first_output c (value_at contents place)) (get_or_past cells place Outside ge) ∙ get_or_past contents place X (omega arith))
    ]

pub first_none : (cells : List Cell) (queues : List ℕ) (contents : List Logic) → AreFirst cells queues contents 0 []
first_none cells queues contents = record { many = refl; each = λ place d h. absurd (omega arith) }

pub first_more : (cells : List Cell) (queues : List ℕ) (contents : List Logic) (count queue : ℕ) (content : Logic) (fronts : List Front) (f : Front) → AreFirst cells queues contents count fronts
    → queue ≡ get_or queues count 0 → content ≡ value_at contents count → IsFirst (cell_at cells count) queue content f → AreFirst cells queues contents (count + 1) (fronts ++ f ∷ [])
first_more cells queues contents count queue content fronts f first queue-is content-is one =
    let many : length fronts ≡ count = first.many in
    record {
      many = length-append fronts (f ∷ []) ∙ ap (λ (n : ℕ). n + 1) many;
      each = λ place d h. elim (cases_lt place count) [
        | inl lt ↦
            subst (λ (x : Front). IsFirst (cell_at cells place) (get_or queues place 0) (value_at contents place) x) (sym (get_or-append fronts (f ∷ []) d place (omega arith))) (first.each place d lt)
        | inr ge ↦
            let same : count ≡ place = omega arith in
            let zero-is : place - length fronts ≡ 0 = omega arith in
            let at : front_at d (fronts ++ f ∷ []) place ≡ f = get_or-append_right fronts (f ∷ []) place d (omega arith) ∙ ap (λ (i : ℕ). get_or (f ∷ []) i d) zero-is in
            subst (λ (x : Front). IsFirst (cell_at cells place) (get_or queues place 0) (value_at contents place) x) (sym at)
            (subst (λ (p : ℕ). IsFirst (cell_at cells p) (get_or queues p 0) (value_at contents p) f) same
            (subst (λ (v : Logic). IsFirst (cell_at cells count) (get_or queues count 0) v f) content-is
            (subst (λ (q : ℕ). IsFirst (cell_at cells count) q content f) queue-is one)))
      ];
    }

-- The tests of two parts tell whether they are one.
use Rattle.std.proofs.Common.{◌≡◌, ℕ, suc, ◌<◌, ◌==◌, ◌↔◌, Bool, false, ◌&&◌, cond, List, [], ◌∷◌, map, drop, length, get_or, inl, inr, refl, ap, sym, subst, ◌∙◌, arith}
use Rattle.std.specs.Bool.{Decides}
use Rattle.std.specs.List.{All}
use Rattle.std.specs.List.Sorted.{IsStrictlyIncreasing}
use Rattle.std.specs.Cmp.{unsigned_Decides, booleans_Decides}
use Rattle.std.specs.Ordering.{on}
use Rattle.std.proofs.lemmas.Bool.{cases_order, and_parts, and_from}
use Rattle.std.proofs.lemmas.List.{ext_get_or, get_or-map}
use Rattle.std.proofs.lemmas.List.Elements.{All-take, All-drop}
use Rattle.std.proofs.lemmas.List.Kept.{AllPairs-from_increasing}
use Rattle.std.proofs.lemmas.Slice.Eq.{bytes_eq-Decides, slice_eq-Decides}
use lib.Pointwise.{pointwise}
use Rattle.gate_values.specs.declared.logic.Logic.{Logic}
use Rattle.gate_values.specs.declared.logic.Logic.TheVariants.{Zero, One, X, Z}
use Rattle.gate_values.specs.declared.gate.Kind.{Kind}
use Rattle.gate_values.specs.declared.gate.Kind.TheVariants.{And, Nand, Or, Nor, Xor, Xnor, Not, Buff}
use Rattle.gate_values.specs.Behaviour.{Source, Outside, Gate, Flop}
use Rattle.warp_part.specs.declared.cell.Cell.{Cell}
use Rattle.warp_part.specs.declared.cell.Cell.TheVariants as cell
use Rattle.warp_part.specs.declared.cell.Span.{Span}
use Rattle.warp_part.specs.declared.part.Part.TheInside.{Inside}
use Rattle.warp_part.specs.Inner.HeldPart.{IsHeld, CellFits}
use Rattle.warp_part.specs.Shown.Part.{portion_of, cell_source, is_input_cell, stretch}
use Rattle.warp_part.specs.Portion.{Portion, IsPortion}
use Rattle.warp_part.specs.SamePart.{kind_place, logic_place, numbers_of, same_part}
use Rattle.warp_part.specs.Inner.SamePart.{SameAt, IsGate, SameCell}
use Rattle.warp_part.proofs.PartHeld.{source-at, fits-at}
use Rattle.warp_part.proofs.PartWhole.{same_portion}

-- ---- the test of two parts

kind_at : ℕ → Kind
kind_at n = cond (n == 0) And (cond (n == 1) Nand (cond (n == 2) Or (cond (n == 3) Nor (cond (n == 4) Xor (cond (n == 5) Xnor (cond (n == 6) Not Buff))))))

kind_again : (k : Kind) → kind_at (kind_place k) ≡ k
unfolding kind_at
kind_again And = refl
kind_again Nand = refl
kind_again Or = refl
kind_again Nor = refl
kind_again Xor = refl
kind_again Xnor = refl
kind_again Not = refl
kind_again Buff = refl

logic_at : ℕ → Logic
logic_at n = cond (n == 0) Zero (cond (n == 1) One (cond (n == 2) X Z))

logic_again : (v : Logic) → logic_at (logic_place v) ≡ v
unfolding logic_at
logic_again Zero = refl
logic_again One = refl
logic_again X = refl
logic_again Z = refl

-- sources with the same numbers are one
numbers_source : (s t : Source) → numbers_of s ≡ numbers_of t → s ≡ t
numbers_source Outside Outside e = refl
numbers_source (Gate k d xs) (Gate l c ys) e =
    let places : kind_place k ≡ kind_place l = cc in
    let kinds : k ≡ l = sym (kind_again k) ∙ (ap kind_at places ∙ kind_again l) in
    cc
numbers_source (Flop d n c i) (Flop e m k j) same =
    let places : logic_place i ≡ logic_place j = cc in
    let contents : i ≡ j = sym (logic_again i) ∙ (ap logic_at places ∙ logic_again j) in
    cc
numbers_source Outside (Gate l c ys) e = cc
numbers_source Outside (Flop e m k j) same = cc
numbers_source (Gate k d xs) Outside e = cc
numbers_source (Gate k d xs) (Flop e m c j) same = cc
numbers_source (Flop d n c i) Outside e = cc
numbers_source (Flop d n c i) (Gate l e ys) same = cc

source_decides : (s t : Source) → Decides (on numbers_of (pointwise ◌==◌) s t) (s ≡ t)
source_decides s t =
    let numbers = bytes_eq-Decides (numbers_of s) (numbers_of t) in
    (λ e. numbers_source s t (numbers.0 e), λ e. numbers.1 (ap numbers_of e))

both : {P Q : Type 0} (a b : Bool) → Decides a P → Decides b Q → Decides (a && b) (P × Q)
both a b p q = (λ e. (let (x, y) = and_parts a b e in (p.0 x, q.0 y)), λ h. and_from a b (p.1 h.0) (q.1 h.1))

pub part_decides : (p q : Portion) → Decides (same_part p q) (p ≡ q)
part_decides p q =
    let nets = slice_eq-Decides unsigned_Decides p.nets q.nets (pointwise ◌==◌ p.nets q.nets) refl in
    let sources = slice_eq-Decides source_decides p.sources q.sources (pointwise (on numbers_of (pointwise ◌==◌)) p.sources q.sources) refl in
    let inputs = slice_eq-Decides booleans_Decides p.inputs q.inputs _ refl in
    let readers = slice_eq-Decides bytes_eq-Decides p.readers q.readers (pointwise (pointwise ◌==◌) p.readers q.readers) refl in
    let all = both _ _ (unsigned_Decides p.block q.block) (both _ _ nets (both _ _ sources (both _ _ inputs readers))) in (
      λ e. (let h = all.0 e in same_portion p q h.0 h.1.0 h.1.1.0 h.1.1.1.0 h.1.1.1.1),
      λ e. all.1 (ap (λ (r : Portion). r.block) e, (ap (λ (r : Portion). r.nets) e, (ap (λ (r : Portion). r.sources) e, (ap (λ (r : Portion). r.inputs) e, ap (λ (r : Portion). r.readers) e)))),
    )

-- parts that say the same of each net are one
pub parts_same : (p q : Portion) → IsPortion p → IsPortion q → p.block ≡ q.block → p.nets ≡ q.nets → ((i : ℕ) → i < length p.nets → SameAt p q i) → p ≡ q
parts_same p q g h block nets at =
    let many : length p.nets ≡ length q.nets = ap length nets in
    same_portion p q block nets
    (ext_get_or Outside p.sources q.sources (omega (arith, g.sources, h.sources)) (λ i l. (at i (omega (arith, g.sources))).source))
    (ext_get_or false p.inputs q.inputs (omega (arith, g.inputs, h.inputs)) (λ i l. (at i (omega (arith, g.inputs))).input))
    (ext_get_or [] p.readers q.readers (omega (arith, g.readers, h.readers)) (λ i l. (at i (omega (arith, g.readers))).readers))

pub one_same : (p q : Portion) → p ≡ q → (i : ℕ) → SameAt p q i
one_same p q e i = record {
  source = ap (λ (r : Portion). get_or r.sources i Outside) e;
  input = ap (λ (r : Portion). get_or r.inputs i false) e;
  readers = ap (λ (r : Portion). get_or r.readers i []) e;
}

-- ---- cells

module _ (nets : List ℕ) (up : IsStrictlyIncreasing nets) where
  place_same : (x y : ℕ) → x < length nets → y < length nets → get_or nets x 0 ≡ get_or nets y 0 → x ≡ y
  place_same x y l m e =
      elim (cases_order x y) [
        | inl same ↦ same
        | inr (inl less) ↦ absurd (omega (arith, AllPairs-from_increasing nets up x y 0 less m, e))
        | inr (inr more) ↦ absurd (omega (arith, AllPairs-from_increasing nets up y x 0 more l, e))
      ]

  places_same : (xs ys : List ℕ) → All (λ x. x < length nets) xs → All (λ y. y < length nets) ys → map (λ place. get_or nets place 0) xs ≡ map (λ place. get_or nets place 0) ys → xs ≡ ys
  places_same [] [] g h e = refl
  places_same [] (y ∷ ys) g h e = absurd cc
  places_same (x ∷ xs) [] g h e = absurd cc
  places_same (x ∷ xs) (y ∷ ys) g h e =
      let first : get_or nets x 0 ≡ get_or nets y 0 = cc in
      let others : map (λ place. get_or nets place 0) xs ≡ map (λ place. get_or nets place 0) ys = cc in
      let head = place_same x y (g 0 0 (omega arith)) (h 0 0 (omega arith)) first in
      let rest = places_same xs ys (λ k d l. g (suc k) d (omega (arith, l))) (λ k d l. h (suc k) d (omega (arith, l))) others in
      cc

  -- gates of one kind, with one delay and the same pins
  gates_same : (k l : Kind) (d e : ℕ) (ps qs : List ℕ) → All (λ pin. pin < length nets) ps → All (λ pin. pin < length nets) qs
      → ((k ≡ l) × (d ≡ e) × (ps ≡ qs)) ↔ ((Source.Gate k d (map (λ place. get_or nets place 0) ps) ≡ Source.Gate l e (map (λ place. get_or nets place 0) qs)) × (false ≡ false))
  gates_same k l d e ps qs g h = (
    λ r. (let kinds = r.0 in
        let delays = r.1 in
        let nets_same : map (λ place. get_or nets place 0) ps ≡ map (λ place. get_or nets place 0) qs = ap (map (λ place. get_or nets place 0)) r.2 in
        (cc, refl)),
    λ r. (let source = r.0 in
        let kinds : k ≡ l = cc in
        let delays : d ≡ e = cc in
        let same : map (λ place. get_or nets place 0) ps ≡ map (λ place. get_or nets place 0) qs = cc in
        (kinds, delays, places_same ps qs g h same)),
  )

  -- what stands in a stretch are places
  stretch_within : (pins : List ℕ) (span : Span) → All (λ pin. pin < length nets) pins → All (λ pin. pin < length nets) (stretch pins span)
  stretch_within pins span h = All-take (λ pin. pin < length nets) span.count (drop span.start pins) (All-drop (λ pin. pin < length nets) span.start pins h)

  -- a gate and a cell
  gate_same : (others : List ℕ) → All (λ pin. pin < length nets) others → (k : Kind) (d : ℕ) (ps : List ℕ) → All (λ pin. pin < length nets) ps → (b : Cell) → CellFits (length nets) (length others) b
      → IsGate k d ps others b ↔ ((Source.Gate k d (map (λ place. get_or nets place 0) ps) ≡ cell_source nets others b) × (false ≡ is_input_cell b))
  gate_same others h k d ps g (cell.Pair l e two) y = gates_same k l d e ps two g y.1
  gate_same others h k d ps g (cell.Gate l e t) y = gates_same k l d e ps (stretch others t) g (stretch_within others t h)
  gate_same others h k d ps g cell.Input y = (λ r. absurd r, λ r. absurd (let f = r.0 in cc))
  gate_same others h k d ps g cell.Foreign y = (λ r. absurd r, λ r. absurd (let f = r.0 in cc))
  gate_same others h k d ps g (cell.Flop b e m j) y = (λ r. absurd r, λ r. absurd (let f = r.0 in cc))

  -- cells that say the same mean the same, and the other way round
  cells_same : (pins others : List ℕ) → All (λ pin. pin < length nets) pins → All (λ pin. pin < length nets) others → (a b : Cell)
      → CellFits (length nets) (length pins) a → CellFits (length nets) (length others) b
      → SameCell pins a others b ↔ ((cell_source nets pins a ≡ cell_source nets others b) × (is_input_cell a ≡ is_input_cell b))
  cells_same pins others g h (cell.Pair k d two) b x y = gate_same others h k d two x.1 b y
  cells_same pins others g h (cell.Gate k d s) b x y = gate_same others h k d (stretch pins s) (stretch_within pins s g) b y
  cells_same pins others g h cell.Input cell.Input x y = (λ r. (refl, refl), λ r. tt)
  cells_same pins others g h cell.Foreign cell.Foreign x y = (λ r. (refl, refl), λ r. tt)
  cells_same pins others g h (cell.Flop a d n c) (cell.Flop b e m j) x y = (
    λ r. (let delays = r.0 in let data_same = r.1 in let clocks = r.2 in let contents = r.3 in (cc, refl)),
    λ r. (let source = r.0 in
        let delays : d ≡ e = cc in
        let data_same : get_or nets n 0 ≡ get_or nets m 0 = cc in
        let clocks : get_or nets c 0 ≡ get_or nets j 0 = cc in
        let contents : a ≡ b = cc in
        (delays, place_same n m x.0 y.0 data_same, place_same c j x.1 y.1 clocks, contents)),
  )
  cells_same pins others g h cell.Input cell.Foreign x y = (λ r. absurd r, λ r. absurd (let f = r.1 in cc))
  cells_same pins others g h cell.Input (cell.Pair l e two) x y = (λ r. absurd r, λ r. absurd (let f = r.0 in cc))
  cells_same pins others g h cell.Input (cell.Gate l e t) x y = (λ r. absurd r, λ r. absurd (let f = r.0 in cc))
  cells_same pins others g h cell.Input (cell.Flop b e m j) x y = (λ r. absurd r, λ r. absurd (let f = r.0 in cc))
  cells_same pins others g h cell.Foreign cell.Input x y = (λ r. absurd r, λ r. absurd (let f = r.1 in cc))
  cells_same pins others g h cell.Foreign (cell.Pair l e two) x y = (λ r. absurd r, λ r. absurd (let f = r.0 in cc))
  cells_same pins others g h cell.Foreign (cell.Gate l e t) x y = (λ r. absurd r, λ r. absurd (let f = r.0 in cc))
  cells_same pins others g h cell.Foreign (cell.Flop b e m j) x y = (λ r. absurd r, λ r. absurd (let f = r.0 in cc))
  cells_same pins others g h (cell.Flop a d n c) cell.Input x y = (λ r. absurd r, λ r. absurd (let f = r.0 in cc))
  cells_same pins others g h (cell.Flop a d n c) cell.Foreign x y = (λ r. absurd r, λ r. absurd (let f = r.0 in cc))
  cells_same pins others g h (cell.Flop a d n c) (cell.Pair l e two) x y = (λ r. absurd r, λ r. absurd (let f = r.0 in cc))
  cells_same pins others g h (cell.Flop a d n c) (cell.Gate l e t) x y = (λ r. absurd r, λ r. absurd (let f = r.0 in cc))

-- two parts with the same nets say the same of a place where their cells do
pub cells_at : (p q : Inside) (v w : Portion) → portion_of p ≡ v → portion_of q ≡ w → (i : ℕ) (a b : Cell) (pins others : List ℕ) → IsHeld p → IsHeld q → v.nets ≡ w.nets → i < length v.nets
    → a ≡ get_or p.cells.items i a → b ≡ get_or q.cells.items i b → pins ≡ p.pins.items → others ≡ q.pins.items
    → SameCell pins a others b ↔ ((get_or v.sources i Outside ≡ get_or w.sources i Outside) × (get_or v.inputs i false ≡ get_or w.inputs i false))
cells_at p q v w is_v is_w i a b pins others g h same_nets in_v at bt pins_p pins_q = rw (pins_p, pins_q, ← is_v, ← is_w) (
  λ e. (let means = cells.0 e in (source_p ∙ means.0 ∙ sym source_q, input_p ∙ means.1 ∙ sym input_q)),
  λ s. cells.1 (sym source_p ∙ s.0 ∙ source_q, sym input_p ∙ s.1 ∙ input_q),
)
  where
    nets : p.nets.items ≡ q.nets.items
    nets = rw (← is_v, ← is_w) at same_nets

    l : i < length p.nets.items
    l = rw (← is_v) at in_v

    many : length q.nets.items ≡ length p.nets.items
    many = ap length (sym nets)

    m : i < length q.nets.items
    m = omega (arith, many, l)

    cells : SameCell p.pins.items a q.pins.items b ↔ ((cell_source p.nets.items p.pins.items a ≡ cell_source p.nets.items q.pins.items b) × (is_input_cell a ≡ is_input_cell b))
    cells =
        cells_same p.nets.items g.portion.ascending p.pins.items q.pins.items g.pins (λ k e n. omega (arith, h.pins k e n, many)) a b (fits-at p i a a g l (sym at))
        (subst (λ n. CellFits n (length q.pins.items) b) many (fits-at q i b b h m (sym bt)))

    source_p : get_or (portion_of p).sources i Outside ≡ cell_source p.nets.items p.pins.items a
    source_p = source-at p i a a g l (sym at)

    source_q : get_or (portion_of q).sources i Outside ≡ cell_source p.nets.items q.pins.items b
    source_q = source-at q i b b h m (sym bt) ∙ ap (λ ns. cell_source ns q.pins.items b) (sym nets)

    input_p : get_or (portion_of p).inputs i false ≡ is_input_cell a
    input_p = get_or-map is_input_cell p.cells.items i a false (omega (arith, g.cells, l)) ∙ ap is_input_cell (sym at)

    input_q : get_or (portion_of q).inputs i false ≡ is_input_cell b
    input_q = get_or-map is_input_cell q.cells.items i b false (omega (arith, h.cells, m)) ∙ ap is_input_cell (sym bt)

-- What sets places.
use Rattle.std.proofs.Common.{◌≡◌, ◌∙◌, ℕ, ◌<◌, inl, inr, true, false, is_some, IsTrue, List, [], ◌∷◌, map, length, get_or, refl, ap, sym, subst, arith}
use Rattle.std.specs.List.{All}
use Rattle.std.proofs.lemmas.Bool.{cases_lt, true≢false}
use Rattle.std.proofs.lemmas.List.{get_or-map, get_or_past, length-map}
use Rattle.std.proofs.lemmas.List.Elements.{All-nil, All-cons, All-head, All-tail, All-from_get_or}
use Rattle.gate_values.specs.declared.logic.Logic.TheVariants.{X}
use Rattle.gate_values.specs.Tables.{HasInputs}
use Rattle.gate_values.specs.Behaviour.{Source, Outside, Gate, Flop, source_delay, initial_of, IsWellFormed}
use Rattle.warp_gates.specs.Cells as cells
use Rattle.warp_gates.specs.Cells.{Cell, IsCell, cell_at, value_at}
use Rattle.place_moves.specs.Journals.{IsSetBy}
use Rattle.warp_part.specs.Portion.{Portion, IsPortion, slot_of, is_driven, uses}
use Rattle.warp_part.specs.Shown.Building.{place_of}
use Rattle.warp_part.specs.Placing.{placed, place_source, cell_by, place_cells}
use Rattle.warp_part.proofs.PartBuilding.{place_is}

-- ---- a source over places

pub source_out : (s : Source) → is_driven s ≡ false → s ≡ Outside
source_out Outside e = refl
source_out (Gate kind delay inputs) e = absurd (true≢false e)
source_out (Flop delay d clock initial) e = absurd (true≢false e)

pub outside_from : (nets : List ℕ) (s : Source) → placed nets s ≡ Outside → is_driven s ≡ false
outside_from nets Outside e = refl
outside_from nets (Gate kind delay inputs) e = absurd (true≢false (ap is_driven e))
outside_from nets (Flop delay d clock initial) e = absurd (true≢false (ap is_driven e))

pub driven_from : (nets : List ℕ) (s : Source) → 0 < source_delay (placed nets s) → is_driven s ≡ true
driven_from nets Outside h = absurd (omega arith)
driven_from nets (Gate kind delay inputs) h = refl
driven_from nets (Flop delay d clock initial) h = refl

pub delay_placed : (nets : List ℕ) (s : Source) → source_delay (placed nets s) ≡ source_delay s
delay_placed nets Outside = refl
delay_placed nets (Gate kind delay inputs) = refl
delay_placed nets (Flop delay d clock initial) = refl

pub initial_placed : (nets : List ℕ) (s : Source) → initial_of (placed nets s) ≡ initial_of s
initial_placed nets Outside = refl
initial_placed nets (Gate kind delay inputs) = refl
initial_placed nets (Flop delay d clock initial) = refl

set_by : (nets : List ℕ) (s : Source) → (IsTrue (is_driven s) → 0 < source_delay s) → IsSetBy (cell_by nets s) (placed nets s)
set_by nets Outside h = refl
set_by nets (Gate kind delay inputs) h = (delay, h refl, refl)
set_by nets (Flop delay d clock initial) h = (delay, initial, h refl, refl)

formed_placed : (nets : List ℕ) (s : Source) → (IsTrue (is_driven s) → IsWellFormed s) → IsWellFormed (placed nets s)
formed_placed nets Outside h = tt
formed_placed nets (Gate kind delay inputs) h = ((h refl).0, subst (HasInputs kind) (sym (length-map inputs (place_of nets))) (h refl).1)
formed_placed nets (Flop delay d clock initial) h = h refl

-- ---- a cell over places

module _ (nets : List ℕ) where
  abbrev Has : ℕ → Type 0
  Has u = IsTrue (is_some (slot_of nets u))

  places_below : (us : List ℕ) → All Has us → All (λ i. i < length nets) (map (place_of nets) us)
  places_below [] all = All-nil (λ i. i < length nets)
  places_below (u ∷ us) all = All-cons (λ i. i < length nets) (place_of nets u) (map (place_of nets) us) (place_is nets u (All-head Has u us all)).0 (places_below us (All-tail Has u us all))

  cell_fits : (s : Source) → (IsTrue (is_driven s) → IsWellFormed s) → (IsTrue (is_driven s) → All Has (uses s)) → IsCell (length nets) (cell_by nets s)
  cell_fits Outside h all = tt
  cell_fits (Gate kind delay inputs) h all = (subst (HasInputs kind) (sym (length-map inputs (place_of nets))) (h refl).1, places_below inputs (all refl))
  cell_fits (Flop delay d clock initial) h all =
      let over : All Has (d ∷ clock ∷ []) = all refl in
      ((place_is nets d (All-head Has d (clock ∷ []) over)).0, (place_is nets clock (All-head Has clock [] (All-tail Has d (clock ∷ []) over))).0)

pub cell_there : (p : Portion) (g : ℕ) → cell_at (place_cells p) g ≡ cell_by p.nets (get_or p.sources g Outside)
cell_there p g = elim (cases_lt g (length p.sources)) [
  | inl k ↦ get_or-map (cell_by p.nets) p.sources g Outside cells.Outside k
  | inr far ↦
      get_or_past (place_cells p) g cells.Outside (let e = length-map p.sources (cell_by p.nets) in omega arith)
      ∙ sym (ap (cell_by p.nets) (get_or_past p.sources g Outside far))
]

-- ---- the places of a portion

module _ (p : Portion) (portion : IsPortion p) where
  pub place_there : (i : ℕ) → is_driven (get_or p.sources i Outside) ≡ true → i < length p.nets
  place_there i own = elim (cases_lt i (length p.nets)) [
    | inl l ↦ l
    | inr g ↦ absurd (true≢false (sym own ∙ ap is_driven (get_or_past p.sources i Outside (omega (arith, portion.sources)))))
  ]

  pub delay_some : (i : ℕ) → is_driven (get_or p.sources i Outside) ≡ true → 0 < source_delay (get_or p.sources i Outside)
  delay_some i own = let d = (portion.driven i (place_there i own) own).1 in omega (arith, d.0)

  pub set_at : (i : ℕ) → IsSetBy (cell_at (place_cells p) i) (place_source p i)
  set_at i = subst (λ c. IsSetBy c (place_source p i)) (sym (cell_there p i)) (set_by p.nets (get_or p.sources i Outside) (delay_some i))

  pub formed_at : (i : ℕ) → IsWellFormed (place_source p i)
  formed_at i = formed_placed p.nets (get_or p.sources i Outside) (λ own. (portion.driven i (place_there i own) own).0)

  fits_at : (i : ℕ) → IsCell (length p.nets) (cell_at (place_cells p) i)
  fits_at i =
      subst (IsCell (length p.nets)) (sym (cell_there p i))
      (cell_fits p.nets (get_or p.sources i Outside) (λ own. (portion.driven i (place_there i own) own).0) (λ own. (portion.driven i (place_there i own) own).2))

  pub cells_many : length (place_cells p) ≡ length p.nets
  cells_many = length-map p.sources (cell_by p.nets) ∙ portion.sources

  pub cells_fit : All (IsCell (length (place_cells p))) (place_cells p)
  cells_fit = subst (λ n. All (IsCell n) (place_cells p)) (sym cells_many) (All-from_get_or (IsCell (length p.nets)) (place_cells p) cells.Outside (λ i l. fits_at i))

  pub content_at : (i : ℕ) → value_at (map initial_of p.sources) i ≡ initial_of (place_source p i)
  content_at i = elim (cases_lt i (length p.sources)) [
    | inl k ↦ get_or-map initial_of p.sources i Outside X k ∙ sym (initial_placed p.nets (get_or p.sources i Outside))
    | inr far ↦
        get_or_past (map initial_of p.sources) i X (let e = length-map p.sources initial_of in omega arith)
        ∙ sym (ap (λ s. initial_of (placed p.nets s)) (get_or_past p.sources i Outside far))
  ]

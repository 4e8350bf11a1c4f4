-- The cells of a part are its sources over places.
use Rattle.std.proofs.Common.{◌≡◌, ℕ, ◌<◌, unwrap_or, List, [], ◌∷◌, map, length, slice_index, refl, ap}
use Rattle.std.specs.List.{All}
use Rattle.std.proofs.lemmas.List.Elements.{All-head, All-tail, All-take, All-drop}
use Rattle.gate_values.specs.Behaviour.{initial_of}
use Rattle.std.specs.List.Sorted.{IsStrictlyIncreasing}
use Rattle.warp_gates.specs.Cells as cells
use Rattle.warp_part.specs.declared.cell.Cell.{Cell}
use Rattle.warp_part.specs.declared.cell.Cell.TheVariants.{Input, Foreign, Pair, Gate, Flop}
use Rattle.warp_part.specs.Shown.Part.{cell_source, stretch}
use Rattle.warp_part.specs.Inner.HeldPart.{CellFits}
use Rattle.warp_part.specs.Shown.Building.{place_of}
use Rattle.warp_part.specs.Placing.{cell_by}
use Rattle.warp_part.specs.Inner.Wired.{wired, begun}
use Rattle.warp_part.proofs.Slots.{slot_at}

module _ (nets pins : List ℕ) (up : IsStrictlyIncreasing nets) where
  place_back : (i : ℕ) → i < length nets → place_of nets (slice_index nets i) ≡ i
  place_back i l = ap (λ o. unwrap_or o 0) (slot_at nets i up l)

  places_back : (is : List ℕ) → All (λ i. i < length nets) is → map (place_of nets) (map (slice_index nets) is) ≡ is
  places_back [] all = refl
  places_back (i ∷ is) all =
      let P : ℕ → Type 0 = λ j. j < length nets in
      let head : place_of nets (slice_index nets i) ≡ i = place_back i (All-head P i is all) in
      let rest : map (place_of nets) (map (slice_index nets) is) ≡ is = places_back is (All-tail P i is all) in
      cc

  pub cell_wired : (cell : Cell) → CellFits (length nets) (length pins) cell → All (λ pin. pin < length nets) pins → cell_by nets (cell_source nets pins cell) ≡ wired pins cell
  cell_wired Input fits all = refl
  cell_wired Foreign fits all = refl
  cell_wired (Pair kind delay two) fits all = ap (cells.Gate kind) (places_back two fits.1)
  cell_wired (Gate kind delay span) fits all =
      let P : ℕ → Type 0 = λ pin. pin < length nets in
      ap (cells.Gate kind) (places_back (stretch pins span) (All-take P span.count _ (All-drop P span.start pins all)))
  cell_wired (Flop init delay d clock) fits all = rw (place_back d fits.0, place_back clock fits.1) refl

  pub cells_wired : (cs : List Cell) → All (CellFits (length nets) (length pins)) cs → All (λ pin. pin < length nets) pins → map (cell_by nets) (map (cell_source nets pins) cs) ≡ map (wired pins) cs
  cells_wired [] fits all = refl
  cells_wired (c ∷ cs) fits all =
      let P : Cell → Type 0 = CellFits (length nets) (length pins) in
      let head : cell_by nets (cell_source nets pins c) ≡ wired pins c = cell_wired c (All-head P c cs fits) all in
      let rest : map (cell_by nets) (map (cell_source nets pins) cs) ≡ map (wired pins) cs = cells_wired cs (All-tail P c cs fits) all in
      cc

cell_begun : (nets pins : List ℕ) (cell : Cell) → initial_of (cell_source nets pins cell) ≡ begun cell
cell_begun nets pins Input = refl
cell_begun nets pins Foreign = refl
cell_begun nets pins (Pair kind delay two) = refl
cell_begun nets pins (Gate kind delay span) = refl
cell_begun nets pins (Flop init delay d clock) = refl

pub cells_begun : (nets pins : List ℕ) (cs : List Cell) → map initial_of (map (cell_source nets pins) cs) ≡ map begun cs
cells_begun nets pins [] = refl
cells_begun nets pins (c ∷ cs) =
    let head : initial_of (cell_source nets pins c) ≡ begun c = cell_begun nets pins c in
    let rest : map initial_of (map (cell_source nets pins) cs) ≡ map begun cs = cells_begun nets pins cs in
    cc

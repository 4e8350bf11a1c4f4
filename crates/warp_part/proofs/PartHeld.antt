-- What the fields of a part say of its nets.
use Rattle.std.proofs.Common.{◌≡◌, ℕ, ◌<◌, ◌≤◌, List, [], ◌∷◌, length, get_or, refl, ap, subst, ◌∙◌, arith}
use Rattle.std.proofs.lemmas.List.{get_or-map}
use Rattle.gate_values.specs.Behaviour.{Outside}
use Rattle.warp_part.specs.declared.cell.Cell.{Cell}
use Rattle.warp_part.specs.declared.part.Part.TheInside.{Inside}
use Rattle.warp_part.specs.Inner.HeldPart.{IsHeld, CellFits}
use Rattle.warp_part.specs.Shown.Part.{portion_of, cell_source}

-- a copy of the fields is a part
pub IsHeld-copy : (p q : Inside) → q.block ≡ p.block → q.nets.items ≡ p.nets.items → q.cells.items ≡ p.cells.items → q.pins.items ≡ p.pins.items
    → q.told.items ≡ p.told.items → q.readers.items ≡ p.readers.items → q.used.items ≡ p.used.items → IsHeld p → IsHeld q
IsHeld-copy p q block nets cells pins told readers used h = record {
  portion = simp (block, nets, cells, pins, told, readers) h.portion;
  cells = simp (nets, cells) h.cells;
  fit = simp (nets, cells, pins) h.fit;
  pins = simp (nets, pins) h.pins;
  told = simp (nets, told) h.told;
  spans = simp (told, readers) h.spans;
  used = simp (block, nets, cells, pins, told, readers, used) h.used;
}

-- what sets the net at a place
pub source-at : (p : Inside) (i : ℕ) (e cell : Cell) → IsHeld p → i < length p.nets.items → get_or p.cells.items i e ≡ cell
    → get_or (portion_of p).sources i Outside ≡ cell_source p.nets.items p.pins.items cell
source-at p i e cell h l is =
    get_or-map (cell_source p.nets.items p.pins.items) p.cells.items i e Outside (omega (arith, h.cells))
    ∙ ap (cell_source p.nets.items p.pins.items) is

pub fits-at : (p : Inside) (i : ℕ) (e cell : Cell) → IsHeld p → i < length p.nets.items → get_or p.cells.items i e ≡ cell
    → CellFits (length p.nets.items) (length p.pins.items) cell
fits-at p i e cell h l is = subst (CellFits (length p.nets.items) (length p.pins.items)) is (h.fit i e (omega (arith, h.cells)))

-- a list of two
pub two_are : (xs : List ℕ) → 2 ≤ length xs → length xs < 3 → xs ≡ get_or xs 0 0 ∷ get_or xs 1 0 ∷ []
two_are [] least below = absurd (omega arith)
two_are (x ∷ []) least below = absurd (omega arith)
two_are (x ∷ y ∷ []) least below = refl
two_are (x ∷ y ∷ z ∷ zs) least below = absurd (omega arith)

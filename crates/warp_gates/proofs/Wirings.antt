-- What sets places, in lists.
use Rattle.std.proofs.Common.{◌≡◌, ◌∙◌, ℕ, zero, suc, ◌<◌, true, false, List, [], ◌∷◌, ◌++◌, length, get_or, refl, ap, sym, arith}
use Rattle.warp_gates.specs.declared.wiring.Shape.{Shape}
use Rattle.warp_gates.specs.declared.wiring.Shape.TheVariants as Shapes
use Rattle.warp_gates.specs.Cells.{Cell, cell_at}
use Rattle.warp_gates.specs.Inner.Fronts.{inputs_of}
use Rattle.warp_gates.specs.Inner.Told.{is_gate, is_flop, data_of}
use Rattle.warp_gates.specs.Shown.Wiring.{cell_of, cells_of}

pub length-cells_of : (shapes : List Shape) (inputs : List (List ℕ)) → length inputs ≡ length shapes → length (cells_of shapes inputs) ≡ length shapes
length-cells_of [] inputs h = refl
length-cells_of (s ∷ ss) [] h = absurd (omega arith)
length-cells_of (s ∷ ss) (i ∷ is) h = ap suc (length-cells_of ss is (omega arith))

pub cells_of-push : (shapes : List Shape) (inputs : List (List ℕ)) (s : Shape) (i : List ℕ) → length inputs ≡ length shapes
    → cells_of (shapes ++ s ∷ []) (inputs ++ i ∷ []) ≡ cells_of shapes inputs ++ cell_of s i ∷ []
cells_of-push [] [] s i h = refl
cells_of-push [] (j ∷ js) s i h = absurd (omega arith)
cells_of-push (t ∷ ts) [] s i h = absurd (omega arith)
cells_of-push (t ∷ ts) (j ∷ js) s i h = ap (λ (cells : List Cell). cell_of t j ∷ cells) (cells_of-push ts js s i (omega arith))

pub cell_at-cells_of : (shapes : List Shape) (inputs : List (List ℕ)) (place : ℕ) (d : Shape) → length inputs ≡ length shapes → place < length shapes
    → cell_at (cells_of shapes inputs) place ≡ cell_of (get_or shapes place d) (get_or inputs place [])
cell_at-cells_of [] inputs place d h k = absurd (omega arith)
cell_at-cells_of (s ∷ ss) [] place d h k = absurd (omega arith)
cell_at-cells_of (s ∷ ss) (i ∷ is) zero d h k = refl
cell_at-cells_of (s ∷ ss) (i ∷ is) (suc place) d h k = cell_at-cells_of ss is place d (omega arith) (omega arith)

inputs_of_row : (s : Shape) (row : List ℕ) → is_gate (cell_of s row) ≡ true → inputs_of (cell_of s row) ≡ row
inputs_of_row Shapes.Outside row h = cc
inputs_of_row (Shapes.Gate kind) row h = refl
inputs_of_row Shapes.Flop row h = cc

data_of_row : (s : Shape) (row : List ℕ) → is_flop (cell_of s row) ≡ true → data_of (cell_of s row) ≡ get_or row 0 0
data_of_row Shapes.Outside row h = cc
data_of_row (Shapes.Gate kind) row h = cc
data_of_row Shapes.Flop row h = refl

pub inputs_of-cells_of : (shapes : List Shape) (inputs : List (List ℕ)) (place : ℕ) → length inputs ≡ length shapes → place < length shapes → is_gate (cell_at (cells_of shapes inputs) place) ≡ true
    → get_or inputs place [] ≡ inputs_of (cell_at (cells_of shapes inputs) place)
inputs_of-cells_of shapes inputs place h k gate =
    let at : cell_at (cells_of shapes inputs) place ≡ cell_of (get_or shapes place Shapes.Flop) (get_or inputs place []) = cell_at-cells_of shapes inputs place Shapes.Flop h k in
    sym (ap inputs_of at ∙ inputs_of_row (get_or shapes place Shapes.Flop) (get_or inputs place []) (sym (ap is_gate at) ∙ gate))

pub data_of-cells_of : (shapes : List Shape) (inputs : List (List ℕ)) (place : ℕ) → length inputs ≡ length shapes → place < length shapes → is_flop (cell_at (cells_of shapes inputs) place) ≡ true
    → get_or (get_or inputs place []) 0 0 ≡ data_of (cell_at (cells_of shapes inputs) place)
data_of-cells_of shapes inputs place h k flop =
    let at : cell_at (cells_of shapes inputs) place ≡ cell_of (get_or shapes place Shapes.Flop) (get_or inputs place []) = cell_at-cells_of shapes inputs place Shapes.Flop h k in
    sym (ap data_of at ∙ data_of_row (get_or shapes place Shapes.Flop) (get_or inputs place []) (sym (ap is_flop at) ∙ flop))

-- what was read at a place tells what sets it
pub cell_is : (cells : List Cell) (shapes : List Shape) (inputs : List (List ℕ)) (place : ℕ) (s t : Shape) → cells_of shapes inputs ≡ cells → length inputs ≡ length shapes → place < length cells → s ≡ get_or shapes place s → s ≡ t
    → cell_at cells place ≡ cell_of t (get_or inputs place [])
cell_is cells shapes inputs place s t is h k read at =
    let many : length cells ≡ length shapes = ap (λ (cs : List Cell). length cs) (sym is) ∙ length-cells_of shapes inputs h in
    ap (λ (cs : List Cell). cell_at cs place) (sym is)
    ∙ cell_at-cells_of shapes inputs place s h (omega arith)
    ∙ ap (λ (x : Shape). cell_of x (get_or inputs place [])) (sym read ∙ at)

-- where a place stands in lists
pub place_in : (cells : List Cell) (shapes : List Shape) (inputs : List (List ℕ)) (place : ℕ) → cells_of shapes inputs ≡ cells → length inputs ≡ length shapes → place < length cells → place < length shapes
place_in cells shapes inputs place is h k =
    let many : length cells ≡ length shapes = ap (λ (cs : List Cell). length cs) (sym is) ∙ length-cells_of shapes inputs h in
    omega arith

pub not_flop : (s : Shape) (row : List ℕ) → (s ≡ Shapes.Flop → ⊥) → is_flop (cell_of s row) ≡ false
not_flop Shapes.Outside row h = refl
not_flop (Shapes.Gate kind) row h = refl
not_flop Shapes.Flop row h = absurd (h refl)

-- What only proofs need beside `SamePart`.
use Rattle.std.specs.Prelude.{◌≡◌, ℕ, ◌+◌, ◌≤◌, false, List, [], get_or}
use Rattle.gate_values.specs.declared.gate.Kind.{Kind}
use Rattle.gate_values.specs.Behaviour.{Outside}
use Rattle.warp_part.specs.declared.cell.Cell.{Cell}
use Rattle.warp_part.specs.declared.cell.Cell.TheVariants as cell
use Rattle.warp_part.specs.Shown.Part.{stretch}
use Rattle.warp_part.specs.Portion.{Portion}

-- The parts say the same of the net at a place: what sets it, whether it is an input, and who reads it.
pub record SameAt (p q : Portion) (i : ℕ) : Type 0 where
  pub source : get_or p.sources i Outside ≡ get_or q.sources i Outside
  pub input : get_or p.inputs i false ≡ get_or q.inputs i false
  pub readers : get_or p.readers i [] ≡ get_or q.readers i []

-- a cell, over its pins, is a gate of a kind, with a delay and pins
abbrev pub IsGate : Kind → ℕ → List ℕ → List ℕ → Cell → Type 0
IsGate kind delay pins list (cell.Pair k d two) = (kind ≡ k) × (delay ≡ d) × (pins ≡ two)
IsGate kind delay pins list (cell.Gate k d span) = (kind ≡ k) × (delay ≡ d) × (pins ≡ stretch list span)
IsGate _ _ _ _ _ = ⊥

-- two cells, over their pins, say the same
abbrev pub SameCell : List ℕ → Cell → List ℕ → Cell → Type 0
SameCell pins cell.Input others cell.Input = Unit {0}
SameCell pins cell.Foreign others cell.Foreign = Unit {0}
SameCell pins (cell.Pair k d two) others e = IsGate k d two others e
SameCell pins (cell.Gate k d span) others e = IsGate k d (stretch pins span) others e
SameCell pins (cell.Flop i d n c) others (cell.Flop j e m k) = (d ≡ e) × (n ≡ m) × (c ≡ k) × (i ≡ j)
SameCell _ _ _ _ = ⊥

-- the stretch of a gate lies within so many pins
abbrev pub Spans : ℕ → Cell → Type 0
Spans pins (cell.Gate k d s) = s.start + s.count ≤ pins
Spans pins _ = Unit {0}

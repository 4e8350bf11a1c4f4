-- What is true of the fields of every part.
use Rattle.std.specs.Prelude.{◌≡◌, ℕ, ◌+◌, ◌<◌, ◌≤◌, map, length}
use Rattle.std.specs.List.{All}
use Rattle.gate_values.specs.Tables.{HasInputs}
use Rattle.warp_part.specs.declared.cell.Cell.{Cell}
use Rattle.warp_part.specs.declared.cell.Cell.TheVariants.{Input, Foreign, Pair, Gate, Flop}
use Rattle.warp_part.specs.declared.cell.Span.{Span}
use Rattle.warp_part.specs.declared.part.Part.TheInside.{Inside}
use Rattle.warp_part.specs.Portion.{IsPortion, is_used}
use Rattle.warp_part.specs.Shown.Part.{portion_of}

-- a cell refers to places among so many nets, and to a stretch of so many pins
abbrev pub CellFits : ℕ → ℕ → Cell → Type 0
CellFits nets pins Input = Unit {0}
CellFits nets pins Foreign = Unit {0}
CellFits nets pins (Pair kind delay two) = (length two ≡ 2) × All (λ pin. pin < nets) two × HasInputs kind 2 × (1 ≤ delay) × (delay ≤ 1000000)
CellFits nets pins (Gate kind delay span) = (span.start + span.count ≤ pins) × HasInputs kind span.count × (1 ≤ delay) × (delay ≤ 1000000)
CellFits nets pins (Flop init delay d clock) = (d < nets) × (clock < nets) × (1 ≤ delay) × (delay ≤ 1000000)

-- what is true of the fields of every part
pub record IsHeld (p : Inside) : Type 0 where
  pub portion : IsPortion (portion_of p)
  pub cells : length p.cells.items ≡ length p.nets.items
  pub fit : All (CellFits (length p.nets.items) (length p.pins.items)) p.cells.items
  pub pins : All (λ pin. pin < length p.nets.items) p.pins.items
  pub told : length p.told.items ≡ length p.nets.items
  pub spans : All (λ (span : Span). span.start + span.count ≤ length p.readers.items) p.told.items
  pub used : p.used.items ≡ map (is_used (portion_of p)) p.nets.items

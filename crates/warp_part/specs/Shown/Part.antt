-- What contracts see of the part that a block holds: places become nets.
use Rattle.std.specs.Prelude.{ℕ, Bool, true, false, List, map, take, drop, slice_index}
use Rattle.gate_values.specs.Behaviour.{Source}
use Rattle.warp_part.specs.declared.cell.Cell.{Cell}
use Rattle.warp_part.specs.declared.cell.Cell.TheVariants.{Input, Foreign, Pair, Gate, Flop}
use Rattle.warp_part.specs.declared.cell.Span.{Span}
use Rattle.warp_part.specs.declared.part.Part.TheInside.{Inside}
use Rattle.warp_part.specs.Portion.{Portion}

-- a stretch of a list
abbrev pub stretch : List ℕ → Span → List ℕ
stretch xs span = take span.count (drop span.start xs)

-- what sets the net of a cell
abbrev pub cell_source : List ℕ → List ℕ → Cell → Source
cell_source nets pins Input = Source.Outside
cell_source nets pins Foreign = Source.Outside
cell_source nets pins (Pair kind delay two) = Source.Gate kind delay (map (slice_index nets) two)
cell_source nets pins (Gate kind delay span) = Source.Gate kind delay (map (slice_index nets) (stretch pins span))
cell_source nets pins (Flop init delay d clock) = Source.Flop delay (slice_index nets d) (slice_index nets clock) init

abbrev pub is_input_cell : Cell → Bool
is_input_cell Input = true
is_input_cell _ = false

abbrev pub portion_of : Inside → Portion
portion_of p = record {
  block = p.block;
  nets = p.nets.items;
  sources = map (cell_source p.nets.items p.pins.items) p.cells.items;
  inputs = map is_input_cell p.cells.items;
  readers = map (stretch p.readers.items) p.told.items;
}

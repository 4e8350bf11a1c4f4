-- What a run shows of a moment that it has played: what came and was made since is taken back.
use Rattle.std.specs.Prelude.{ℕ, List, map, length}
use Rattle.std.specs.List.{flat_map, range_with_len}
use Rattle.gate_values.specs.declared.logic.Logic.{Logic}
use Rattle.gate_values.specs.declared.logic.Logic.TheVariants.{X}
use Rattle.warp_stores.specs.Dated.{since, undated}
use Rattle.warp_stores.specs.Delays.{made_since}
use Rattle.warp_stores.specs.Lists.{words_at}
use Rattle.warp_gates.specs.Cells.{Cell, Outside, Gate, Flop, value_at, cell_at, unmoved}
use Rattle.place_moves.specs.Moves.{first_before}
use Rattle.warp_journal.specs.Books.{Book, all_of}

-- the values just before a time
abbrev pub values_before : ℕ → Book → List Logic
values_before time book = unmoved (undated (since time book.history)) book.gates.values

-- what a place put out just before a time
abbrev pub output_before : ℕ → Book → ℕ → Logic
output_before time book place = first_before (value_at book.gates.outputs place) (words_at place (flat_map (made_since time) (all_of book.queues)))

-- what a place holds that puts out a value: a flip-flop that value, another nothing
abbrev pub content_by : Cell → Logic → Logic
content_by Outside output = X
content_by (Gate kind inputs) output = X
content_by (Flop data_place clock) output = output

-- the contents just before a time
abbrev pub contents_before : ℕ → Book → List Logic
contents_before time book = map (λ place. content_by (cell_at book.gates.cells place) (output_before time book place)) (range_with_len 0 (length book.gates.cells))

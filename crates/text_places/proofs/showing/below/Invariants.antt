use Rattle.std.proofs.Common.{◌≡◌, ◌++◌, drop}
use Rattle.std.specs.String.{string_bytes}
use Rattle.text_places.specs.Told.{below}
use Rattle.text_places.proofs.showing.below.Given as goal

abbrev pub invariant-loop-byte : goal.invariant-loop-byte
invariant-loop-byte l = below l.mark l.byte-items ≡ string_bytes l.marks ++ below l.mark (drop l.byte-index l.byte-items)

use Rattle.std.proofs.Common.{◌≡◌, ◌+◌, drop}
use Rattle.std.specs.List.{prefix_len}
use Rattle.text_places.specs.Places.{is_in_line}
use Rattle.text_places.proofs.place.first_length.Given as goal

abbrev pub invariant-loop-at : goal.invariant-loop-at
invariant-loop-at l = prefix_len is_in_line l.text ≡ l.at + prefix_len is_in_line (drop l.at l.text)

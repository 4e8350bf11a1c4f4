use Rattle.std.proofs.Common.{◌≡◌, ◌≤◌, take}
use Rattle.std.specs.List.{suffix_len}
use Rattle.text_places.specs.Places.{is_in_line}
use Rattle.text_places.proofs.place.last_length.Given as goal

abbrev pub invariant-loop-at : goal.invariant-loop-at
invariant-loop-at l = (l.count ≡ suffix_len is_in_line (take l.at l.text)) × (l.count ≤ l.at)

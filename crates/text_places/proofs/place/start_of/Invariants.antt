use Rattle.std.proofs.Common.{◌≡◌, ◌+◌, ◌<◌, ◌≤◌, take}
use Rattle.std.specs.List.{count_by}
use Rattle.text_places.specs.Places.{is_feed}
use Rattle.text_places.proofs.place.start_of.Given as goal

abbrev pub invariant-loop-at : goal.invariant-loop-at
invariant-loop-at l = (l.count ≡ count_by is_feed (take l.at l.text) + 1) × (0 < l.number → l.count ≤ l.number) × (l.count ≤ l.at + 1)

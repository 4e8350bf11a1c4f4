use Rattle.std.proofs.Common.{◌≡◌, ◌≤◌, length}
use Rattle.gate_vcd.specs.Changes.{items, nothing}
use Rattle.gate_vcd.proofs.items.next_item.Given as goal

abbrev pub invariant-loop-word : goal.invariant-loop-word
invariant-loop-word l = record {
  items : items nothing l.words ≡ items nothing l.initial.words;
  shorter : length l.words ≤ length l.initial.words;
}

abbrev pub decreases-loop-word : goal.decreases-loop-word
decreases-loop-word l = length l.words

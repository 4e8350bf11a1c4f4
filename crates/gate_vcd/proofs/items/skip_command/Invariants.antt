use Rattle.std.proofs.Common.{◌≡◌, ◌≤◌, length}
use Rattle.gate_vcd.specs.Shown.Words.{token_of}
use Rattle.gate_vcd.specs.Changes.{items, end_of}
use Rattle.gate_vcd.proofs.DeclarationLaws.{EndsAlike}
use Rattle.gate_vcd.proofs.items.skip_command.Given as goal

abbrev pub invariant-loop-word : goal.invariant-loop-word
invariant-loop-word l = record {
  items : items (end_of (token_of l.first)) l.words ≡ items (end_of (token_of l.first)) l.initial.words;
  ends : EndsAlike l.words l.initial.words;
  shorter : length l.words ≤ length l.initial.words;
}

abbrev pub decreases-loop-word : goal.decreases-loop-word
decreases-loop-word l = length l.words

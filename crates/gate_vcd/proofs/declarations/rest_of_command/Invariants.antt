use Rattle.std.proofs.Common.{◌≡◌, ◌++◌, ◌≤◌, length, option_map}
use Rattle.gate_vcd.specs.Shown.Words.{texts}
use Rattle.gate_vcd.specs.Shown.Commands.{until_end}
use Rattle.gate_vcd.proofs.declarations.rest_of_command.Given as goal

-- the texts so far stand before those that are left
abbrev pub invariant-loop-word : goal.invariant-loop-word
invariant-loop-word l = record {
  body : option_map (λ x. (texts l.body.items ++ x.0, x.1)) (until_end l.words) ≡ until_end l.initial.words;
  shorter : length l.words ≤ length l.initial.words;
}

abbrev pub decreases-loop-word : goal.decreases-loop-word
decreases-loop-word l = length l.words

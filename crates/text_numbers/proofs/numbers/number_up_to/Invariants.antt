use Rattle.std.proofs.Common.{◌≡◌, ◌≤◌, drop}
use Rattle.text_numbers.specs.Numbers.{number}
use Rattle.text_numbers.proofs.NumberLaws.{number_after}
use Rattle.text_numbers.proofs.numbers.number_up_to.Given as goal

-- the digits left make the number after that of the digits so far
abbrev pub invariant-loop-byte : goal.invariant-loop-byte
invariant-loop-byte l = record {
  rest : number_after l.number (drop l.byte-index l.digits) ≡ number l.digits;
  within : l.number ≤ l.most;
}

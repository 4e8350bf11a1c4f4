use Rattle.std.proofs.Common.{◌≡◌, ◌++◌, take}
use Rattle.compare_answer.specs.Lines.{differing_lines}
use Rattle.compare_answer.proofs.lines.push_all_differing.Given as goal

abbrev pub invariant-loop-bit : goal.invariant-loop-bit
invariant-loop-bit l = l.text.items ≡ l.initial.text.items ++ differing_lines (take l.bit-index l.bits)

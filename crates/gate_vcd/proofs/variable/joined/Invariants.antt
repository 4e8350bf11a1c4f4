use Rattle.std.proofs.Common.{◌≡◌, ◌++◌, drop}
use Rattle.std.specs.List.{concat}
use Rattle.gate_vcd.specs.Shown.Words.{texts}
use Rattle.gate_vcd.proofs.variable.joined.Given as goal

-- the text so far, and the parts that are left
abbrev pub invariant-loop-part : goal.invariant-loop-part
invariant-loop-part l = l.text.items ++ concat (texts (drop l.part-index l.parts)) ≡ concat (texts l.parts)

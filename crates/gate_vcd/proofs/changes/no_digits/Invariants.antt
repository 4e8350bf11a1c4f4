use Rattle.std.proofs.Common.{◌≡◌, ℕ, List, [], replicate}
use Rattle.gate_vcd.specs.Shown.Words.{texts}
use Rattle.gate_vcd.proofs.changes.no_digits.Given as goal

abbrev pub invariant-loop : goal.invariant-loop
invariant-loop l = texts l.given.items ≡ replicate {A = List ℕ} l.counter []

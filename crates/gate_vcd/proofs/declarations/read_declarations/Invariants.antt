use Rattle.std.proofs.Common.{◌≡◌, None, length}
use Rattle.gate_vcd.specs.Declarations.{Header, declaring, no_header}
use Rattle.gate_vcd.specs.Shown.Headers.{IsHeader, asked_of}
use Rattle.gate_vcd.proofs.declarations.read_declarations.Given as goal

-- the reading goes on from the header so far
abbrev pub invariant-loop-first : goal.invariant-loop-first
invariant-loop-first l = record {
  asked : l.declared.scopes.asked ≡ l.fn.asked;
  read : (h : Header) × IsHeader l.declared h × (declaring (asked_of l.declared) h None l.words ≡ declaring (asked_of l.declared) no_header None l.initial.words);
}

abbrev pub decreases-loop-first : goal.decreases-loop-first
decreases-loop-first l = length l.words

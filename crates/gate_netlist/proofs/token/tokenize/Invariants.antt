use Rattle.std.proofs.Common.{◌≡◌, ◌++◌, length}
use Rattle.gate_netlist.specs.Symbols.{symbols}
use Rattle.gate_netlist.specs.Inner.Tokens.{symbols_of, code_of, after_code}
use Rattle.gate_netlist.proofs.token.tokenize.Given as goal

abbrev pub invariant-loop-rest : goal.invariant-loop-rest
invariant-loop-rest l = record {
  read : symbols_of l.tokens.items ++ symbols (code_of l.rest) ≡ symbols (code_of l.text);
  left : after_code l.rest ≡ after_code l.text;
}

abbrev pub decreases-loop-rest : goal.decreases-loop-rest
decreases-loop-rest l = length l.rest

use Rattle.std.proofs.Common.{sym, ◌∙◌}
use Rattle.gate_netlist.specs.Inner.Tokens.{symbols_of}
use Rattle.gate_netlist.proofs.Coding.{code-end, all_after}
use Rattle.gate_netlist.proofs.token.tokenize.Goals as goal

pub returns-clause-symbols : goal.returns-clause-symbols
returns-clause-symbols c = code-end (symbols_of c.loop-rest.tokens.items) _ c.loop-rest.rest.now (sym c.begins_with_code.ensures ∙ c.loop-rest-test.false) c.loop-rest.invariant.read

pub returns-clause-rest : goal.returns-clause-rest
returns-clause-rest c = sym (all_after c.loop-rest.rest.now (sym c.begins_with_code.ensures ∙ c.loop-rest-test.false)) ∙ c.loop-rest.invariant.left

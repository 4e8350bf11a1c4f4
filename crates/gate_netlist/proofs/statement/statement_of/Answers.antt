use Rattle.std.proofs.Common.{inr}
use Rattle.gate_netlist.proofs.Splitting.{without_tokens, without_word}
use Rattle.gate_netlist.proofs.statement.statement_of.Goals as goal

pub returns-then-is_empty : goal.returns-then-is_empty
returns-then-is_empty c = without_tokens c.args.tokens.now c.if-is_empty.ensures

pub returns-in_default : goal.returns-in_default
returns-in_default c = inr (without_word c.args.tokens.now c.if-is_empty.ensures c.in_default.ensures)

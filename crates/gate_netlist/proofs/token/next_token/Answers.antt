use Rattle.std.proofs.Common.{◌∙◌, sym}
use Rattle.std.proofs.lemmas.List.{take_rest}
use Rattle.gate_netlist.proofs.Coding.{code-mark-at, after-mark}
use Rattle.gate_netlist.proofs.token.next_token.Goals as goal

pub returns-clause-token : goal.returns-clause-token
returns-clause-token c = rw (take_rest, c.mark_of.ensures) (code-mark-at c.args.code.now c.requires (sym c.is_letter.ensures ∙ c.if-is_letter.false))

pub returns-clause-rest : goal.returns-clause-rest
returns-clause-rest c = rw take_rest (after-mark c.args.code.now c.requires)

use Rattle.std.proofs.Common.{Some, None, cond, sym, ap, ◌∙◌, arith}
use Rattle.std.proofs.lemmas.List.Sums.{prefix_len-le-length}
use Rattle.gate_netlist.specs.Symbols.{is_allowed}
use Rattle.gate_netlist.proofs.Allowing.{no_mark-by, ends_at_mark, reads_at}
use Rattle.gate_netlist.proofs.token.allowed_code.Goals as goal

pub split_at-requires : goal.split_at-requires
split_at-requires c = omega (arith, c.allowed_len.ensures, prefix_len-le-length is_allowed c.args.line.now)

pub returns-in-None : goal.returns-in-None
returns-in-None c = reads_at c.args.line.now c.split_at.result.0.now c.split_at.result.1.now c.allowed_len.result _ c.allowed_len.ensures c.split_at.ensures.front c.split_at.ensures.back c.in-None.ensures.value

pub returns-in-Some-eq35 : goal.returns-in-Some-eq35
returns-in-Some-eq35 c =
    ends_at_mark c.split_at.result.0.now c.in-Some-eq35.field-0.now c.in-Some-eq35.field-0-test ∙ reads_at c.args.line.now c.split_at.result.0.now c.split_at.result.1.now c.allowed_len.result _ c.allowed_len.ensures c.split_at.ensures.front c.split_at.ensures.back c.in-Some-eq35.ensures.value

pub returns-in-Some : goal.returns-in-Some
returns-in-Some c =
    ap (λ t. cond t (Some c.split_at.result.0.now) None) (sym (no_mark-by c.in-Some.field-0.now c.in-Some.field-0-test.1)) ∙ reads_at c.args.line.now c.split_at.result.0.now c.split_at.result.1.now c.allowed_len.result _ c.allowed_len.ensures c.split_at.ensures.front c.split_at.ensures.back c.in-Some.ensures.value

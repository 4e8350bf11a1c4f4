use Rattle.std.proofs.Common.{◌∙◌}
use Rattle.gate_vcd.specs.Tokens.{is_space}
use Rattle.gate_vcd.proofs.Places.{position-or_len, prefix_len-le, not_not}
use Rattle.gate_vcd.proofs.words.space_len.Goals as goal

pub returns : goal.returns
returns c =
    let len = c.unwrap_or.ensures ∙ rw c.find_other.ensures (position-or_len _ is_space (λ b. not_not (is_space b)) c.args.text.now) in
    record { len = len; within = rw len (prefix_len-le is_space c.args.text.now) }

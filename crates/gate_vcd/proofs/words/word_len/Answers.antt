use Rattle.std.proofs.Common.{◌∙◌, not, refl}
use Rattle.gate_vcd.specs.Tokens.{is_space}
use Rattle.gate_vcd.proofs.Places.{position-or_len, prefix_len-le}
use Rattle.gate_vcd.proofs.words.word_len.Goals as goal

pub returns : goal.returns
returns c =
    let len = c.unwrap_or.ensures ∙ rw c.find_space.ensures (position-or_len is_space (λ b. not (is_space b)) (λ b. refl) c.args.text.now) in
    record { len = len; within = rw len (prefix_len-le (λ b. not (is_space b)) c.args.text.now) }

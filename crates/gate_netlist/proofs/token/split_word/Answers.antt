use Rattle.std.proofs.Common.{arith}
use Rattle.std.proofs.lemmas.List.Sums.{prefix_len-le-length}
use Rattle.gate_netlist.specs.Symbols.{is_letter}
use Rattle.gate_netlist.proofs.Coding.{code-word, after-word}
use Rattle.gate_netlist.proofs.Words.{word-utf8, word-some}
use Rattle.gate_netlist.proofs.token.split_word.Goals as goal

pub split_at-requires : goal.split_at-requires
split_at-requires c = omega (arith, c.word_len.ensures, prefix_len-le-length is_letter c.args.code.now)

pub from_utf8_unchecked-requires : goal.from_utf8_unchecked-requires
from_utf8_unchecked-requires c = rw (c.split_at.ensures.front, c.word_len.ensures) (word-utf8 c.args.code.now)

pub returns-clause-word : goal.returns-clause-word
returns-clause-word c = rw (c.from_utf8_unchecked.ensures, c.split_at.ensures.front, c.split_at.ensures.back, c.word_len.ensures) (code-word c.args.code.now c.requires)

pub returns-clause-rest : goal.returns-clause-rest
returns-clause-rest c = rw (c.split_at.ensures.back, c.word_len.ensures) (after-word c.args.code.now)

pub returns-clause-shorter : goal.returns-clause-shorter
returns-clause-shorter c = omega (arith, word-some c.args.code.now c.requires, c.word_len.ensures, c.split_at.ensures.back_len)

use Rattle.std.proofs.Common.{◌<◌, arith}
use Rattle.gate_vcd.proofs.TokenLaws.{next_none, next_word}
use Rattle.gate_vcd.proofs.words.Words.next.Goals as goal

pub returns-then-len-eq0 : goal.returns-then-len-eq0
returns-then-len-eq0 c =
    rw (← c.self.view_is) (next_none _ _ _ _ _ _ c.space_len-space.ensures.len c.split_at.ensures.back c.word_len-len.ensures.len c.split_at-2.ensures.back c.if-len-eq0.true)

pub returns : goal.returns
returns c =
    let pos : 0 < c.word_len-len.result = omega arith in
    rw (← c.self.view_is, c.split_at-2.ensures.front) (next_word _ _ _ _ _ _ c.space_len-space.ensures.len c.split_at.ensures.back c.word_len-len.ensures.len c.split_at-2.ensures.back pos)

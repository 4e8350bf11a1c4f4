use Rattle.std.proofs.Common.{◌≡◌, ◌+◌, drop}
use Rattle.finding_words.specs.Words.{word_len}
use Rattle.finding_words.proofs.words.word_len.Given as goal

abbrev pub invariant-loop-at : goal.invariant-loop-at
invariant-loop-at l = word_len l.text ≡ l.at + word_len (drop l.at l.text)

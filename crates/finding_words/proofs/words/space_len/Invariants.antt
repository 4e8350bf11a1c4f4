use Rattle.std.proofs.Common.{◌≡◌, ◌+◌, drop}
use Rattle.finding_words.specs.Words.{space_len}
use Rattle.finding_words.proofs.words.space_len.Given as goal

abbrev pub invariant-loop-at : goal.invariant-loop-at
invariant-loop-at l = space_len l.text ≡ l.at + space_len (drop l.at l.text)

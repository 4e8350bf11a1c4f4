use Rattle.std.proofs.Common.{◌++◌, List, ℕ, drop, string_bytes}
use Rattle.finding_words.specs.Sentences.{IsSentence}
use Rattle.finding_words.proofs.sentences.sentence.Given as goal

-- with what is written of the rest behind it, the text so far is the sentence
abbrev pub invariant-loop-piece : goal.invariant-loop-piece
invariant-loop-piece l = (rest : List ℕ) → IsSentence (drop l.piece-index l.pieces) rest → IsSentence l.pieces (string_bytes l.text ++ rest)

-- Words that are told.
use Rattle.std.specs.Prelude.{ℕ, ◌==◌, Bool, not, [], length, get_or}
use Rattle.warp_stores.specs.Words.{Move}
use Rattle.warp_stores.specs.Dated.{Dated}
use Rattle.warp_part.specs.Portion.{Portion}
use Rattle.warp_sends.specs.declared.telling.Telling.{Telling}

-- the word of a telling, with its time
abbrev pub word_of : Telling → Dated Move
word_of telling = (telling.time, telling.word)

-- other blocks read the net of a place
abbrev pub has_readers : Portion → ℕ → Bool
has_readers p place = not (length (get_or p.readers place []) == 0)

-- other blocks read the net of a word's place
abbrev pub is_told : Portion → Dated Move → Bool
is_told p d = has_readers p d.1.place

-- the event time that made a word, and its place
abbrev pub event_of : Telling → ℕ × ℕ
event_of telling = (telling.made, telling.word.place)

-- the place of a word, and its time
abbrev pub place_of : Telling → ℕ × ℕ
place_of telling = (telling.word.place, telling.time)

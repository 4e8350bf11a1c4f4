use Rattle.std.proofs.Common.{◌≡◌, ◌≤◌, ◌+◌, ◌++◌, drop, take, map, vec_len, vec_capacity}
use Rattle.net_waves.specs.Inner.Packed.{NetsRise, word_by}
use Rattle.net_waves.proofs.packed.push_all.Given as goal

-- the words of the moves so far are pushed, and where the others rise, all do
abbrev pub invariant-loop-entry : goal.invariant-loop-entry
invariant-loop-entry l = record {
  small : l.from ≤ 1073741823;
  words : l.words.items ≡ l.initial.words.items ++ map word_by (take l.entry-index l.moves);
  len : vec_len l.words ≡ vec_len l.initial.words + l.entry-index;
  capacity : vec_capacity l.words ≡ vec_capacity l.initial.words;
  rise : NetsRise l.from 1073741823 (map word_by (drop l.entry-index l.moves)) → NetsRise 0 1073741823 (map word_by l.moves);
}

use Rattle.std.proofs.Common.{◌≡◌, ◌+◌, ◌++◌, drop, take, map, vec_len, vec_capacity}
use Rattle.net_waves.specs.Inner.Keys.{HaveKeys, key_by}
use Rattle.net_waves.proofs.keyed.push_all.Given as goal

-- the keys of the moves so far are pushed, and where the others have keys, all do
abbrev pub invariant-loop-entry : goal.invariant-loop-entry
invariant-loop-entry l = record {
  keys : l.keys.items ≡ l.initial.keys.items ++ map (key_by l.time) (take l.entry-index l.moves);
  len : vec_len l.keys ≡ vec_len l.initial.keys + l.entry-index;
  capacity : vec_capacity l.keys ≡ vec_capacity l.initial.keys;
  rise : HaveKeys l.time l.from (drop l.entry-index l.moves) → HaveKeys l.time l.first l.moves;
}

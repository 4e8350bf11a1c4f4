use Rattle.std.proofs.Common.{◌↔◌, drop}
use Rattle.net_waves.specs.Keys.{AreKeys, KeysRise}
use Rattle.net_waves.proofs.keyed.do_rise.Given as goal

-- all keys rise just where the others do
abbrev pub invariant-loop-key : goal.invariant-loop-key
invariant-loop-key l = KeysRise l.from (drop l.key-index l.keys) ↔ AreKeys l.keys

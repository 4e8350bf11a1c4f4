use Rattle.std.proofs.Common.{◌≡◌, ◌-◌, ◌≤◌, length, get_or}
use Rattle.history_waves.specs.Inner.Begins.{AreBegins}
use Rattle.history_waves.proofs.parts.begins_of.Given as goal

-- so many parts begin, the last of them where it was set to
abbrev pub invariant-loop : goal.invariant-loop
invariant-loop l = record {
  are : AreBegins l.begins.items;
  many : length l.begins.items ≡ l.counter;
  fits : l.begin ≤ 18446744073709551615;
  last : get_or l.begins.items (length l.begins.items - 1) 0 ≡ l.begin;
}

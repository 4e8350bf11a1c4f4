use Rattle.std.proofs.Common.{◌≡◌, ℕ, [], length, get_or, map}
use Rattle.warp_core.proofs.turns.waiting.Waiting.new.Given as goal

abbrev pub invariant-loop : goal.invariant-loop
invariant-loop l = record {
  count : length l.lists.items ≡ l.counter;
  none : (b : ℕ) → get_or (map (λ v. v.items) l.lists.items) b [] ≡ [];
}

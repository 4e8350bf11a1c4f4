use Rattle.std.proofs.Common.{◌≤◌, ℕ, length, take}
use Rattle.warp_core.specs.Inner.Turns.{place_in}
use Rattle.warp_core.specs.Inner.Waiting.{IsListed}
use Rattle.warp_core.proofs.turns.waiting.Waiting.list.Given as goal

abbrev pub invariant-loop-place : goal.invariant-loop-place
invariant-loop-place l = record {
  listed : IsListed (length l.heard) l.self (place_in l.heard) (take l.place l.flight);
  from : (b : ℕ) → place_in l.heard b ≤ l.place;
}

use Rattle.std.proofs.Common.{◌≡◌, ℕ, ◌<◌, ◌≤◌, length, get_or}
use Rattle.warp_process.specs.Commit.{IsCommitted}
use Rattle.warp_process.specs.Lawful.{IsLawful}
use Rattle.warp_core.specs.Matched.{no_process, seen_at}
use Rattle.warp_core.proofs.world.acts.commit_all.Given as goal

-- the first blocks have committed, and the others are as they were
abbrev pub invariant-loop-number : goal.invariant-loop-number
invariant-loop-number l = record {
  count : length l.blocks.items ≡ length l.fn.blocks.items;
  done : (b : ℕ) → b < l.number → IsCommitted (get_or l.fn.blocks.items b no_process) (get_or l.blocks.items b no_process) l.time;
  lawful : (b : ℕ) → b < l.number → IsLawful (seen_at l.blocks.items b);
  rest : (b : ℕ) → l.number ≤ b → get_or l.blocks.items b no_process ≡ get_or l.fn.blocks.items b no_process;
}

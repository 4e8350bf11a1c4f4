-- The limits of a block.
use Rattle.std.specs.Prelude.{ℕ}
use Rattle.warp_process.specs.declared.limits.TheConstants.{MOST_HORIZON}

-- no horizon is later
abbrev pub most_horizon : ℕ
most_horizon = MOST_HORIZON

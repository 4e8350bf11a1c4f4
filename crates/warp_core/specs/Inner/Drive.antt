-- What only proofs need beside `Drive`.
use Rattle.std.specs.Prelude.{◌≡◌, ℕ, ◌<◌}
use Rattle.std.specs.List.{All}
use Rattle.warp_process.specs.View.{IsEventTime}
use Rattle.warp_core.specs.Matched.{seen_at}
use Rattle.warp_core.specs.World.{Scene}

-- what is left for a block is later than a time: its event times, and the messages in flight for it
pub record IsPast (w : Scene) (b t : ℕ) : Type 0 where
  pub events : (u : ℕ) → IsEventTime (seen_at w.blocks b) u → t < u
  pub flight : All (λ m. m.block ≡ b → t < m.time) w.flight

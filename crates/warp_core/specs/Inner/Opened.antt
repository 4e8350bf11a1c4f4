-- The first blocks of a new world.
use Rattle.std.specs.Prelude.{◌≡◌, ℕ, pos, ◌<◌, List, length}
use Rattle.std.specs.List.{All, flat_map, range_with_len}
use Rattle.gate_netlist.specs.Circuit.{Design}
use Rattle.gate_netlist.specs.Cut.{Ownership}
use Rattle.gate_stimulus.specs.Given.{Given}
use Rattle.warp_process.specs.declared.message.Message.{Message}
use Rattle.warp_process.specs.Lawful.{IsLawful}
use Rattle.warp_process.specs.Opening.{opening_view, opening_messages}
use Rattle.warp_part.specs.PartOf.{part_of}
use Rattle.warp_process.specs.View.{Process}
use Rattle.warp_core.specs.Matched.{seen_at}
use Rattle.warp_core.specs.World.{AreAccounted, IsFlying}

-- the first blocks are new ones, and what they sent is in flight; nobody has received anything
pub record AreOpened (d : Design) (cut : Ownership) (g : Given) (horizon count : ℕ) (blocks : List Process) (flight : List Message) : Type 0 where
  pub counted : length blocks ≡ count
  pub opened : (b : ℕ) → b < count → seen_at blocks b ≡ opening_view (part_of d cut b) g horizon
  pub lawful : (b : ℕ) → b < count → IsLawful (seen_at blocks b)
  pub account : AreAccounted d cut (λ _. pos 0) blocks flight
  pub flying : All (IsFlying d cut horizon) flight
  pub told : flight ≡ flat_map (λ b. opening_messages (part_of d cut b)) (range_with_len 0 count)

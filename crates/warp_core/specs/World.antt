-- Blocks that play with each other, and what is in flight between them.
use Rattle.std.specs.Prelude.{◌≡◌, ℕ, ℤ, pos, ◌+ℤ◌, ◌+◌, ◌<◌, ◌≤◌, ◌==◌, ◌⊎◌, IsTrue, if◌then◌else◌, Option, Some, None, List, length}
use Rattle.std.specs.List.{All, list_any, flat_map, range_with_len}
use Rattle.gate_netlist.specs.Circuit.{Design, CutFits}
use Rattle.gate_netlist.specs.Cut.{Ownership, owner_of}
use Rattle.gate_stimulus.specs.Given.{Given, Fits}
use Rattle.warp_process.specs.declared.message.Message.{Message}
use Rattle.warp_process.specs.Entries.{number_of}
use Rattle.warp_process.specs.Lawful.{IsLawful}
use Rattle.warp_process.specs.Limits.{most_horizon}
use Rattle.warp_process.specs.Opening.{opening_view, opening_messages}
use Rattle.warp_part.specs.PartOf.{part_of}
use Rattle.warp_part.specs.Portion.{hears, is_input}
use Rattle.warp_process.specs.Sends.{Place, is_change, messages, antimessages}
use Rattle.warp_process.specs.View.{Process, entry_of, log_of, IsEventTime}
use Rattle.warp_core.specs.Matched.{seen_at, EachBlock, IsBlockOf}

-- what a world is of, its blocks in order, and the messages in flight in order
pub record Scene : Type 0 where
  pub circuit : Design
  pub cut : Ownership
  pub stimulus : Given
  pub horizon : ℕ
  pub blocks : List Process
  pub flight : List Message

-- the place's block reads the place's net from another block
pub record IsHeard (d : Design) (cut : Ownership) (p : Place) : Type 0 where
  pub block : p.block < cut.blocks
  pub net : IsTrue (hears (part_of d cut p.block) p.net)

-- the number that the place's block holds
abbrev pub number_at : List Process → Place → ℤ
number_at blocks p = number_of (entry_of (seen_at blocks p.block) p.net p.time) p.value

-- 1 where the log of the net's owner has the place's change, else 0
abbrev pub logged_by : List Process → Place → Option ℕ → ℕ
logged_by blocks p None = 0
logged_by blocks p (Some o) = if list_any (is_change p) (log_of (seen_at blocks o) p.net) then 1 else 0

abbrev pub logged : Ownership → List Process → Place → ℕ
logged cut blocks p = logged_by blocks p (owner_of cut p.net)

-- At each place that a block hears of, numbers with the messages in flight are what is logged with the antimessages in
-- flight.
abbrev pub AreAccounted : Design → Ownership → (Place → ℤ) → List Process → List Message → Type 0
AreAccounted d cut number blocks flight =
    (p : Place) → IsHeard d cut p → (number p +ℤ pos (messages p flight)) ≡ pos (logged cut blocks p + antimessages p flight)

-- the message is for a block that reads its net from another one, and not past the horizon
pub record IsFlying (d : Design) (cut : Ownership) (horizon : ℕ) (m : Message) : Type 0 where
  pub block : m.block < cut.blocks
  pub net : IsTrue (hears (part_of d cut m.block) m.net)
  pub within : m.time ≤ horizon

-- nothing that is left to do is earlier than a time: no event time of a block, and no message in flight
pub record IsBefore (w : Scene) (t : ℕ) : Type 0 where
  pub events : (b u : ℕ) → b < w.cut.blocks → IsEventTime (seen_at w.blocks b) u → t ≤ u
  pub flight : All (λ m. t ≤ m.time) w.flight
  pub end : t ≤ w.horizon + 1

-- an event time of a block, the time of a message in flight, or the one past the horizon
abbrev pub IsLeft : Scene → ℕ → Type 0
IsLeft w t =
    ((b : ℕ) × (b < w.cut.blocks) × IsEventTime (seen_at w.blocks b) t)
    ⊎ (IsTrue (list_any (λ m. m.time == t) w.flight) ⊎ (t ≡ w.horizon + 1))

-- the least of all next times and all times in flight; one past the horizon where there is none
pub record IsLeastTime (w : Scene) (t : ℕ) : Type 0 where
  pub before : IsBefore w t
  pub left : IsLeft w t

-- the entries of the inputs are as at the start
abbrev pub AreInputsKept : Scene → Type 0
AreInputsKept w =
    (b n t : ℕ) → b < w.cut.blocks → IsTrue (is_input (part_of w.circuit w.cut b) n) →
    entry_of (seen_at w.blocks b) n t ≡ entry_of (opening_view (part_of w.circuit w.cut b) w.stimulus w.horizon) n t

-- What is true of every world, whatever was played. Of each change of a net that another block reads, and of each that
-- it was told, the number held, plus the messages in flight, less the antimessages in flight, is 1 where the owner's log
-- has the change, else 0. Each message in flight is for a block that hears of its net. What is committed is past: no
-- message in flight and no event time comes before a block's floor.
pub record IsLawfulWorld (w : Scene) : Type 0 where
  pub fits : CutFits w.circuit w.cut
  pub given : Fits w.stimulus w.circuit
  pub horizon : w.horizon ≤ most_horizon
  pub count : length w.blocks ≡ w.cut.blocks
  pub parts : EachBlock w.cut w.blocks (IsBlockOf w.circuit w.cut w.horizon)
  pub lawful : EachBlock w.cut w.blocks (λ _ v. IsLawful v)
  pub account : AreAccounted w.circuit w.cut (number_at w.blocks) w.blocks w.flight
  pub inputs : AreInputsKept w
  pub flight : All (IsFlying w.circuit w.cut w.horizon) w.flight
  pub floors : EachBlock w.cut w.blocks (λ _ v. IsBefore w v.floor)

-- what is in flight at first: the known initial contents of flip-flops, by block, then by net, then by reader
abbrev pub first_flight : Design → Ownership → List Message
first_flight d cut = flat_map (λ b. opening_messages (part_of d cut b)) (range_with_len 0 cut.blocks)

-- A new world: new blocks, and in flight what they sent, in the order of the blocks.
pub record IsNewWorld (w : Scene) : Type 0 where
  pub blocks : EachBlock w.cut w.blocks (λ b v. v ≡ opening_view (part_of w.circuit w.cut b) w.stimulus w.horizon)
  pub flight : w.flight ≡ first_flight w.circuit w.cut

-- A new world of a circuit in a cut, under a stimulus, up to a horizon.
pub record IsStart (d : Design) (cut : Ownership) (g : Given) (horizon : ℕ) (w : Scene) : Type 0 where
  pub circuit_is : w.circuit ≡ d
  pub cut_is : w.cut ≡ cut
  pub stimulus_is : w.stimulus ≡ g
  pub horizon_is : w.horizon ≡ horizon
  pub opening : IsNewWorld w
  pub law : IsLawfulWorld w

-- What a circuit is: its nets in order, and what sets each of them.
use Rattle.std.specs.Prelude.{◌≡◌, ℕ, ◌<◌, ◌≤◌, Bool, true, false, not, nat_eq, List, [], ◌∷◌, length, get_or, Option, Some, None, is_some, IfSome}
use Rattle.std.specs.List.{All, IsDistinct, filter, list_any, range_with_len}
use Rattle.gate_values.specs.Tables.{HasInputs}
use Rattle.gate_values.specs.Behaviour.{Source}
use Rattle.gate_netlist.specs.declared.driver.Driver.{Driver}
use Rattle.gate_netlist.specs.declared.driver.Driver.TheVariants.{Input, Gate, Flop}
use Rattle.gate_netlist.specs.Netlist.{place_of, NamesDiffer}
use Rattle.gate_netlist.specs.Cut.{Ownership, owner_of}

-- Net n has the n-th name, driver and delay. The delay of an input is 0.
pub record Design : Type 0 where
  pub names : List (List ℕ)
  pub drivers : List Driver
  pub delays : List ℕ
  pub outputs : List ℕ
  pub clock : Option ℕ
  pub scope : Option (List ℕ)
  pub cut : Option Ownership

abbrev pub nets_of : Design → ℕ
nets_of d = length d.names

-- what sets a net; an input, where there is no such net
abbrev pub driver_of : Design → ℕ → Driver
driver_of d n = get_or d.drivers n Input

abbrev pub name_of : Design → ℕ → List ℕ
name_of d n = get_or d.names n []

-- the net of a name
abbrev pub net_of : Design → List ℕ → Option ℕ
net_of d name = place_of d.names name

abbrev pub is_input : Driver → Bool
is_input Input = true
is_input _ = false

abbrev pub is_gate : Driver → Bool
is_gate (Gate kind inputs) = true
is_gate _ = false

abbrev pub is_flop : Driver → Bool
is_flop (Flop d clock init) = true
is_flop _ = false

-- the nets that a driver uses: the inputs of a gate, the data and the clock of a flip-flop
abbrev pub nets_used : Driver → List ℕ
nets_used Input = []
nets_used (Gate kind inputs) = inputs
nets_used (Flop d clock init) = d ∷ clock ∷ []

-- the net is one of these
abbrev pub is_one_of : List ℕ → ℕ → Bool
is_one_of nets n = list_any (λ net. nat_eq net n) nets

-- of the first so many nets those whose gate or flip-flop uses the net, ascending, each once
abbrev pub readers_among : List Driver → ℕ → ℕ → List ℕ
readers_among drivers count n = filter (λ g. is_one_of (nets_used (get_or drivers g Input)) n) (range_with_len 0 count)

-- the readers of a net: the nets whose gate or flip-flop uses it
abbrev pub readers_of : Design → ℕ → List ℕ
readers_of d n = readers_among d.drivers (nets_of d) n

-- how long a net takes, which only a net that a gate or a flip-flop sets does
abbrev pub delay_by : Driver → ℕ → Option ℕ
delay_by Input delay = None
delay_by (Gate kind inputs) delay = Some delay
delay_by (Flop d clock init) delay = Some delay

abbrev pub delay_of : Design → ℕ → Option ℕ
delay_of d n = delay_by (driver_of d n) (get_or d.delays n 0)

-- what a driver and a delay are to the value of a net
abbrev pub source_by : Driver → ℕ → Source
source_by Input delay = Source.Outside
source_by (Gate kind inputs) delay = Source.Gate kind delay inputs
source_by (Flop d clock init) delay = Source.Flop delay d clock init

abbrev pub source_of : Design → ℕ → Source
source_of d n = source_by (driver_of d n) (get_or d.delays n 0)

-- a delay of a net that isn't an input
abbrev pub IsDelay : ℕ → Type 0
IsDelay delay = (1 ≤ delay) × (delay ≤ 1000000)

-- the driver is one among so many nets, with this delay
abbrev pub IsDriven : ℕ → Driver → ℕ → Type 0
IsDriven nets Input delay = delay ≡ 0
IsDriven nets (Gate kind inputs) delay = HasInputs kind (length inputs) × All (λ i. i < nets) inputs × IsDelay delay
IsDriven nets (Flop d clock init) delay = (d < nets) × (clock < nets) × IsDelay delay

-- a flip-flop with this clock
abbrev pub is_clocked_by : ℕ → Driver → Bool
is_clocked_by c (Flop d clock init) = nat_eq clock c
is_clocked_by c _ = false

-- the cut is of as many nets, and just those that aren't inputs have an owner
pub record CutFits (d : Design) (cut : Ownership) : Type 0 where
  pub nets : length cut.owners ≡ nets_of d
  pub owned : (n : ℕ) → n < nets_of d → is_some (owner_of cut n) ≡ not (is_input (driver_of d n))

-- what is true of every circuit
pub record IsCircuit (d : Design) : Type 0 where
  pub within : nets_of d ≤ 1000000
  pub named : NamesDiffer d.names
  pub drivers : length d.drivers ≡ nets_of d
  pub delays : length d.delays ≡ nets_of d
  pub driven : (n : ℕ) → n < nets_of d → IsDriven (nets_of d) (driver_of d n) (get_or d.delays n 0)
  pub outputs : All (λ n. n < nets_of d) d.outputs
  pub distinct : IsDistinct nat_eq d.outputs
  pub clock : IfSome d.clock (λ c. c < nets_of d)
  -- the circuit's clock is that of a flip-flop
  pub taken : IfSome d.clock (λ c. list_any (is_clocked_by c) d.drivers ≡ true)
  pub marks : length d.outputs ≤ nets_of d
  pub cut : IfSome d.cut (CutFits d)

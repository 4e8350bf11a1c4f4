-- The queues of a part's places: one for each delay, those of places that gates read first.
use Rattle.std.specs.Prelude.{◌≡◌, ℕ, ◌+◌, ◌<◌, ◌≤◌, Bool, true, false, ◌&&◌, if◌then◌else◌, IsTrue, List, length, get_or}
use Rattle.std.specs.Bool.{beq}
use Rattle.std.specs.List.Sorted.{IsStrictlyIncreasing}
use Rattle.gate_values.specs.Behaviour.{Outside, source_delay}
use Rattle.warp_part.specs.Portion.{Portion, is_driven, is_used}
use Rattle.warp_part.specs.Placing.{net_of_place}
use Rattle.warp_part.specs.Inner.Building.{has}
use Rattle.warp_part.specs.Shown.Building.{place_of}

-- the delay of a place
abbrev pub delay_at : Portion → ℕ → ℕ
delay_at p i = source_delay (get_or p.sources i Outside)

-- a place puts something out, and a gate reads it, or none does
abbrev pub puts_out : Portion → Bool → ℕ → Bool
puts_out p used i = is_driven (get_or p.sources i Outside) && beq (is_used p (net_of_place p i)) used

-- the delays of those of so many places that put something out and that gates read, or that none reads
pub record HaveDelays (p : Portion) (used : Bool) (count : ℕ) (delays : List ℕ) : Type 0 where
  pub few : length delays ≤ count
  pub each : (i : ℕ) → i < count → IsTrue (puts_out p used i) → IsTrue (has delays (delay_at p i))

-- those of all places, ascending, each once
pub record HasDelays (p : Portion) (used : Bool) (delays : List ℕ) : Type 0 where
  pub rising : IsStrictlyIncreasing delays
  pub few : length delays ≤ 1000000
  pub each : (i : ℕ) → i < length p.nets → IsTrue (puts_out p used i) → IsTrue (has delays (delay_at p i))

-- the number of a place's queue; 0 where it puts out nothing
abbrev pub number_at : Portion → List ℕ → List ℕ → ℕ → ℕ
number_at p read unread i =
    if is_driven (get_or p.sources i Outside) then (if is_used p (net_of_place p i) then place_of read (delay_at p i) else length read + place_of unread (delay_at p i)) else 0

-- the numbers of so many places
pub record AreNumbers (p : Portion) (read unread : List ℕ) (count : ℕ) (numbers : List ℕ) : Type 0 where
  pub same : length numbers ≡ count
  pub each : (i : ℕ) → i < count → get_or numbers i 0 ≡ number_at p read unread i

-- the numbers of a part's places, and the delays of the queues
pub record AreQueues (p : Portion) (numbering read_delays unread_delays : List ℕ) : Type 0 where
  pub numbers : AreNumbers p read_delays unread_delays (length p.nets) numbering
  pub read : HasDelays p true read_delays
  pub unread : HasDelays p false unread_delays

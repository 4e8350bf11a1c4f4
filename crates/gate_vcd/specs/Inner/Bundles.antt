-- Lists of changes, and the changes that wait for them, by bundles of 256 lists.
use Rattle.std.specs.Prelude.{ℕ, ◌+◌, ◌*◌, ◌/◌, ◌≤◌, nat_eq, if◌then◌else◌, List, [], ◌∷◌, ◌++◌, Vec, get_or, length, map, set}
use Rattle.std.specs.declared.alloc.Global.{Global}
use Rattle.gate_values.specs.declared.logic.Change.{Change}
use Rattle.gate_vcd.specs.declared.bundles.Bundles.TheInside.{Inside}
use Rattle.net_waves.specs.declared.timeline.Stop.{Stop}
use Rattle.gate_vcd.specs.Inner.Settled.{settled}
use Rattle.net_waves.specs.Waves.{lists_in}

-- what waits for the bundles
abbrev pub waiting_in : List (Vec Stop Global) → List (List Stop)
waiting_in vs = map (λ (v : Vec Stop Global). v.items) vs

-- the change that a stop is of its list
abbrev pub change_by : Stop → Change
change_by s = record { time = s.time; value = s.value }

-- the stop that a change of the list of a number is
abbrev pub stop_by : ℕ → Change → Stop
stop_by n c = record { time = c.time; net = n; value = c.value }

-- the list of a number, with those of the stops that are of it
abbrev pub with_own : ℕ → List Stop → List Change → List Change
with_own n [] cs = cs
with_own n (s ∷ ss) cs = with_own n ss (if nat_eq s.net n then settled cs (change_by s) else cs)

-- the lists from a number on, each with what waits for it in its bundle
abbrev pub with_waiting : ℕ → List (List Stop) → List (List Change) → List (List Change)
with_waiting n waiting [] = []
with_waiting n waiting (cs ∷ css) = with_own n (get_or waiting (n / 256) []) cs ∷ with_waiting (n + 1) waiting css

abbrev pub lists_by : Inside → List (List Change)
lists_by b = with_waiting 0 (waiting_in b.waiting.items) (lists_in b.lists.items)

-- each list has a bundle, and a number of 32 bits
pub record AreBundled (b : Inside) : Type 0 where
  pub bundles : length b.lists.items ≤ 256 * length b.waiting.items
  pub few : length b.lists.items ≤ 4294967295

-- what waits, with a change for the list of a number more
abbrev pub with_change : ℕ → Change → List (List Stop) → List (List Stop)
with_change n c waiting = set waiting (n / 256) (get_or waiting (n / 256) [] ++ stop_by n c ∷ [])

-- lists with a stop more, if it is of this bundle
abbrev pub with_stop : ℕ → Stop → List (List Change) → List (List Change)
with_stop b s css = if nat_eq (s.net / 256) b then set css s.net (settled (get_or css s.net []) (change_by s)) else css

-- lists with those of the stops that are of this bundle
abbrev pub with_stops : ℕ → List Stop → List (List Change) → List (List Change)
with_stops b [] css = css
with_stops b (s ∷ ss) css = with_stops b ss (with_stop b s css)

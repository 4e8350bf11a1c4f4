-- The logs of places, and the messages on changes of them.
use Rattle.std.specs.Prelude.{◌≡◌, ℕ, zero, suc, ◌++◌, List, [], get_or}
use Rattle.std.specs.List.{flat_map}
use Rattle.gate_values.specs.declared.logic.Change.{Change}
use Rattle.gate_values.specs.Behaviour.{Source, Outside}
use Rattle.warp_process.specs.declared.message.Message.{Message}
use Rattle.warp_process.specs.declared.message.Sign.{Sign}
use Rattle.warp_part.specs.Portion.{Portion}
use Rattle.warp_process.specs.Shown.Step.{net_at, sent}

-- what sets the net at a place
abbrev pub source_at : Portion → ℕ → Source
source_at p i = get_or p.sources i Outside

abbrev pub log_at : List (List Change) → ℕ → List Change
log_at logs i = get_or logs i []

-- the messages on some changes of the first places to their readers
abbrev pub told : Sign → Portion → (ℕ → List Change) → ℕ → List Message
told sign p cs zero = []
told sign p cs (suc i) = told sign p cs i ++ flat_map (sent sign (net_at p i) (get_or p.readers i [])) (cs i)

-- the second list begins with the first
abbrev pub Extends : List Message → List Message → Type 0
Extends before out = (rest : List Message) × (out ≡ before ++ rest)

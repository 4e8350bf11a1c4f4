-- The log of a place that is set, and of one that isn't.
use Rattle.std.proofs.Common.{◌≡◌, ℕ, ◌+◌, ◌<◌, List, [], refl, ap, arith}
use Rattle.gate_values.specs.declared.logic.Change.{Change}
use Rattle.gate_values.specs.Behaviour as behaviour
use Rattle.gate_values.specs.Behaviour.{Source, source_delay}
use Rattle.gate_values.specs.Changes.{before_time}
use Rattle.place_moves.specs.Logs.{log_of}

pub log-driven : (s : Source) (mark : ℕ) (all : List Change) → 0 < source_delay s → log_of s mark all ≡ before_time (mark + source_delay s) all
log-driven behaviour.Outside mark all h = absurd (omega arith)
log-driven (behaviour.Gate kind delay inputs) mark all h = refl
log-driven (behaviour.Flop delay d clock initial) mark all h = refl

pub log-outside : (s : Source) (mark : ℕ) (all : List Change) → s ≡ behaviour.Outside → log_of s mark all ≡ []
log-outside s mark all e = ap (λ (x : Source). log_of x mark all) e

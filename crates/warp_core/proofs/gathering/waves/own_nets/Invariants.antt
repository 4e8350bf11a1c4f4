use Rattle.std.proofs.Common.{◌≡◌, ℕ, ◌<◌, cond, Some, None, get_or, vec_len}
use Rattle.gate_values.specs.Behaviour.{Outside}
use Rattle.warp_part.specs.Portion.{is_driven}
use Rattle.warp_core.proofs.gathering.waves.own_nets.Given as goal

-- so many places are told
abbrev pub invariant-loop-place : goal.invariant-loop-place
invariant-loop-place l = record {
  count : vec_len l.own ≡ l.place;
  each : (place : ℕ) → place < l.place → get_or l.own.items place None ≡ cond (is_driven (get_or l.part.sources place Outside)) (Some (get_or l.part.nets place 0)) None;
}

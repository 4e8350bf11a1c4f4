use Rattle.std.proofs.Common.{rules, is_none}
use Rattle.toml.specs.Data.{as_str}
use Rattle.gate_netlist.proofs.settings.causes.has_clock_without_text.Goals as goal

pub returns : goal.returns
returns c = c.any_member_at.ensures (λ k d. is_none (as_str d)) (λ k v r e. search rules)

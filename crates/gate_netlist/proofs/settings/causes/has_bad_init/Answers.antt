use Rattle.std.proofs.Common.{rules, is_none}
use Rattle.gate_netlist.specs.Settings.{as_content}
use Rattle.gate_netlist.proofs.settings.causes.has_bad_init.Goals as goal

pub returns : goal.returns
returns c = c.any_member_at.ensures (λ k d. is_none (as_content d)) (λ k v r e. search rules)

use Rattle.std.proofs.Common.{rules, not}
use Rattle.gate_netlist.specs.Causes.{is_driven_name}
use Rattle.gate_netlist.proofs.settings.causes.has_unknown_net_at.Goals as goal

pub returns : goal.returns
returns c = c.any_member_at.ensures (λ k d. not (is_driven_name c.args.bench.now k)) (λ k v r e. search rules)

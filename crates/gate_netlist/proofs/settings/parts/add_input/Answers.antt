use Rattle.gate_netlist.proofs.Added.{map-insert_key}
use Rattle.gate_netlist.proofs.settings.parts.add_input.Goals as goal

pub returns : goal.returns
returns c = rw (map-insert_key _ _ _ _ c.in_ok-insert.ensures.keys c.in_ok-key.ensures.ok c.requires, c.in_ok-push.ensures.items)

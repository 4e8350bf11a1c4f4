use Rattle.std.proofs.Common.{◌∙◌}
use Rattle.gate_netlist.proofs.Owning.{owned_keys, owned_all}
use Rattle.gate_netlist.proofs.cut.Cut.new.Goals as goal

pub of-requires : goal.of-requires
of-requires c =
    rw c.deref-2.ensures.value (owned_keys c.args.blocks c.args.owners.items c.in_ok-entries.entries.items c.requires.law (rw c.deref.ensures.value at c.in_ok-entries.ensures))

pub invariant_of-result : goal.invariant_of-result
invariant_of-result c = record {
  law = c.requires.law;
  own = c.in_ok-own.ensures ∙ rw c.deref-2.ensures.value (owned_all c.args.blocks c.args.owners.items c.in_ok-entries.entries.items (rw c.deref.ensures.value at c.in_ok-entries.ensures));
}

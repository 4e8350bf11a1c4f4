use Rattle.std.proofs.Common.{◌∙◌, length, ap, map, sym, arith, string_bytes}
use Rattle.std.proofs.lemmas.List.{length-map}
use Rattle.toml.specs.View.{table_view}
use Rattle.gate_netlist.proofs.SettingValues.{greatest_block-within}
use Rattle.gate_netlist.proofs.Circuits.{cut_is_ownership, length-owners_of}
use Rattle.gate_netlist.proofs.circuit.build.cut_of.Goals as goal

pub overflow_add-greatest_block : goal.overflow_add-greatest_block
overflow_add-greatest_block c = omega (arith, c.greatest_block.ensures, greatest_block-within (table_view c.in-Some.given.now))

pub new-requires-clause-law : goal.new-requires-clause-law
new-requires-clause-law c = rw (c.in_ok-owners-in-Some.ensures, c.greatest_block.ensures)
    (cut_is_ownership (table_view c.in-Some.given.now) (map string_bytes c.args.names.now) c.args.definitions.now (c.requires.many ∙ sym (length-map c.args.names.now string_bytes)))

pub new-requires-clause-within : goal.new-requires-clause-within
new-requires-clause-within c =
    omega (
      arith,
      c.requires.within,
      length-map c.args.names.now string_bytes,
      ap length c.in_ok-owners-in-Some.ensures
          ∙ length-owners_of (table_view c.in-Some.given.now) (map string_bytes c.args.names.now) c.args.definitions.now (c.requires.many ∙ sym (length-map c.args.names.now string_bytes)),
    )

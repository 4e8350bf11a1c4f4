use Rattle.std.proofs.Common.{◌≡◌, ◌∷◌, [], true, false, sym, ap, ◌∙◌, map}
use Rattle.std.proofs.lemmas.List.{map-append}
use Rattle.indexmap.proofs.CallerLemmas.{insert_entry-new}
use Rattle.gate_vcd.specs.Shown.Known.{source}
use Rattle.vcd_bits.specs.Names.{is_named}
use Rattle.vcd_bits.specs.Shown.Tables.{bit_by, bits_in}
use Rattle.vcd_bits.proofs.TableLaws.{entry_bit, kept-named, none_is, with-new, with-there}
use Rattle.vcd_bits.proofs.table.Table.put.Goals as goal

pub returns-then-contains_key-clause-ok : goal.returns-then-contains_key-clause-ok
returns-then-contains_key-clause-ok c =
    let there : is_named (bits_in c.args.self.now) c.args.name.items ≡ true = sym (kept-named c.args.name.items c.args.self.now.bits.entries) ∙ sym (rw c.as_slice.ensures.value at c.contains_key.ensures) ∙ c.if-contains_key.true in
    with-there (bits_in c.args.self.now) (bit_by c.args.name.items (source c.args.source)) there

pub returns-clause-ok : goal.returns-clause-ok
returns-clause-ok c =
    let absent = sym (rw c.as_slice.ensures.value at c.contains_key.ensures) ∙ c.if-contains_key.false in
    let new : is_named (bits_in c.args.self.now) c.args.name.items ≡ false = sym (kept-named c.args.name.items c.args.self.now.bits.entries) ∙ absent in
    ap (map entry_bit) (c.in_ok-insert.ensures.entries ∙ insert_entry-new _ c.args.self.now.bits c.args.name c.args.source (none_is _ absent)) ∙ map-append entry_bit c.args.self.now.bits.entries ((c.args.name, c.args.source) ∷ [])
    ∙ with-new (bits_in c.args.self.now) (bit_by c.args.name.items (source c.args.source)) new

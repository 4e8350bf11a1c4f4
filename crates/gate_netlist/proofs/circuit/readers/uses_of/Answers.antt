use Rattle.std.proofs.Common.{◌≡◌, ◌∙◌, length, sym}
use Rattle.std.proofs.lemmas.List.{get_or_default}
use Rattle.gate_netlist.specs.declared.driver.Driver.TheVariants.{Input}
use Rattle.gate_netlist.proofs.Readers.{listed_more, open_after, written_whole}
use Rattle.gate_netlist.proofs.circuit.readers.uses_of.Goals as goal

pub push_uses-requires-clause-used : goal.push_uses-requires-clause-used
push_uses-requires-clause-used c =
    rw (c.index-drivers-reader.is ∙ get_or_default c.args.drivers.now c.loop-reader.reader c.index-drivers-reader.result Input c.loop-reader-test.true, c.deref_mut.ensures.value, c.loop-reader.invariant.2)
    (c.requires.used c.loop-reader.reader c.loop-reader-test.true)

pub loop-reader-preserved : goal.loop-reader-preserved
loop-reader-preserved c =
    let many : length c.push_uses.new.next ≡ length c.args.drivers.now = rw c.deref_mut.ensures.value at (c.in_ok-push_uses.ensures.nets) ∙ c.loop-reader.invariant.2 in
    rw (written_whole c.loop-reader.next.items c.push_uses.new.next c.loop-reader.next.len (many ∙ sym c.loop-reader.invariant.2) c.loop-reader.next.ok.0) (
      listed_more c.args.drivers.now c.loop-reader.reader c.loop-reader.uses.items c.push_uses.new.uses.items c.push_uses.new.next many c.loop-reader.invariant.0
          (rw (c.index-drivers-reader.is ∙ get_or_default c.args.drivers.now c.loop-reader.reader c.index-drivers-reader.result Input c.loop-reader-test.true) at c.in_ok-push_uses.ensures.told),
      open_after _ c.loop-reader.reader _ c.push_uses.new.uses.items c.push_uses.new.next c.in_ok-push_uses.ensures.told,
      many,
    )

use Rattle.std.proofs.Common.{length, refl, ap, ◌∙◌}
use Rattle.warp_part.specs.declared.part.Part.TheInside.{Inside}
use Rattle.warp_part.proofs.PartWhole.{built, IsHeld-built}
use Rattle.warp_part.proofs.part.Part.of.Goals as goal

pub invariant_of-result : goal.invariant_of-result
invariant_of-result c =
    IsHeld-built c.args.circuit.now c.args.cut.now c.args.block _ c.law.ensures c.requires.fits (record {
      number = refl;
      nets = c.in_ok-nets.ensures.nets;
      many = c.in_ok-cells.ensures.cells ∙ ap length c.deref.ensures.value;
      cells = rw c.deref.ensures.value at c.in_ok-cells.ensures.each;
      readers = rw c.deref-2.ensures.value at c.in_ok-told.ensures.readers;
      spans = c.in_ok-told.ensures.within;
      used = c.in_ok-nets.ensures.used;
    })

pub returns : goal.returns
returns c =
    let part : Inside = record {
      block = c.args.block;
      nets = c.in_ok-nets.nets;
      cells = c.in_ok-cells.cells;
      pins = c.cells_of.new.pins;
      told = c.in_ok-told.told;
      readers = c.readers_of.new.all;
      used = c.nets_of.new.used;
      index = c.in_ok-index.index;
    } in
    built c.args.circuit.now c.args.cut.now c.args.block part (record {
      number = refl;
      nets = c.in_ok-nets.ensures.nets;
      many = c.in_ok-cells.ensures.cells ∙ ap length c.deref.ensures.value;
      cells = rw c.deref.ensures.value at c.in_ok-cells.ensures.each;
      readers = rw c.deref-2.ensures.value at c.in_ok-told.ensures.readers;
      spans = c.in_ok-told.ensures.within;
      used = c.in_ok-nets.ensures.used;
    })

use Rattle.std.proofs.Common.{refl}
use Rattle.warp_part.proofs.PartMerged.{AreMerged-none}
use Rattle.warp_part.proofs.part.merge.merged.Goals as goal

pub loop-init : goal.loop-init
loop-init c = record {
  merged = AreMerged-none c.args.own.now c.args.marks.now c.args.others.now c.in_ok-nets.nets.items c.args.used.now.items c.in_ok-nets.ensures.items c.requires.empty;
  count = refl;
}

use Rattle.std.proofs.lemmas.Bool.Decides.{same_from_decides}
use Rattle.warp_part.specs.SamePart.{same_part}
use Rattle.warp_part.proofs.PartEquality.{part_decides}
use Rattle.warp_part.proofs.part.PartPartialEq.eq.Goals as goal

pub returns-clause-eq : goal.returns-clause-eq
returns-clause-eq c = same_from_decides c.is_same.result (same_part c.args.self.now c.args.other.now) c.is_same.ensures (part_decides c.args.self.now c.args.other.now)

use Rattle.std.proofs.Common.{sym, ◌∙◌}
use Rattle.warp_part.proofs.PartNoted.{marked}
use Rattle.warp_part.proofs.part.uses.mark.Goals as goal

pub returns-clause-marked : goal.returns-clause-marked
returns-clause-marked c = marked c.args.nets.now c.args.marks.now.items c.args.net c.in-Some.place (sym c.slot_in.ensures ∙ c.in-Some.is) c.requires.many

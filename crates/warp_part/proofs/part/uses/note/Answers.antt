use Rattle.std.proofs.Common.{sym}
use Rattle.warp_part.proofs.PartNoted.{own_rises, own_place, noted_own, noted_other, AreNotes-other}
use Rattle.warp_part.proofs.part.uses.note.Goals as goal

pub mark-requires-clause-up : goal.mark-requires-clause-up
mark-requires-clause-up c = rw c.requires.own (own_rises c.args.cut.now c.args.block)

pub mark-requires-clause-there : goal.mark-requires-clause-there
mark-requires-clause-there c = rw c.requires.own (own_place c.args.cut.now c.args.block c.args.net (sym c.if-is_own.ensures))

pub returns-then-is_own-clause-lawful : goal.returns-then-is_own-clause-lawful
returns-then-is_own-clause-lawful c = record { many = c.mark.ensures.many; apart = c.requires.lawful.apart }

pub returns-then-is_own-clause-noted : goal.returns-then-is_own-clause-noted
returns-then-is_own-clause-noted c = noted_own c.args.own.now c.args.marks.now.items c.mark.new.marks.items c.args.others.now.items c.args.net c.mark.ensures.marked

pub returns-clause-lawful : goal.returns-clause-lawful
returns-clause-lawful c =
    rw c.in_ok-push.ensures.items
    (AreNotes-other c.args.cut.now c.args.block c.args.own.now c.args.marks.now.items c.args.others.now.items c.args.net (sym c.if-is_own.ensures) c.requires.lawful)

pub returns-clause-noted : goal.returns-clause-noted
returns-clause-noted c =
    rw c.in_ok-push.ensures.items
    (noted_other c.args.own.now c.args.marks.now.items c.args.others.now.items c.args.net)

use Rattle.warp_text.proofs.dump.parted_dump.Goals as goal

pub told_dump-requires-clause-stops : goal.told_dump-requires-clause-stops
told_dump-requires-clause-stops g c κs within = rw c.in-Some.is at c.in_ok-told.ensures.changes

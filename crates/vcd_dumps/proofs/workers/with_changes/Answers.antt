use Rattle.vcd_dumps.proofs.workers.with_changes.Goals as goal

pub with_words-requires-sync-R : goal.with_words-requires-sync-R
with_words-requires-sync-R g c κs within =
    (within, (c.requires.1.0, (c.requires.1.1.0, (c.requires.1.1.1.0, (c.requires.1.1.1.1.0, (rw c.in-Words.is at c.requires.1.1.1.1.1.0, c.requires.1.1.1.1.1.1))))))

pub with_keys-requires-sync-R : goal.with_keys-requires-sync-R
with_keys-requires-sync-R g c κs within =
    (within, (c.requires.1.0, (c.requires.1.1.0, (c.requires.1.1.1.0, (c.requires.1.1.1.1.0, (rw c.in-Keys.is at c.requires.1.1.1.1.1.0, c.requires.1.1.1.1.1.1))))))

use Rattle.vcd_dumps.proofs.workers.changes_dump.Given as goal

abbrev pub ghost-write_changes : goal.ghost-write_changes
ghost-write_changes g a = g.lists

use Rattle.vcd_dumps.proofs.workers.with_moments.Given as goal

abbrev pub ghost-with_changes : goal.ghost-with_changes
ghost-with_changes g a = g.lists

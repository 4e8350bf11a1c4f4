use Rattle.vcd_dumps.proofs.dump.write_changes.Given as goal

abbrev pub ghost-put_changes : goal.ghost-put_changes
ghost-put_changes g a = g.lists

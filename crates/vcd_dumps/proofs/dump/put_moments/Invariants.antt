use Rattle.vcd_dumps.proofs.dump.put_moments.Given as goal

abbrev pub ghost-put_by_time : goal.ghost-put_by_time
ghost-put_by_time g a = g.lists

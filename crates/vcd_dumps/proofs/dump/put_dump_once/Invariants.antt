use Rattle.vcd_dumps.proofs.dump.put_dump_once.Given as goal

abbrev pub ghost-put_last_moments : goal.ghost-put_last_moments
ghost-put_last_moments g a = a.waves

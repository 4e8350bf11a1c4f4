use Rattle.vcd_dumps.proofs.dump.put_dump.Given as goal

abbrev pub ghost-put_moments : goal.ghost-put_moments
ghost-put_moments g a = a.waves.now

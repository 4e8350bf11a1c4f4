use Rattle.vcd_dumps.proofs.workers.dump_by.Given as goal

abbrev pub ghost-with_moments : goal.ghost-with_moments
ghost-with_moments g a = a.waves

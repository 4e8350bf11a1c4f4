use Rattle.vcd_dumps.proofs.workers.with_runs.Given as goal

abbrev pub ghost-put_runs : goal.ghost-put_runs
ghost-put_runs g a = g.lists

use Rattle.vcd_dumps.proofs.workers.with_changes.Given as goal

abbrev pub ghost-with_words : goal.ghost-with_words
ghost-with_words g a = g.lists

abbrev pub ghost-with_keys : goal.ghost-with_keys
ghost-with_keys g a = g.lists

abbrev pub ghost-with_runs : goal.ghost-with_runs
ghost-with_runs g a = g.lists

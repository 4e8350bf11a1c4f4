use Rattle.vcd_dumps.proofs.dump.put_by_time.Given as goal

abbrev pub ghost-put_words : goal.ghost-put_words
ghost-put_words g a = g.lists

abbrev pub ghost-put_runs : goal.ghost-put_runs
ghost-put_runs g a = g.lists

abbrev pub ghost-put_keyed : goal.ghost-put_keyed
ghost-put_keyed g a = g.lists

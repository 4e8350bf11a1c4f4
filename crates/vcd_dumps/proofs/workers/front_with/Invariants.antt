use Rattle.vcd_dumps.proofs.workers.front_with.Given as goal

abbrev pub ghost-put_values : goal.ghost-put_values
ghost-put_values g a = g.value

use Rattle.net_waves.specs.Waves.{wave_value}
use Rattle.vcd_dumps.proofs.dump.put_changes.Given as goal

abbrev pub ghost-put_values : goal.ghost-put_values
ghost-put_values g a = wave_value g.lists

abbrev pub ghost-put_by_time : goal.ghost-put_by_time
ghost-put_by_time g a = g.lists

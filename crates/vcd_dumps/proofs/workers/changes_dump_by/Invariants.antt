use Rattle.net_waves.specs.Waves.{wave_value}
use Rattle.vcd_dumps.proofs.workers.changes_dump_by.Given as goal

abbrev pub ghost-changes_dump : goal.ghost-changes_dump
ghost-changes_dump g a = g.lists

abbrev pub ghost-front_with : goal.ghost-front_with
ghost-front_with g a = wave_value g.lists

abbrev pub ghost-with_changes : goal.ghost-with_changes
ghost-with_changes g a = g.lists

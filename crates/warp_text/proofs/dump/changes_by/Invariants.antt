use Rattle.warp_core.specs.Values.{circuit_waves}
use Rattle.warp_text.proofs.dump.changes_by.Given as goal

abbrev pub ghost-changes_dump_by : goal.ghost-changes_dump_by
ghost-changes_dump_by g a = circuit_waves a.circuit.now a.stimulus.now a.horizon

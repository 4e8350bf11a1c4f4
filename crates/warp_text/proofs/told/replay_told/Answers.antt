use Rattle.std.proofs.Common.{option_map}
use Rattle.warp_text.proofs.Telling.{told_replayed}
use Rattle.warp_text.proofs.told.replay_told.Goals as goal

pub returns : goal.returns
returns c =
    let replayed = rw c.as_slice.ensures.value at c.told_replayed.ensures in
    told_replayed c.args.bench.now c.args.settings.now (option_map (λ names. names.now) c.args.names) c.args.stimulus.now c.args.schedule.now c.args.options.now.blocks c.args.options.now.until c.in_ok-circuit.circuit c.in_ok-told.told.items _
    c.in_ok-circuit.ensures c.in_ok-told.ensures replayed

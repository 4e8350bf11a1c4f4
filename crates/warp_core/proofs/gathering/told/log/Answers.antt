use Rattle.std.proofs.Common.{◌≡◌, Bor, List, Option, Some, None, IfSome, sym, subst}
use Rattle.gate_values.specs.declared.logic.Change.{Change}
use Rattle.net_waves.specs.Waves.{IsWave}
use Rattle.warp_process.specs.View.{log_of}
use Rattle.warp_core.proofs.Finished.{log_wave}
use Rattle.warp_core.proofs.gathering.told.log.Goals as goal

pub returns-clause-wave : goal.returns-clause-wave
returns-clause-wave g c = wave_when c.read_log.result c.read_log.ensures.some
  where
    wave_when : (r : Option (Bor (List Change))) → IfSome r (λ log. log.now ≡ log_of c.args.block.now.seen c.args.net) → IfSome r (λ log. IsWave log.now)
    wave_when None h = tt
    wave_when (Some log) h = subst IsWave (sym h) (log_wave c.args.block.now.seen c.law.ensures.seen c.args.net).0

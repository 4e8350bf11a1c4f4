-- What is true of the fields of every kernel.
use Rattle.std.specs.Prelude.{◌≡◌}
use Rattle.part_engine.specs.Runs.{begins_of}
use Rattle.warp_block.specs.declared.kernel.Kernel.TheInside.{Inside}
use Rattle.warp_block.specs.Inner.Held.{IsAt}

pub record IsHeldKernel (kernel : Inside) : Type 0 where
  pub at : IsAt kernel.heard kernel.engine kernel.times
  pub begins : kernel.begins ≡ begins_of kernel.heard.part

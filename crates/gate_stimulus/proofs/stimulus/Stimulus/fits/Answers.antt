use Rattle.std.proofs.Common.{get_or, []}
use Rattle.net_waves.specs.Waves.{lists_in}
use Rattle.gate_stimulus.proofs.Latest.{some-mapped}
use Rattle.gate_stimulus.proofs.stimulus.Stimulus.fits.Goals as goal

pub returns : goal.returns
returns c =
    let same = some-mapped (λ k. get_or (lists_in c.self.inside.lists.items) k []) c.self.inside.list_of.items in
    rw (← c.self.view_is, same) (rw c.as_slice.ensures.value at c.fit.ensures)

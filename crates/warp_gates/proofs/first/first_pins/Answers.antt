use Rattle.std.proofs.Common.{◌∙◌}
use Rattle.warp_gates.specs.Inner.Pins.{pins_of}
use Rattle.warp_gates.proofs.Starting.{pins_set, four}
use Rattle.warp_gates.proofs.first.first_pins.Goals as goal

pub returns : goal.returns
returns c =
    pins_set c.at.result.bits c.first_pin.result c.first_pin-2.result c.first_pin-3.result c.first_pin-4.result (pins_of c.with.result) (pins_of c.with-2.result) (pins_of c.with-3.result) (pins_of c.with-4.result)
    c.at.ensures c.with.ensures c.with-2.ensures c.with-3.ensures c.with-4.ensures
    ∙ four _ _ _ _ _ _ _ _ c.first_pin.ensures c.first_pin-2.ensures c.first_pin-3.ensures c.first_pin-4.ensures

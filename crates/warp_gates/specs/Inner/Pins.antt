-- How the values at inputs lie in a byte.
use Rattle.std.specs.Prelude.{ℕ, ◌/◌, ◌%◌, List, [], ◌∷◌, map}
use Rattle.gate_values.specs.declared.logic.Logic.{Logic}
use Rattle.warp_stores.specs.Shown.Words.{value_of}
use Rattle.warp_gates.specs.declared.pins.Pins.{Pins}

-- the four values, each in two bits
abbrev pub pins_in : ℕ → List Logic
pins_in bits = map value_of ((bits % 4) ∷ (bits / 4 % 4) ∷ (bits / 16 % 4) ∷ (bits / 64 % 4) ∷ [])

-- the four values
abbrev pub pins_of : Pins → List Logic
pins_of pins = pins_in pins.bits

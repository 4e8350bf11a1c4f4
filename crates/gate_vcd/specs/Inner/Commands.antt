-- A command of the declarations, whole.
use Rattle.std.specs.Prelude.{◌≡◌, ℕ, Ok, Err, List, Result}
use Rattle.gate_vcd.specs.declared.fault.StimFault.{StimFault}
use Rattle.gate_vcd.specs.Tokens.{Token}
use Rattle.gate_vcd.specs.Shown.Commands.{rest_of_command}

-- A command is passed over up to its `$end`, whatever its texts are; or it has none.
abbrev pub IsSkipped : Token → List Token → List Token → Result (Unit {0}) StimFault → Type 0
IsSkipped first old new (Ok _) = (body : List (List ℕ)) × (rest_of_command first old ≡ Ok (body, new))
IsSkipped first old new (Err e) = rest_of_command first old ≡ Err e

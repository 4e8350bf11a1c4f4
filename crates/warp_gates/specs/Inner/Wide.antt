-- Gates that can take their inputs one after the other.
use Rattle.std.specs.Prelude.{Bool, true, false}
use Rattle.gate_values.specs.declared.gate.Kind.{Kind}
use Rattle.gate_values.specs.declared.gate.Kind.TheVariants.{And, Or, Xor}

-- what it makes of the first inputs stands for them
abbrev pub is_folded : Kind → Bool
is_folded And = true
is_folded Or = true
is_folded Xor = true
is_folded _ = false

-- How what gates put out lies in a list.
use Rattle.std.specs.Prelude.{◌≡◌, ℕ, ◌==◌, ◌/◌, ◌%◌, if◌then◌else◌, List, map}
use Rattle.std.specs.List.{range_with_len}
use Rattle.gate_values.specs.declared.logic.Logic.{Logic}
use Rattle.gate_values.specs.declared.gate.Kind.{Kind}
use Rattle.gate_values.specs.declared.gate.Kind.TheVariants.{And, Nand, Or, Nor, Xor, Xnor, Not, Buff}
use Rattle.gate_values.specs.Tables.{table_of}
use Rattle.warp_gates.specs.Inner.Pins.{pins_in}

-- the number of a kind
abbrev pub number_of : Kind → ℕ
number_of And = 0
number_of Nand = 1
number_of Or = 2
number_of Nor = 3
number_of Xor = 4
number_of Xnor = 5
number_of Not = 6
number_of Buff = 7

-- the kind of a number
abbrev pub kind_at : ℕ → Kind
kind_at n =
    if n == 0 then And else if n == 1 then Nand else if n == 2 then Or else if n == 3 then Nor
    else if n == 4 then Xor else if n == 5 then Xnor else if n == 6 then Not else Buff

-- the entry at a place
abbrev pub entry_at : ℕ → Logic
entry_at i = table_of (kind_at (i / 256)) (pins_in (i % 256))

-- all entries up to an end
abbrev pub entries : ℕ → List Logic
entries count = map entry_at (range_with_len 0 count)

-- all entries
pub record AreOutputs (values : List Logic) : Type 0 where
  pub each : values ≡ entries 2048

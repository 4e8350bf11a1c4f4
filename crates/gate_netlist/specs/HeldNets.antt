-- Numbers of nets, where they are few in the value itself.
use Rattle.std.specs.Prelude.{ℕ, ◌≤◌, List, take}
use Rattle.gate_netlist.specs.declared.nets.Held.{Held}
use Rattle.gate_netlist.specs.declared.nets.Held.TheVariants.{Few, Many}

-- the numbers that are held
abbrev pub numbers_held : Held → List ℕ
numbers_held (Few count numbers) = take count numbers
numbers_held (Many numbers) = numbers.items

-- there are so many
abbrev pub AreHeld : Held → Type 0
AreHeld (Few count numbers) = count ≤ 5
AreHeld (Many numbers) = Unit {0}

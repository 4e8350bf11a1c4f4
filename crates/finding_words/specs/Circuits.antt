-- The circuit that texts are about.
use Rattle.std.specs.Prelude.{◌≡◌, ℕ, List, Ok}
use Rattle.gate_netlist.specs.Bench.{bench_of}
use Rattle.gate_netlist.specs.Circuit.{Design}
use Rattle.gate_netlist.specs.Netlist.{Netlist}
use Rattle.gate_netlist.specs.Meaning.{IsSettled}

-- what a bench and settings give that are accepted
abbrev pub IsOfTexts : (bench settings : List ℕ) → Design → Type 0
IsOfTexts bench settings design = (netlist : Netlist) × (bench_of bench ≡ Ok netlist) × IsSettled netlist settings (Ok design)

-- How the nets of a circuit are printed.
use Rattle.std.specs.Prelude.{ℕ, zero, suc, List, [], ◌∷◌, ◌++◌, codes, decimal, Option, Some, None, unwrap_or, option_and_then, flat_map}
use Rattle.gate_values.specs.Words.{word_of}
use Rattle.gate_netlist.specs.declared.driver.Driver.{Driver}
use Rattle.gate_netlist.specs.declared.driver.Driver.TheVariants.{Input, Gate, Flop}
use Rattle.gate_netlist.specs.Circuit.{Design, driver_of, name_of, delay_of}
use Rattle.gate_netlist.specs.Cut.{owner_of}
use Rattle.vcd_dumps.specs.Codes.{code_of}
use Rattle.vcd_dumps.specs.Dump.{letter}

-- the names of nets, parted by commas
abbrev pub names_text : Design → List ℕ → List ℕ
names_text d [] = []
names_text d (n ∷ ns) = name_of d n ++ flat_map (λ m. codes ", " ++ name_of d m) ns

-- what sets a net, by the names of the nets that it takes
abbrev pub driver_text : Design → Driver → List ℕ
driver_text d Input = codes "INPUT"
driver_text d (Gate kind inputs) = word_of kind ++ codes "(" ++ names_text d inputs ++ codes ")"
driver_text d (Flop d_net clock init) =
    codes "DFF(" ++ name_of d d_net ++ codes ") clock " ++ name_of d clock ++ codes " init " ++ letter init ∷ []

-- the block of a net that isn't an input: that of the settings' cut, 0 where there is none
abbrev pub block_of : Design → ℕ → ℕ
block_of d n = unwrap_or (option_and_then (λ cut. owner_of cut n) d.cut) 0

-- the delay and the block of a net, which an input hasn't
abbrev pub timing_text : Option ℕ → ℕ → List ℕ
timing_text None block = []
timing_text (Some delay) block = codes " delay " ++ decimal delay ++ codes " block " ++ decimal block

-- the number, the code and the name of a net
abbrev pub head_text : Design → ℕ → List ℕ
head_text d n = decimal n ++ codes " " ++ code_of n ++ codes " " ++ name_of d n

-- the line of a net
abbrev pub net_line : Design → ℕ → List ℕ
net_line d n =
    head_text d n ++ codes " = " ++ driver_text d (driver_of d n) ++ timing_text (delay_of d n) (block_of d n) ++ codes "\n"

-- the lines of the nets below n
unfoldable pub net_lines : Design → ℕ → List ℕ
net_lines d zero = []
net_lines d (suc n) = net_lines d n ++ net_line d n

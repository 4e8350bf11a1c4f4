-- How the counts of a circuit are printed.
use Rattle.std.specs.Prelude.{ℕ, List, [], ◌∷◌, ◌++◌, codes, decimal}
use Rattle.gate_netlist.specs.declared.counts.Counts.{Counts}

-- a word and a number, on a line
unfoldable pub count_line : List ℕ → ℕ → List ℕ
count_line word number = word ++ codes " " ++ decimal number ++ 10 ∷ []

abbrev pub count_lines : Counts → List ℕ
count_lines counts =
    count_line (codes "nets") counts.nets
    ++ count_line (codes "inputs") counts.inputs
    ++ count_line (codes "gates") counts.gates
    ++ count_line (codes "flip-flops") counts.flops
    ++ count_line (codes "outputs") counts.outputs
    ++ count_line (codes "blocks") counts.blocks

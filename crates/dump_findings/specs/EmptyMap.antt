-- A map that says no pair.
use Rattle.std.specs.Prelude.{ℕ, Bool, ◌||◌, List}
use Rattle.std.specs.List.{list_all}
use Rattle.gate_netlist.specs.Lines.{lines_of}
use Rattle.gate_vcd.specs.Tokens.{is_space}
use Rattle.vcd_compare.specs.Map.{is_comment}

-- nothing but white space
abbrev pub is_blank : List ℕ → Bool
is_blank line = list_all is_space line

-- a line that says nothing
abbrev pub is_silent : List ℕ → Bool
is_silent line = is_comment line || is_blank line

-- each line is blank or a comment
abbrev pub says_nothing : List ℕ → Bool
says_nothing map = list_all is_silent (lines_of map)

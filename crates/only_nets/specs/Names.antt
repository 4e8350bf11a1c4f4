-- What a text says that names nets, a line each.
use Rattle.std.specs.Prelude.{◌≡◌, ℕ, ◌+◌, Bool, true, not, ◌==◌, ◌||◌, if◌then◌else◌, List, [], ◌∷◌, ◌++◌, take, drop, Option, Some, None, Result, Ok, Err, codes}
use Rattle.std.specs.List.{list_all, prefix_len}
use Rattle.gate_netlist.specs.Bench.{◌>>=◌}
use Rattle.gate_netlist.specs.Circuit.{Design, nets_of, net_of, is_one_of}
use Rattle.gate_netlist.specs.Lines.{lines_of}
use Rattle.gate_netlist.specs.Symbols.{is_letter}
use Rattle.only_nets.specs.declared.fault.OnlyCause.{OnlyCause}
use Rattle.only_nets.specs.declared.fault.OnlyCause.TheVariants.{UnknownNet, NamedTwice, Memory}
use Rattle.only_nets.specs.declared.fault.OnlyFault.{OnlyFault}
use Rattle.only_nets.specs.Marks.{marks}

-- ---- a line

-- a blank or a tab
abbrev pub is_blank : ℕ → Bool
is_blank b = b == 32 || b == 9

-- what stands behind the blanks in front
abbrev pub behind_blanks : List ℕ → List ℕ
behind_blanks text = drop (prefix_len is_blank text) text

-- how long the word in front is, which goes up to the next blank
abbrev pub word_len : List ℕ → ℕ
word_len text = prefix_len (λ b. not (is_blank b)) text

-- the net of a name, which is of letters
abbrev pub net_of_name : Design → List ℕ → Option ℕ
net_of_name d name = if list_all is_letter name then net_of d name else None

-- the net that a text names, which has no blanks in front: its one word is the name
abbrev pub net_in : Design → List ℕ → Option ℕ
net_in d text = if list_all is_blank (drop (word_len text) text) then net_of_name d (take (word_len text) text) else None

-- a blank line, or a comment
abbrev pub says_nothing : List ℕ → Bool
says_nothing [] = true
says_nothing (b ∷ bs) = b == 35

abbrev pub known : Option ℕ → Result (Option ℕ) OnlyCause
known (Some n) = Ok (Some n)
known None = Err UnknownNet

-- the net that a line names, if it says something
unfoldable pub meaning_of : Design → List ℕ → Result (Option ℕ) OnlyCause
meaning_of d line = if says_nothing (behind_blanks line) then Ok None else known (net_in d (behind_blanks line))

-- ---- a text

-- the nets that lines name, with one more
abbrev pub with_net : List ℕ → Option ℕ → Result (List ℕ) OnlyCause
with_net nets None = Ok nets
with_net nets (Some n) = if is_one_of nets n then Err NamedTwice else Ok (nets ++ n ∷ [])

-- the nets that lines name, with that of a line more
unfoldable pub with_line : Design → List ℕ → List ℕ → Result (List ℕ) OnlyCause
with_line d nets line = meaning_of d line >>= with_net nets

abbrev pub at_line : {X : Type 0} → ℕ → Result X OnlyCause → Result X OnlyFault
at_line line (Ok x) = Ok x
at_line line (Err cause) = Err (record { line = line; cause = cause })

-- These nets and those that lines name, the first of the lines having this number. The first faulty one is refused.
unfoldable pub nets_from : Design → List ℕ → ℕ → List (List ℕ) → Result (List ℕ) OnlyFault
nets_from d nets line [] = Ok nets
nets_from d nets line (l ∷ ls) = at_line line (with_line d nets l) >>= λ more. nets_from d more (line + 1) ls

-- the nets that a text names, in its order
abbrev pub nets_named : Design → List ℕ → Result (List ℕ) OnlyFault
nets_named d text = nets_from d [] 1 (lines_of text)

-- the marks of the nets that a text names
unfoldable pub marks_named : Design → List ℕ → Result (List Bool) OnlyFault
marks_named d text = nets_named d text >>= λ nets. Ok (marks (nets_of d) nets)

-- ---- want of memory

-- it has no line
abbrev pub out_of_memory : OnlyFault
out_of_memory = record { line = 0; cause = Memory }

-- a fault of a text of names, and not want of memory
abbrev pub IsOfNames : OnlyFault → Type 0
IsOfNames fault = fault.cause ≡ Memory → ⊥

-- ---- names of the causes

abbrev pub only_cause_number : OnlyCause → ℕ
only_cause_number UnknownNet = 1
only_cause_number NamedTwice = 2
only_cause_number Memory = 3

abbrev pub only_cause_name : OnlyCause → List ℕ
only_cause_name UnknownNet = codes "UnknownNet"
only_cause_name NamedTwice = codes "NamedTwice"
only_cause_name Memory = codes "Memory"

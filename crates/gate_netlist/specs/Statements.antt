-- What a line of a bench text says.
use Rattle.std.specs.Prelude.{ℕ, Bool, ◌==◌, nat_le, List, [], ◌∷◌, length, Option, Some, None, option_map, Result, Ok, Err, codes, if◌then◌else◌}
use Rattle.std.specs.Str.{str_eq_ignore_ascii_case}
use Rattle.gate_values.specs.declared.gate.Kind.{Kind}
use Rattle.gate_values.specs.declared.gate.Kind.TheVariants.{And, Nand, Or, Nor, Xor, Xnor, Not, Buff}
use Rattle.gate_values.specs.Words.{word_of}
use Rattle.gate_netlist.specs.declared.fault.BenchCause.{BenchCause}
use Rattle.gate_netlist.specs.declared.fault.BenchCause.TheVariants.{BadLine, BadName, UnknownGate, InputCount}
use Rattle.gate_netlist.specs.declared.statement.GateWord.{GateWord}
use Rattle.gate_netlist.specs.declared.statement.GateWord.TheVariants as word
use Rattle.gate_netlist.specs.Symbols.{Symbol, Open, Close, Comma, Equals, Word, before_comment, symbols, is_clean}

abbrev pub Name : Type 0
Name = List ℕ

pub data Statement : Type 0 where
  Nothing : Statement
  Input : List ℕ → Statement
  Output : List ℕ → Statement
  -- a net, what sets it, and its inputs
  Gate : List ℕ → Kind → List (List ℕ) → Statement
  -- a net and its data net
  Flop : List ℕ → List ℕ → Statement

-- a word in any letter case
abbrev pub says : List ℕ → List ℕ → Bool
says word letters = str_eq_ignore_ascii_case word letters

-- the word of a flip-flop
abbrev pub flop_word : List ℕ
flop_word = codes "DFF"

-- what a gate word stands for; BUF is BUFF
unfoldable pub gate_of : List ℕ → Option GateWord
gate_of w =
    if says w (word_of And) then Some (word.Gate And)
    else (if says w (word_of Nand) then Some (word.Gate Nand)
    else (if says w (word_of Or) then Some (word.Gate Or)
    else (if says w (word_of Nor) then Some (word.Gate Nor)
    else (if says w (word_of Xor) then Some (word.Gate Xor)
    else (if says w (word_of Xnor) then Some (word.Gate Xnor)
    else (if says w (word_of Not) then Some (word.Gate Not)
    else (if says w (word_of Buff) then Some (word.Gate Buff)
    else (if says w (codes "BUF") then Some (word.Gate Buff)
    else (if says w flop_word then Some word.Flop else None)))))))))

-- one or more names parted by commas, and the closing mark
unfoldable pub named : List Symbol → Option (List Name)
named (Word n ∷ Close ∷ []) = Some (n ∷ [])
named (Word n ∷ Comma ∷ ss) = option_map (λ ns. n ∷ ns) (named ss)
named _ = None

-- what stands after the opening mark: names, or none
abbrev pub arguments : List Symbol → Option (List Name)
arguments (Close ∷ []) = Some []
arguments ss = named ss

-- NOT and BUFF take one input, the others one or more
abbrev pub takes : Kind → ℕ → Bool
takes Not n = n == 1
takes Buff n = n == 1
takes _ n = nat_le 1 n

-- `word ( name )`
abbrev pub marked : List ℕ → Name → Result Statement BenchCause
marked w n = if says w (codes "INPUT") then Ok (Input n) else (if says w (codes "OUTPUT") then Ok (Output n) else Err BadLine)

-- `name = gate ( inputs )`
abbrev pub driven : Name → Option GateWord → List Name → Result Statement BenchCause
driven n None inputs = Err UnknownGate
driven n (Some (word.Gate kind)) inputs = if takes kind (length inputs) then Ok (Gate n kind inputs) else Err InputCount
driven n (Some word.Flop) (d ∷ []) = Ok (Flop n d)
driven n (Some word.Flop) _ = Err InputCount

-- `name = gate (` and what follows
abbrev pub driven_by : Name → List ℕ → Option (List Name) → Result Statement BenchCause
driven_by n w None = Err BadLine
driven_by n w (Some inputs) = driven n (gate_of w) inputs

-- what marks and words say
unfoldable pub statement_of : List Symbol → Result Statement BenchCause
statement_of [] = Ok Nothing
statement_of (Word w ∷ Open ∷ Word n ∷ Close ∷ []) = marked w n
statement_of (Word n ∷ Equals ∷ Word w ∷ Open ∷ ss) = driven_by n w (arguments ss)
statement_of _ = Err BadLine

-- what a line says; a comment says nothing
unfoldable pub meaning_of : List ℕ → Result Statement BenchCause
meaning_of line = if is_clean (before_comment line) then statement_of (symbols (before_comment line)) else Err BadName

-- No bench text is refused for want of memory.
use Rattle.std.proofs.Common.{◌≡◌, ℕ, ◌+◌, Bool, true, false, cond, nat_lt, List, [], ◌∷◌, ◌++◌, length, codes, position, option_to_list, Option, Some, None, Result, Ok, Err, IfErr}
use Rattle.gate_netlist.specs.declared.fault.BenchCause.{BenchCause}
use Rattle.gate_netlist.specs.declared.fault.BenchCause.TheVariants.{BadLine, InputCount, DrivenTwice, TooManyNets, Memory}
use Rattle.gate_netlist.specs.declared.statement.GateWord.{GateWord}
use Rattle.gate_netlist.specs.declared.statement.GateWord.TheVariants as word
use Rattle.gate_netlist.specs.Symbols.{Symbol, Open, Close, Equals, Word, before_comment, symbols, is_clean}
use Rattle.gate_netlist.specs.Statements.{Name, Statement, says, gate_of, arguments, takes, marked, driven, driven_by, statement_of, meaning_of}
use Rattle.gate_netlist.specs.Lines.{lines_of}
use Rattle.gate_netlist.specs.Bench.{◌>>=◌, net_defined, is_among, refusal, unless, stated, at_line, accepted, nets_defined, uses_other, unless_undriven, bench_of}
use Rattle.gate_netlist.specs.Refusals.{IsOfBench}

-- a cause that a line can have
abbrev IsOfLine : BenchCause → Type 0
IsOfLine cause = cause ≡ Memory → ⊥

if-of_line : {X : Type 0} (b : Bool) (x y : Result X BenchCause) → IfErr x IsOfLine → IfErr y IsOfLine → IfErr (cond b x y) IsOfLine
if-of_line true x y h k = h
if-of_line false x y h k = k

-- what is refused for its first step, or for what follows
then-refused : {A B E : Type 0} (P : E → Type 0) (r : Result A E) (f : A → Result B E) → IfErr r P → ((x : A) → IfErr (f x) P) → IfErr (r >>= f) P
then-refused P (Ok x) f h k = k x
then-refused P (Err e) f h k = h

-- ---- a line

bad_line : IsOfLine BadLine
bad_line e = cc

input_count : IsOfLine InputCount
input_count e = cc

marked-of_line : (w : List ℕ) (n : Name) → IfErr (marked w n) IsOfLine
marked-of_line w n = if-of_line (says w (codes "INPUT")) _ _ tt (if-of_line (says w (codes "OUTPUT")) _ _ tt bad_line)

driven-of_line : (n : Name) (gate : Option GateWord) (inputs : List Name) → IfErr (driven n gate inputs) IsOfLine
driven-of_line n None inputs = λ e. cc
driven-of_line n (Some (word.Gate kind)) inputs = if-of_line (takes kind (length inputs)) _ _ tt input_count
driven-of_line n (Some word.Flop) (d ∷ []) = tt
driven-of_line n (Some word.Flop) _ = input_count

driven_by-of_line : (n : Name) (w : List ℕ) (inputs : Option (List Name)) → IfErr (driven_by n w inputs) IsOfLine
driven_by-of_line n w None = bad_line
driven_by-of_line n w (Some inputs) = driven-of_line n (gate_of w) inputs

statement_of-of_line : (ss : List Symbol) → IfErr (statement_of ss) IsOfLine
unfolding statement_of
statement_of-of_line [] = tt
statement_of-of_line (Word w ∷ Open ∷ Word n ∷ Close ∷ []) = marked-of_line w n
statement_of-of_line (Word n ∷ Equals ∷ Word w ∷ Open ∷ ss) = driven_by-of_line n w (arguments ss)
statement_of-of_line _ = bad_line

meaning_of-of_line : (line : List ℕ) → IfErr (meaning_of line) IsOfLine
unfolding meaning_of
meaning_of-of_line line = if-of_line (is_clean (before_comment line)) _ _ (statement_of-of_line (symbols (before_comment line))) (λ e. cc)

-- ---- a line after others

refused-of_line : {X : Type 0} (twice many : Bool) (x : X) → IfErr (unless (cond twice (Some DrivenTwice) (cond many None (Some TooManyNets))) x) IsOfLine
refused-of_line true many x = λ e. cc
refused-of_line false true x = tt
refused-of_line false false x = λ e. cc

defined-of_line : (earlier : List Name) (net : Option Name) (s : Statement) → IfErr (unless (refusal earlier net) s) IsOfLine
defined-of_line earlier None s = tt
defined-of_line earlier (Some n) s = refused-of_line (is_among earlier n) (nat_lt (length earlier) 999999) s

stated-of_line : (earlier : List Name) (line : List ℕ) → IfErr (stated earlier line) IsOfLine
unfolding stated
stated-of_line earlier line = then-refused IsOfLine (meaning_of line) _ (meaning_of-of_line line) (λ s. defined-of_line earlier (net_defined s) s)

-- ---- a text

at_line-of_bench : {X : Type 0} (line : ℕ) (r : Result X BenchCause) → IfErr r IsOfLine → IfErr (at_line line r) IsOfBench
at_line-of_bench line (Ok x) h = tt
at_line-of_bench line (Err cause) h = h

accepted-of_bench : (earlier : List Name) (line : ℕ) (ls : List (List ℕ)) → IfErr (accepted earlier line ls) IsOfBench
unfolding accepted
accepted-of_bench earlier line [] = tt
accepted-of_bench earlier line (l ∷ ls) =
    then-refused IsOfBench (at_line line (stated earlier l)) _ (at_line-of_bench line (stated earlier l) (stated-of_line earlier l))
    (λ s. then-refused IsOfBench (accepted (earlier ++ option_to_list (net_defined s)) (line + 1) ls) _ (accepted-of_bench (earlier ++ option_to_list (net_defined s)) (line + 1) ls) (λ ss. tt))

undriven-of_bench : (place : Option ℕ) (ss : List Statement) → IfErr (unless_undriven place ss) IsOfBench
undriven-of_bench None ss = tt
undriven-of_bench (Some i) ss = λ e. cc

pub bench_of-of_bench : (text : List ℕ) → IfErr (bench_of text) IsOfBench
unfolding bench_of
bench_of-of_bench text =
    then-refused IsOfBench (accepted [] 1 (lines_of text)) _ (accepted-of_bench [] 1 (lines_of text))
    (λ ss. undriven-of_bench (position (uses_other (nets_defined ss)) ss) ss)

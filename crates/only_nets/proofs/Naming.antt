-- Laws of lines that name nets.
use Rattle.std.proofs.Common.{◌≡◌, ℕ, ◌+◌, Bool, true, false, cond, List, [], ◌∷◌, ◌++◌, Option, Some, None, Result, Ok, Err, IfErr, refl, sym, ◌∙◌}
use Rattle.gate_netlist.specs.Bench.{◌>>=◌}
use Rattle.gate_netlist.specs.Circuit.{Design, nets_of, is_one_of}
use Rattle.gate_netlist.specs.Lines.{lines_of}
use Rattle.only_nets.specs.declared.fault.OnlyCause.{OnlyCause}
use Rattle.only_nets.specs.declared.fault.OnlyCause.TheVariants.{UnknownNet, NamedTwice, Memory}
use Rattle.only_nets.specs.declared.fault.OnlyFault.{OnlyFault}
use Rattle.only_nets.specs.Marks.{marks}
use Rattle.only_nets.specs.Names.{behind_blanks, net_in, says_nothing, known, meaning_of, with_net, with_line, at_line, nets_from, nets_named, marks_named, IsOfNames}

-- a cause that a line can have
abbrev IsOfLine : OnlyCause → Type 0
IsOfLine cause = cause ≡ Memory → ⊥

if-of_line : {X : Type 0} (b : Bool) (x y : Result X OnlyCause) → IfErr x IsOfLine → IfErr y IsOfLine → IfErr (cond b x y) IsOfLine
if-of_line true x y h k = h
if-of_line false x y h k = k

-- what is refused for its first step, or for what follows
then-refused : {A B E : Type 0} (P : E → Type 0) (r : Result A E) (f : A → Result B E) → IfErr r P → ((x : A) → IfErr (f x) P) → IfErr (r >>= f) P
then-refused P (Ok x) f h k = k x
then-refused P (Err e) f h k = h

unknown : IsOfLine UnknownNet
unknown e = cc

twice : IsOfLine NamedTwice
twice e = cc

known-of_line : (net : Option ℕ) → IfErr (known net) IsOfLine
known-of_line (Some n) = tt
known-of_line None = unknown

meaning-of_line : (d : Design) (line : List ℕ) → IfErr (meaning_of d line) IsOfLine
unfolding meaning_of
meaning-of_line d line = if-of_line (says_nothing (behind_blanks line)) _ _ tt (known-of_line (net_in d (behind_blanks line)))

with_net-of_line : (nets : List ℕ) (net : Option ℕ) → IfErr (with_net nets net) IsOfLine
with_net-of_line nets None = tt
with_net-of_line nets (Some n) = if-of_line (is_one_of nets n) _ _ twice tt

with_line-of_line : (d : Design) (nets line : List ℕ) → IfErr (with_line d nets line) IsOfLine
unfolding with_line
with_line-of_line d nets line = then-refused IsOfLine (meaning_of d line) (with_net nets) (meaning-of_line d line) (with_net-of_line nets)

at_line-of_names : {X : Type 0} (line : ℕ) (r : Result X OnlyCause) → IfErr r IsOfLine → IfErr (at_line line r) IsOfNames
at_line-of_names line (Ok x) h = tt
at_line-of_names line (Err cause) h = h

nets_from-of_names : (d : Design) (nets : List ℕ) (line : ℕ) (ls : List (List ℕ)) → IfErr (nets_from d nets line ls) IsOfNames
unfolding nets_from
nets_from-of_names d nets line [] = tt
nets_from-of_names d nets line (l ∷ ls) =
    then-refused IsOfNames (at_line line (with_line d nets l)) _ (at_line-of_names line (with_line d nets l) (with_line-of_line d nets l))
    (λ more. nets_from-of_names d more (line + 1) ls)

pub marks_named-of_names : (d : Design) (text : List ℕ) → IfErr (marks_named d text) IsOfNames
unfolding marks_named
marks_named-of_names d text = then-refused IsOfNames (nets_from d [] 1 (lines_of text)) _ (nets_from-of_names d [] 1 (lines_of text)) (λ nets. tt)

-- ---- line by line

-- what a line that says nothing leaves, and one that names a net
pub with_nothing : (d : Design) (nets line : List ℕ) → meaning_of d line ≡ Ok None → with_line d nets line ≡ Ok nets
unfolding with_line
with_nothing d nets line e = rw e refl

pub with_known : (d : Design) (nets line : List ℕ) (n : ℕ) → meaning_of d line ≡ Ok (Some n) → is_one_of nets n ≡ false → with_line d nets line ≡ Ok (nets ++ n ∷ [])
unfolding with_line
with_known d nets line n e new = rw (e, new) refl

pub with_again : (d : Design) (nets line : List ℕ) (n : ℕ) → meaning_of d line ≡ Ok (Some n) → is_one_of nets n ≡ true → with_line d nets line ≡ Err NamedTwice
unfolding with_line
with_again d nets line n e old = rw (e, old) refl

pub with_refused : (d : Design) (nets line : List ℕ) (cause : OnlyCause) → meaning_of d line ≡ Err cause → with_line d nets line ≡ Err cause
unfolding with_line
with_refused d nets line cause e = rw e refl

pub line_read : (d : Design) (nets more : List ℕ) (line : ℕ) (l : List ℕ) (ls : List (List ℕ)) (total : Result (List ℕ) OnlyFault) → with_line d nets l ≡ Ok more
    → nets_from d nets line (l ∷ ls) ≡ total → nets_from d more (line + 1) ls ≡ total
unfolding nets_from
line_read d nets more line l ls total e h = rw e at h

pub line_refused : (d : Design) (nets : List ℕ) (line : ℕ) (l : List ℕ) (ls : List (List ℕ)) (cause : OnlyCause) (total : Result (List ℕ) OnlyFault) → with_line d nets l ≡ Err cause
    → nets_from d nets line (l ∷ ls) ≡ total → total ≡ Err (record { line = line; cause = cause })
unfolding nets_from
line_refused d nets line l ls cause total e h = sym h ∙ rw e refl

pub marks_read : (d : Design) (text nets : List ℕ) → nets_named d text ≡ Ok nets → marks_named d text ≡ Ok (marks (nets_of d) nets)
unfolding marks_named
marks_read d text nets e = rw e refl

pub marks_refused : (d : Design) (text : List ℕ) (fault : OnlyFault) → nets_named d text ≡ Err fault → marks_named d text ≡ Err fault
unfolding marks_named
marks_refused d text fault e = rw e refl

pub all_read : (d : Design) (nets : List ℕ) (line : ℕ) (total : Result (List ℕ) OnlyFault) → nets_from d nets line [] ≡ total → total ≡ Ok nets
unfolding nets_from
all_read d nets line total h = sym h

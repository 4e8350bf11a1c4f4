-- Statements, read from the front.
use Rattle.std.proofs.Common.{◌≡◌, ℕ, Bool, true, false, cond, List, [], ◌∷◌, ◌++◌, ◌+◌, ◌≤◌, drop, length, eqb, map, not, ◌&&◌, ◌||◌, arith, append_assoc, sym, ap, ◌∙◌, Option, Some, None, option_map, Result, Ok, Err, refl}
use Rattle.std.specs.List.{list_any, list_all}
use Rattle.std.specs.Borrow.{Bor}
use Rattle.std.proofs.lemmas.Bool.{eqb-true}
use Rattle.std.proofs.lemmas.List.{drop-drop, drop-map, drop_all}
use Rattle.gate_netlist.specs.declared.fault.BenchCause.{BenchCause}
use Rattle.gate_netlist.specs.declared.fault.BenchCause.TheVariants.{BadLine, BadName}
use Rattle.gate_netlist.specs.declared.token.Token.{Token}
use Rattle.gate_netlist.specs.Inner.Tokens.{symbol_of, symbols_of}
use Rattle.gate_netlist.specs.Symbols.{Symbol, Open, Close, Comma, Equals, Word, before_comment, is_allowed, is_end, symbols}
use Rattle.gate_netlist.specs.Inner.FirstLine.{first_of, first_line, IsFirstLine}
use Rattle.gate_netlist.specs.Inner.Splits.{word_first, after_open, has_comma, after_equals, closes}
use Rattle.gate_netlist.specs.Statements.{Name, Statement, Nothing, named, arguments, marked, driven_by, statement_of, meaning_of}

abbrev pub named_from : Option (List ℕ × List Symbol) → Option (List Name)
named_from None = None
named_from (Some p) = cond (closes p.1) (Some (p.0 ∷ [])) (cond (has_comma p.1) (option_map (λ ns. p.0 ∷ ns) (named (drop 1 p.1))) None)

pub named_reads : (ss : List Symbol) → named ss ≡ named_from (word_first ss)
unfolding named
named_reads (Word n ∷ Close ∷ []) = refl
named_reads (Word n ∷ Comma ∷ ss) = refl
named_reads _ = refl

-- the names that were read, and those that these symbols still give, are all
abbrev pub Left : List Name → List Symbol → Option (List Name) → Type 0
Left front ss total = option_map (λ ns. front ++ ns) (named ss) ≡ total

pub ends_bare : (front : List Name) (ss : List Symbol) (total : Option (List Name)) → None ≡ word_first ss → Left front ss total → None ≡ total
ends_bare front ss total e h = ap (option_map (λ ns. front ++ ns)) (sym (named_reads ss ∙ ap named_from (sym e))) ∙ h

pub ends_closed : (front : List Name) (ss : List Symbol) (total : Option (List Name)) (n : Name) (rest : List Symbol) → Some (n, rest) ≡ word_first ss → true ≡ closes rest → Left front ss total → Some (front ++ n ∷ []) ≡ total
ends_closed front ss total n rest e t h =
    let one : named ss ≡ Some (n ∷ []) = named_reads ss ∙ ap named_from (sym e) ∙ rw (← t) refl in
    ap (option_map (λ ns. front ++ ns)) (sym one) ∙ h

pub ends_broken : (front : List Name) (ss : List Symbol) (total : Option (List Name)) (n : Name) (rest : List Symbol) → Some (n, rest) ≡ word_first ss → false ≡ closes rest → false ≡ has_comma rest → Left front ss total → None ≡ total
ends_broken front ss total n rest e t u h =
    let none : named ss ≡ None = named_reads ss ∙ ap named_from (sym e) ∙ rw (← t, ← u) refl in
    ap (option_map (λ ns. front ++ ns)) (sym none) ∙ h

regrouped : (front : List Name) (n : Name) (more : Option (List Name)) → option_map (λ ns. (front ++ n ∷ []) ++ ns) more ≡ option_map (λ ns. front ++ ns) (option_map (λ ns. n ∷ ns) more)
regrouped front n None = refl
regrouped front n (Some ns) = ap Some (append_assoc front (n ∷ []) ns)

pub goes_on : (front : List Name) (ss : List Symbol) (total : Option (List Name)) (n : Name) (rest : List Symbol) → Some (n, rest) ≡ word_first ss → false ≡ closes rest → true ≡ has_comma rest → Left front ss total → Left (front ++ n ∷ []) (drop 1 rest) total
goes_on front ss total n rest e t u h =
    let more : named ss ≡ option_map (λ ns. n ∷ ns) (named (drop 1 rest)) = named_reads ss ∙ ap named_from (sym e) ∙ rw (← t, ← u) refl in
    regrouped front n (named (drop 1 rest)) ∙ ap (option_map (λ ns. front ++ ns)) (sym more) ∙ h

abbrev found_rest : Option (List ℕ × List Symbol) → List Symbol
found_rest None = []
found_rest (Some p) = p.1

-- two symbols on
past_comma : (ss : List Symbol) (n : Name) (rest : List Symbol) → Some (n, rest) ≡ word_first ss → drop 1 rest ≡ drop 2 ss
past_comma (Word w ∷ ss) n rest e = ap (drop 1) (ap found_rest e)
past_comma _ n rest e = absurd cc

two_on : (ts : List Token) (at : ℕ) → symbols_of (drop (at + 2) ts) ≡ drop 2 (symbols_of (drop at ts))
two_on ts at = ap symbols_of (sym (drop-drop 2 at ts)) ∙ sym (drop-map symbol_of 2 (drop at ts))

-- a loop over the names, at a token
pub goes_on_at : (front : List Name) (ts : List Token) (at : ℕ) (total : Option (List Name)) (n : Name) (rest : List Symbol)
    → Some (n, rest) ≡ word_first (symbols_of (drop at ts)) → false ≡ closes rest → true ≡ has_comma rest
    → Left front (symbols_of (drop at ts)) total → Left (front ++ n ∷ []) (symbols_of (drop (at + 2) ts)) total
goes_on_at front ts at total n rest e t u h =
    rw (two_on ts at, ← past_comma (symbols_of (drop at ts)) n rest e) (goes_on front (symbols_of (drop at ts)) total n rest e t u h)

pub ends_past : (front : List Name) (ts : List Token) (at : ℕ) (total : Option (List Name)) → length ts ≤ at → Left front (symbols_of (drop at ts)) total → None ≡ total
ends_past front ts at total le h = ends_bare front (symbols_of (drop at ts)) total (rw (drop_all at ts le) refl) h

abbrev pub marking : List ℕ → Option (List ℕ × List Symbol) → Result Statement BenchCause
marking w None = Err BadLine
marking w (Some p) = cond (closes p.1) (marked w p.0) (Err BadLine)

pub marking_reads : (w : List ℕ) (ss : List Symbol) → statement_of (Word w ∷ Open ∷ ss) ≡ marking w (word_first ss)
unfolding statement_of
marking_reads w (Word n ∷ Close ∷ []) = refl
marking_reads w _ = refl

abbrev pub defining_by : Name → List ℕ → Option (List Symbol) → Result Statement BenchCause
defining_by n w None = Err BadLine
defining_by n w (Some ss) = driven_by n w (arguments ss)

abbrev pub defining : Name → Option (List ℕ × List Symbol) → Result Statement BenchCause
defining n None = Err BadLine
defining n (Some p) = defining_by n p.0 (after_open p.1)

pub defining_reads : (n : Name) (ss : List Symbol) → statement_of (Word n ∷ Equals ∷ ss) ≡ defining n (word_first ss)
unfolding statement_of
defining_reads n (Word w ∷ Open ∷ ss) = refl
defining_reads n _ = refl

pub arguments_reads : (ss : List Symbol) → arguments ss ≡ cond (closes ss) (Some []) (named ss)
arguments_reads (Close ∷ []) = refl
arguments_reads _ = refl

abbrev pub assigned : Name → Option (List Symbol) → Result Statement BenchCause
assigned n None = Err BadLine
assigned n (Some ss) = statement_of (Word n ∷ Equals ∷ ss)

abbrev pub opened : List ℕ → List Symbol → Option (List Symbol) → Result Statement BenchCause
opened w rest None = assigned w (after_equals rest)
opened w rest (Some ss) = statement_of (Word w ∷ Open ∷ ss)

abbrev pub statement_from : List Symbol → Option (List ℕ × List Symbol) → Result Statement BenchCause
statement_from [] None = Ok Nothing
statement_from (s ∷ ss) None = Err BadLine
statement_from ss (Some p) = opened p.0 p.1 (after_open p.1)

pub statement_reads : (ss : List Symbol) → statement_of ss ≡ statement_from ss (word_first ss)
unfolding statement_of
statement_reads [] = refl
statement_reads (Word w ∷ Open ∷ ss) = refl
statement_reads (Word n ∷ Equals ∷ ss) = refl
statement_reads _ = refl

pub without_tokens : (ts : List Token) → true ≡ eqb (length ts) 0 → statement_of (symbols_of ts) ≡ Ok Nothing
unfolding statement_of
without_tokens [] e = refl
without_tokens (t ∷ ts) e = absurd (omega (arith, eqb-true (length (t ∷ ts)) 0 (sym e)))

pub without_word : (ts : List Token) → false ≡ eqb (length ts) 0 → None ≡ word_first (symbols_of ts) → statement_of (symbols_of ts) ≡ Err BadLine
without_word [] e f = absurd cc
without_word (t ∷ ts) e f = statement_reads (symbols_of (t ∷ ts)) ∙ rw (← f) refl

pub list_any-map : {X Y : Type 0} (p : Y → Bool) (f : X → Y) (xs : List X) → list_any p (map f xs) ≡ list_any (λ x. p (f x)) xs
list_any-map p f [] = refl
list_any-map p f (x ∷ xs) = ap (λ b. p (f x) || b) (list_any-map p f xs)

-- a line of allowed bytes, in these tokens
pub meaning_at : (line : List ℕ) (ts : List Token) (t : Bool) → true ≡ list_all is_allowed (before_comment line) → symbols_of ts ≡ symbols (before_comment line) → t ≡ list_any (λ x. is_end (symbol_of x)) ts
    → meaning_of line ≡ cond t (Err BadName) (statement_of (symbols_of ts))
unfolding meaning_of
meaning_at line ts t e f g =
    let ended : list_any is_end (symbols (before_comment line)) ≡ t = ap (list_any is_end) (sym f) ∙ list_any-map is_end symbol_of ts ∙ sym g in
    rw (← e, ended, f) (elim t as (λ b. cond (true && not b) (statement_of (symbols (before_comment line))) (Err BadName) ≡ cond b (Err BadName) (statement_of (symbols (before_comment line)))) [ true ↦ refl | false ↦ refl ])

-- ---- the first line of a text

pub bad_first : (text : List ℕ) (ss : List Symbol) (after : Option (Bor (List ℕ))) → IsFirstLine text ss false after → meaning_of (first_line text) ≡ Err BadName
unfolding meaning_of
bad_first text ss after f = rw (ap first_of f.lines, f.allowed) refl

pub meaning_first : (text : List ℕ) (ts : List Token) (after : Option (Bor (List ℕ))) (t : Bool) → IsFirstLine text (symbols_of ts) true after → t ≡ list_any (λ x. is_end (symbol_of x)) ts
    → meaning_of (first_line text) ≡ cond t (Err BadName) (statement_of (symbols_of ts))
meaning_first text ts after t f e = rw (ap first_of f.lines) (meaning_at f.line ts t (sym f.allowed) (f.said refl) e)

-- Lines are accepted one after the other.
use Rattle.std.proofs.Common.{◌≡◌, ◌⊎◌, ℕ, ◌+◌, List, [], ◌∷◌, ◌++◌, ◌<◌, ◌≤◌, length, arith, Option, Some, None, Result, Ok, Err, refl, ap, sym, ◌∙◌, inl, inr, append_assoc, append-nil}
use Rattle.std.specs.Prelude.{option_to_list, IfSome}
use Rattle.std.specs.List.{filter_map, cons_option}
use Rattle.std.specs.Borrow.{Bor}
use Rattle.std.proofs.lemmas.List.Elements.{filter_map-append}
use Rattle.gate_netlist.specs.declared.fault.BenchCause.{BenchCause}
use Rattle.gate_netlist.specs.declared.fault.BenchCause.TheVariants as cause
use Rattle.gate_netlist.specs.declared.fault.BenchFault.{BenchFault}
use Rattle.gate_netlist.specs.Faults.{out_of_memory}
use Rattle.gate_netlist.specs.Inner.Faults.{fault_at}
use Rattle.gate_netlist.specs.Statements.{Name, Statement}
use Rattle.gate_netlist.specs.Bench.{◌>>=◌, net_defined, nets_defined, stated, accepted}

-- what was read before, and what is still read
abbrev pub onto : List Statement → Result (List Statement) BenchFault → Result (List Statement) BenchFault
onto front read = read >>= λ ss. Ok (front ++ ss)

pub onto_nothing : (read : Result (List Statement) BenchFault) → onto [] read ≡ read
onto_nothing (Ok ss) = refl
onto_nothing (Err e) = refl

-- more than is left of a text
abbrev pub text_left : Option (Bor (List ℕ)) → ℕ
text_left None = 0
text_left (Some text) = length text.now + 1

fewer_left : (text : Bor (List ℕ)) (rest : Option (Bor (List ℕ))) → IfSome rest (λ rest. length rest.now < length text.now) → text_left rest < text_left (Some text)
fewer_left text None h = omega arith
fewer_left text (Some rest) h = omega (arith, h)

-- a line more is counted, and less is left
pub line_counted : (number : ℕ) (text : Bor (List ℕ)) (rest : Option (Bor (List ℕ))) (most : ℕ) → IfSome rest (λ rest. length rest.now < length text.now) → number + text_left (Some text) ≤ most → number + 1 + text_left rest ≤ most
line_counted number text rest most h le = let less = fewer_left text rest h in omega arith

pub front-option : {X : Type 0} (o : Option X) (xs : List X) → option_to_list o ++ xs ≡ cons_option o xs
front-option None xs = refl
front-option (Some x) xs = refl

-- what one more gives goes behind what the earlier ones gave
pub behind : {X Y : Type 0} (f : X → Option Y) (ys : List Y) (x : X) (xs : List X) → (ys ++ option_to_list (f x)) ++ filter_map f xs ≡ ys ++ filter_map f (x ∷ xs)
behind f ys x xs = append_assoc ys (option_to_list (f x)) (filter_map f xs) ∙ ap (λ (zs : List _). ys ++ zs) (front-option (f x) (filter_map f xs))

regrouped : (front : List Statement) (s : Statement) (read : Result (List Statement) BenchFault) → onto front (read >>= λ ss. Ok (s ∷ ss)) ≡ onto (front ++ s ∷ []) read
regrouped front s (Ok ss) = ap Ok (sym (append_assoc front (s ∷ []) ss))
regrouped front s (Err e) = refl

pub one_more : (front : List Statement) (earlier : List Name) (line : ℕ) (l : List ℕ) (ls : List (List ℕ)) (s : Statement) (total : Result (List Statement) BenchFault) → stated earlier l ≡ Ok s
    → onto front (accepted earlier line (l ∷ ls)) ≡ total → onto (front ++ s ∷ []) (accepted (earlier ++ option_to_list (net_defined s)) (line + 1) ls) ≡ total
unfolding accepted
one_more front earlier line l ls s total e h = sym (regrouped front s (accepted (earlier ++ option_to_list (net_defined s)) (line + 1) ls)) ∙ rw e at h

-- the fault at a line is that of all lines
pub refused_at : (front : List Statement) (earlier : List Name) (line : ℕ) (l : List ℕ) (ls : List (List ℕ)) (c : BenchCause) (total : Result (List Statement) BenchFault) → (c ≡ cause.Memory) ⊎ (stated earlier l ≡ Err c)
    → onto front (accepted earlier line (l ∷ ls)) ≡ total → (fault_at line c ≡ out_of_memory) ⊎ (total ≡ Err (fault_at line c))
unfolding accepted
refused_at front earlier line l ls cause.Memory total e h = inl refl
refused_at front earlier line l ls c total (inl m) h = inl (ap (fault_at line) m)
refused_at front earlier line l ls c total (inr e) h = inr (sym h ∙ rw e refl)

pub all_read : (front : List Statement) (earlier : List Name) (line : ℕ) (total : Result (List Statement) BenchFault) → onto front (accepted earlier line []) ≡ total → total ≡ Ok front
unfolding accepted
all_read front earlier line total h = sym h ∙ ap Ok (append-nil front)

-- the nets of one statement more
pub named_more : (front : List Statement) (s : Statement) (names more : List Name) → names ≡ nets_defined front → more ≡ names ++ option_to_list (net_defined s) → more ≡ nets_defined (front ++ s ∷ [])
named_more front s names more e f = f ∙ ap (λ (ns : List Name). ns ++ option_to_list (net_defined s)) e ∙ sym (filter_map-append net_defined front (s ∷ []) ∙ ap (λ (ns : List Name). nets_defined front ++ ns) (sym (front-option (net_defined s) []) ∙ append-nil (option_to_list (net_defined s))))

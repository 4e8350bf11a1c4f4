-- What the lines of an accepted bench text say.
use Rattle.std.proofs.Common.{◌≡◌, ℕ, ◌+◌, List, [], ◌∷◌, ◌++◌, Option, Some, None, Result, Ok, Err, refl, ap, sym, ◌∙◌, subst}
use Rattle.std.specs.Prelude.{option_to_list, position}
use Rattle.gate_netlist.specs.declared.fault.BenchFault.{BenchFault}
use Rattle.gate_netlist.specs.Accepted.{AreSaid, Means}
use Rattle.gate_netlist.specs.Bench.{◌>>=◌, net_defined, nets_defined, stated, accepted, at_line, uses_other, unless_undriven, resolved, netlist_by, bench_of}
use Rattle.gate_netlist.specs.Lines.{lines_of}
use Rattle.gate_netlist.specs.Netlist.{Netlist}
use Rattle.gate_netlist.specs.Statements.{Statement}
use Rattle.gate_netlist.proofs.Resolving.{bind_ok, at_line-ok, same_list, meaning_stated}

are_said : (earlier : List (List ℕ)) (line : ℕ) (ls : List (List ℕ)) (ss : List Statement) → accepted earlier line ls ≡ Ok ss → AreSaid ls ss
unfolding accepted
are_said earlier line [] ss e = subst (AreSaid []) (same_list [] ss e) tt
are_said earlier line (l ∷ ls) ss e =
    let a = bind_ok (at_line line (stated earlier l)) (λ s. accepted (earlier ++ option_to_list (net_defined s)) (line + 1) ls >>= λ ss. Ok (s ∷ ss)) ss e in
    let b = bind_ok (accepted (earlier ++ option_to_list (net_defined a.0)) (line + 1) ls) (λ ss. Ok (a.0 ∷ ss)) ss a.2 in
    subst (AreSaid (l ∷ ls)) (same_list (a.0 ∷ b.0) ss b.2)
    (meaning_stated earlier l a.0 (at_line-ok line (stated earlier l) a.0 a.1), are_said (earlier ++ option_to_list (net_defined a.0)) (line + 1) ls b.0 b.1)

abbrev of_answer : Netlist → Result Netlist BenchFault → Netlist
of_answer netlist (Ok n) = n
of_answer netlist (Err f) = netlist

made : (o : Option ℕ) (ss : List Statement) (netlist : Netlist) → unless_undriven o ss ≡ Ok netlist → netlist ≡ netlist_by ss
made None ss netlist e = sym (ap (of_answer netlist) e)
made (Some i) ss netlist e = absurd cc

pub means : (text : List ℕ) (netlist : Netlist) → bench_of text ≡ Ok netlist → Means text netlist
unfolding bench_of
means text netlist e =
    let a = bind_ok (accepted [] 1 (lines_of text)) resolved netlist e in
    record {
      statements = a.0;
      said = are_said [] 1 (lines_of text) a.0 a.1;
      is = made (position (uses_other (nets_defined a.0)) a.0) a.0 netlist a.2;
    }

-- lines say one thing
same_said : (ls : List (List ℕ)) (ss ts : List Statement) → AreSaid ls ss → AreSaid ls ts → ss ≡ ts
same_said [] [] [] a b = refl
same_said [] (s ∷ ss) ts a b = absurd a
same_said [] [] (t ∷ ts) a b = absurd b
same_said (l ∷ ls) [] ts a b = absurd a
same_said (l ∷ ls) (s ∷ ss) [] a b = absurd b
same_said (l ∷ ls) (s ∷ ss) (t ∷ ts) a b =
    let first = sym a.0 ∙ b.0 in
    let rest = same_said ls ss ts a.1 b.1 in
    cc

pub means_one : (text : List ℕ) (m n : Netlist) → Means text m → Means text n → m ≡ n
means_one text m n a b = a.is ∙ (ap netlist_by (same_said (lines_of text) a.statements b.statements a.said b.said) ∙ sym b.is)

use Rattle.std.proofs.Common.{◌≡◌, ◌∙◌, List, map, ap, sym, IfOk, Result, Ok, Err}
use Rattle.std.proofs.lemmas.Simd.{map-map}
use Rattle.gate_netlist.specs.Bench.{number_among}
use Rattle.gate_netlist.specs.Statements.{Name}
use Rattle.gate_netlist.specs.Inner.Keys.{names_in}
use Rattle.gate_netlist.specs.Inner.Meant.{names_meant}
use Rattle.gate_netlist.proofs.store.Statements.numbers.Goals as goal

if_ok : {X E : Type 0} (r : Result X E) (P Q : X → Type 0) → ((x : X) → P x → Q x) → IfOk r P → IfOk r Q
if_ok (Ok x) P Q f h = f x h
if_ok (Err e) P Q f h = tt

pub returns : goal.returns
returns c =
    let uses : names_meant c.deref.result.now ≡ c.args.self.now.uses = ap names_meant c.deref.ensures.value ∙ ap (λ said. said.uses) c.self.view_is in
    if_ok c.numbers_of.result _ (λ numbers. numbers.items ≡ map (number_among (names_in c.args.names.now)) c.args.self.now.uses)
    (λ numbers h. h ∙ sym (map-map (number_among (names_in c.args.names.now)) (λ n. n.now) c.deref.result.now) ∙ ap (λ (ns : List Name). map (number_among (names_in c.args.names.now)) ns) uses)
    c.numbers_of.ensures

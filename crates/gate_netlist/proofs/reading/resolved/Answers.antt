use Rattle.std.proofs.Common.{◌∙◌, ◌+◌, ◌≤◌, ◌<◌, List, drop, length, get_or, ap, sym, arith, string_bytes}
use Rattle.std.proofs.lemmas.List.{drop_all, length-map}
use Rattle.gate_netlist.specs.Statements.{Statement}
use Rattle.gate_netlist.specs.Inner.Keys.{names_in}
use Rattle.gate_netlist.specs.Inner.Stored.{told_by, statements_in}
use Rattle.gate_netlist.specs.declared.store.Stored.TheVariants as stored
use Rattle.gate_netlist.proofs.Resolving.{linked_more, linked_fault, linked_all, linked_said, is_resolved, within}
use Rattle.gate_netlist.proofs.Storing.{statement_at, made_at}
use Rattle.gate_netlist.proofs.reading.resolved.Goals as goal

pub numbers-requires : goal.numbers-requires
numbers-requires c = rw c.requires.named (within (statements_in c.args.statements.now) c.requires.said)

pub loop-place-init : goal.loop-place-init
loop-place-init c = rw (c.in_ok-definitions.ensures.items, c.new-marked.ensures.items, c.requires.named) (linked_said (statements_in c.args.statements.now))

pub returns-in-Err-clause-exact : goal.returns-in-Err-clause-exact
returns-in-Err-clause-exact c =
    let said = c.args.statements.now in
    let there : c.loop-place.place < length said.lines = omega (arith, c.loop-place-test.true, ap length c.lines-line-items.ensures) in
    let made = made_at (names_in c.args.names) said c.deref.result.now c.len-in-loop-place.result c.loop-place.place c.law.ensures there (c.deref.ensures.value ∙ c.in_ok-numbers.ensures) (c.len-in-loop-place.ensures.len ∙ sym (length-map c.args.names.keys string_bytes)) in
    rw c.fault_at.ensures (linked_fault (names_in c.args.names) (c.loop-place.place + 1) (told_by said.uses (get_or said.lines c.loop-place.place stored.Nothing)) (drop (c.loop-place.place + 1) (statements_in said)) c.loop-place.definitions.items c.loop-place.marked.items c.in-Err.cause _ (rw (c.lines-line-items.ensures, made) at c.in-Err.ensures) (rw (statement_at said c.loop-place.place there) at c.loop-place.invariant))

pub loop-place-preserved : goal.loop-place-preserved
loop-place-preserved c =
    let said = c.args.statements.now in
    let there : c.loop-place.place < length said.lines = omega (arith, c.loop-place-test.true, ap length c.lines-line-items.ensures) in
    let made = made_at (names_in c.args.names) said c.deref.result.now c.len-in-loop-place.result c.loop-place.place c.law.ensures there (c.deref.ensures.value ∙ c.in_ok-numbers.ensures) (c.len-in-loop-place.ensures.len ∙ sym (length-map c.args.names.keys string_bytes)) in
    rw (c.in_ok-push_definition-in-Ok.ensures, c.in_ok-push_output-in-Ok.ensures) (linked_more (names_in c.args.names) (c.loop-place.place + 1) (told_by said.uses (get_or said.lines c.loop-place.place stored.Nothing)) (drop (c.loop-place.place + 1) (statements_in said)) c.loop-place.definitions.items c.loop-place.marked.items c.in-Ok.definition c.in-Ok.output _ (rw (c.lines-line-items.ensures, made) at c.in-Ok.ensures) (rw (statement_at said c.loop-place.place there) at c.loop-place.invariant))

pub invariant_of-result : goal.invariant_of-result
invariant_of-result c =
    let ss : List Statement = statements_in c.args.statements.now in
    let past : length ss ≤ c.loop-place.place = omega (arith, c.loop-place-test.false, ap length c.lines-line-items.ensures, length-map c.args.statements.now.lines (told_by c.args.statements.now.uses)) in
    let all = linked_all (names_in c.args.names) (c.loop-place.place + 1) c.loop-place.definitions.items c.loop-place.marked.items _ (rw (drop_all c.loop-place.place ss past) at c.loop-place.invariant) in
    is_resolved ss _ c.requires.said (rw (c.in_ok-outputs.ensures, c.deref-2.ensures.value) all)

pub returns-clause-exact : goal.returns-clause-exact
returns-clause-exact c =
    let ss : List Statement = statements_in c.args.statements.now in
    let past : length ss ≤ c.loop-place.place = omega (arith, c.loop-place-test.false, ap length c.lines-line-items.ensures, length-map c.args.statements.now.lines (told_by c.args.statements.now.uses)) in
    let all = linked_all (names_in c.args.names) (c.loop-place.place + 1) c.loop-place.definitions.items c.loop-place.marked.items _ (rw (drop_all c.loop-place.place ss past) at c.loop-place.invariant) in
    rw (c.in_ok-outputs.ensures, c.deref-2.ensures.value) all

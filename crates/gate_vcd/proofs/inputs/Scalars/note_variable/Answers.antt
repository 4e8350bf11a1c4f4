use Rattle.std.proofs.Common.{◌∙◌, sym, ap, ℕ, List, Bor, option_map}
use Rattle.gate_netlist.specs.Circuit.{name_of}
use Rattle.gate_vcd.specs.Inner.Scalars.{source_at}
use Rattle.gate_vcd.proofs.InputLaws.{noted-plain, noted-short}
use Rattle.gate_vcd.proofs.inputs.Scalars.note_variable.Goals as goal

pub returns-in_default-clause-kept : goal.returns-in_default-clause-kept
returns-in_default-clause-kept c net l u =
    noted-plain c.args.variable.now (name_of c.args.circuit.now net) (source_at c.args.self.now.sources.items net) (source_at c.note.new.self.sources.items net) c.if-not-variable.false (sym c.is_single.ensures ∙ c.if-not-is_single.false) (rw (← c.as_slice-2.ensures.value) (sym c.without_index.ensures ∙ ap (option_map (λ (t : Bor (List ℕ)). t.now)) c.in_default.is)) (rw (← c.as_slice.ensures.value) (c.note.ensures.kept net l u))

pub returns-in-Some-clause-kept : goal.returns-in-Some-clause-kept
returns-in-Some-clause-kept c net l u =
    noted-short c.args.variable.now (name_of c.args.circuit.now net) c.in-Some.name.now (source_at c.args.self.now.sources.items net) (source_at c.note.new.self.sources.items net) (source_at c.note-in-Some.new.self.sources.items net) c.if-not-variable.false (sym c.is_single.ensures ∙ c.if-not-is_single.false) (rw (← c.as_slice-2.ensures.value) (sym c.without_index.ensures ∙ ap (option_map (λ (t : Bor (List ℕ)). t.now)) c.in-Some.is)) (rw (← c.as_slice.ensures.value) (c.note.ensures.kept net l u)) (c.note-in-Some.ensures.kept net l u)

use Rattle.std.proofs.Common.{◌≡◌, ◌∙◌, List, replicate, length, get_or, ap, refl, arith}
use Rattle.std.proofs.lemmas.List.{length-replicate, get_or-replicate}
use Rattle.gate_values.specs.declared.logic.Logic.{Logic}
use Rattle.gate_values.specs.declared.logic.Logic.TheVariants.{X}
use Rattle.gate_netlist.specs.Circuit.{nets_of}
use Rattle.vcd_dumps.proofs.Writing.{taken_none}
use Rattle.vcd_dumps.proofs.writer.Writer.new.Goals as goal

pub returns : goal.returns
returns c =
    let nets = c.nets.result in
    let count : nets ≡ nets_of c.args.circuit.now = c.nets.ensures.count in
    let within = c.nets.ensures.within in
    let blank : c.in_ok-firsts.firsts.items ≡ replicate nets X = c.in_ok-firsts.ensures.items_if_clones_equal (λ y e. e) in
    let head = rw (c.new-sink.ensures, c.new-lot.ensures) at c.put_header.ensures.text in
    taken_none _ _ (nets_of c.args.circuit.now) refl refl refl head
    (ap (λ (xs : List Logic). length xs) blank ∙ length-replicate {A = Logic} nets X ∙ count)
    (omega (arith, count, within))
    (λ n l. ap (λ (xs : List Logic). get_or xs n X) blank ∙ get_or-replicate {A = Logic} nets n X X (omega (arith, l, count)))

use Rattle.std.proofs.Common.{◌<◌, ◌∙◌, [], ap, length, get_or, arith}
use Rattle.std.proofs.lemmas.List.FromFn.{length-map-range_with_len, get_or-map-range_with_len}
use Rattle.gate_netlist.specs.Circuit.{nets_of, readers_of}
use Rattle.gate_netlist.specs.Held.{design_of}
use Rattle.gate_netlist.proofs.circuit.Circuit.readers.Goals as goal

pub get-requires : goal.get-requires
get-requires c =
    let within : c.args.net < nets_of (design_of c.self.inside) = rw (← c.self.view_is) at c.requires in
    omega (arith, within, ap length c.self.invariant.readers ∙ length-map-range_with_len (readers_of (design_of c.self.inside)) 0 (nets_of (design_of c.self.inside)))

pub returns : goal.returns
returns c =
    let within : c.args.net < nets_of (design_of c.self.inside) = rw (← c.self.view_is) at c.requires in
    rw (← c.self.view_is) (c.get.ensures ∙ ap (λ lists. get_or lists c.args.net []) c.self.invariant.readers
    ∙ get_or-map-range_with_len (readers_of (design_of c.self.inside)) 0 (nets_of (design_of c.self.inside)) c.args.net c.args.net [] within (omega arith))

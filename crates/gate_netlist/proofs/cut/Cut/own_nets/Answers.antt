use Rattle.std.proofs.Common.{◌<◌, ◌∙◌, [], ap, length, get_or, arith}
use Rattle.std.proofs.lemmas.List.FromFn.{length-map-range_with_len, get_or-map-range_with_len}
use Rattle.gate_netlist.specs.Cut.{own_nets}
use Rattle.gate_netlist.specs.HeldCut.{ownership_of}
use Rattle.gate_netlist.proofs.cut.Cut.own_nets.Goals as goal

pub get-requires : goal.get-requires
get-requires c =
    let within : c.args.block < c.self.inside.blocks = rw (← c.self.view_is) at c.requires in
    omega (arith, within, ap length c.self.invariant.own ∙ length-map-range_with_len (own_nets (ownership_of c.self.inside)) 0 c.self.inside.blocks)

pub returns : goal.returns
returns c =
    let within : c.args.block < c.self.inside.blocks = rw (← c.self.view_is) at c.requires in
    rw (← c.self.view_is) (c.get.ensures ∙ ap (λ lists. get_or lists c.args.block []) c.self.invariant.own
    ∙ get_or-map-range_with_len (own_nets (ownership_of c.self.inside)) 0 c.self.inside.blocks c.args.block c.args.block [] within (omega arith))

use Rattle.std.proofs.Common.{◌<◌, length, arith}
use Rattle.warp_gates.specs.Cells.{cell_at}
use Rattle.warp_gates.specs.Inner.Told.{data_of}
use Rattle.warp_gates.proofs.Loading.{data_within, told_loaded}
use Rattle.warp_gates.proofs.load.load_one.Goals as goal

pub returns-clause-told : goal.returns-clause-told
returns-clause-told c old first told may =
    let small : data_of (cell_at c.args.wiring.now c.args.flop) < length c.args.values.now = data_within (cell_at c.args.wiring.now c.args.flop) (length c.args.values.now) (c.requires.cells c.args.flop _ c.requires.within) c.requires.flop in
    let within : c.args.flop < length c.args.fronts.now = omega (arith, c.requires.within, c.requires.fronts) in
    told_loaded c.args.wiring.now c.args.values.now c.args.before c.args.after old c.args.fronts.now first c.args.puts.now.items c.put_out.new.puts.items c.args.flop _ c.put_out.new.front c.flip-content.result c.data-data.result _
    told within may c.data-data.ensures small c.flip-content.ensures c.put_out.ensures.front c.put_out.ensures.puts

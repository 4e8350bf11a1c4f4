use Rattle.std.proofs.Common.{arith}
use Rattle.std.proofs.lemmas.List.{length-map}
use Rattle.gate_vcd.specs.Inner.Known.{sources_in}
use Rattle.gate_vcd.specs.Shown.Known.{source}
use Rattle.gate_vcd.proofs.Holding.{held-digits, held-within}
use Rattle.gate_vcd.proofs.changes.take_digits.Goals as goal

pub index-had-requires : goal.index-had-requires
index-had-requires c =
    let (es, held) = c.requires.held in
    let within = held-within (sources_in c.args.codes.now) c.args.now c.args.code.now es c.args.taken.now.lists c.args.taken.now.given.items c.args.last c.requires.last held in
    omega (arith, within, c.args.taken.now.given.ok)

pub settle_code-requires : goal.settle_code-requires
settle_code-requires c =
    let (es, held) = c.requires.held in
    record {
      linked = c.requires.linked;
      count = omega (arith, held.lists.count, length-map c.args.codes.now.used.items source);
      last = c.requires.last;
    }

pub index_mut-requires : goal.index_mut-requires
index_mut-requires c =
    let (es, held) = c.requires.held in
    let within = held-within (sources_in c.args.codes.now) c.args.now c.args.code.now es c.args.taken.now.lists c.args.taken.now.given.items c.args.last c.requires.last held in
    omega (arith, within, c.args.taken.now.given.ok)

pub returns-clause-ok : goal.returns-clause-ok
returns-clause-ok c es held =
    held-digits (sources_in c.args.codes.now) c.args.now c.args.code.now c.index-had.result.now c.args.digits es c.args.taken.now.lists c.settle_code.new.lists c.args.taken.now.given.items c.args.last c.requires.last c.index-had.ensures held c.in_ok-settle_code.ensures.ok

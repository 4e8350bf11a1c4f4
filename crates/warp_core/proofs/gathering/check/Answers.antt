use Rattle.warp_core.specs.Matched.{IsBlockOf, EachBlock}
use Rattle.warp_core.proofs.gathering.check.Goals as goal

pub returns-clause-matched : goal.returns-clause-matched
returns-clause-matched g c d given horizon fits are =
    let cut = c.args.cut.now in
    let blocks = c.args.blocks.now in
    let parts : EachBlock cut blocks (IsBlockOf d cut horizon) = rw c.in-None.is at (c.other_part.ensures d given horizon blocks are) in
    record {
      count = c.requires.count;
      parts = parts;
      done = c.in-None-unfinished.ensures;
      settled = c.in-None-unsettled.ensures;
      told = rw c.in-None-untold.is at (c.untold.ensures d given horizon blocks are (record { fits = fits; parts = parts }));
    }

pub returns-in-Some-untold-clause-fault : goal.returns-in-Some-untold-clause-fault
returns-in-Some-untold-clause-fault g c d given horizon fits are =
    let cut = c.args.cut.now in
    let blocks = c.args.blocks.now in
    let parts : EachBlock cut blocks (IsBlockOf d cut horizon) = rw c.in-None.is at (c.other_part.ensures d given horizon blocks are) in
    let first = rw c.in-Some-untold.is at (c.untold.ensures d given horizon blocks are (record { fits = fits; parts = parts })) in
    (c.requires.count, parts, c.in-None-unfinished.ensures, c.in-None-unsettled.ensures, first.0, first.1)

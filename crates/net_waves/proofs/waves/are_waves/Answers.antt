use Rattle.std.proofs.Common.{rules}
use Rattle.net_waves.specs.Waves.{lists_in}
use Rattle.net_waves.proofs.Following.{list-at, waves-more}
use Rattle.net_waves.proofs.waves.are_waves.Goals as goal

pub returns-then-not-is_wave : goal.returns-then-not-is_wave
returns-then-not-is_wave c =
    let at = list-at c.args.lists.now c.loop-list.list-index c.list-item.result c.as_slice.result.now c.loop-list-test.true c.list-item.is c.as_slice.ensures.value in
    let refused = c.is_wave.ensures.1 in
    ((λ t. cc), λ waves. let passes = refused (rw at at (waves c.loop-list.list-index)) in search rules)

pub loop-list-preserved : goal.loop-list-preserved
loop-list-preserved c =
    let at = list-at c.args.lists.now c.loop-list.list-index c.list-item.result c.as_slice.result.now c.loop-list-test.true c.list-item.is c.as_slice.ensures.value in
    waves-more (lists_in c.args.lists.now) c.loop-list.list-index c.as_slice.result.now at (c.is_wave.ensures.0 (search rules)) c.loop-list.invariant

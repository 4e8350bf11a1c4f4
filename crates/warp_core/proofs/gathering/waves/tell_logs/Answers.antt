use Rattle.std.proofs.Common.{List, Vec, subst}
use Rattle.std.specs.declared.alloc.Global.{Global}
use Rattle.gate_values.specs.declared.logic.Change.{Change}
use Rattle.net_waves.specs.Stops.{AreStopsOf}
use Rattle.net_waves.specs.Waves.{lists_in}
use Rattle.warp_core.proofs.gathering.waves.tell_logs.Goals as goal

pub returns-clause-by_time : goal.returns-clause-by_time
returns-clause-by_time c =
    let given : AreStopsOf (lists_in c.args.lists.items) c.in_ok-given.given.items =
    subst (λ (lists : List (Vec Change Global)). AreStopsOf (lists_in lists) c.in_ok-given.given.items) c.as_slice.ensures.value c.in_ok-given.ensures.stops in
    c.in_ok-by_time.ensures (lists_in c.args.lists.items) (lists_in c.give_stories.new.lists.items) (rw c.as_slice-2.ensures.value given) c.in_ok-stories.ensures.told

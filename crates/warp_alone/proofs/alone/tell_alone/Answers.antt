use Rattle.std.proofs.Common.{◌≡◌, ◌∙◌, ◌+◌, List, Vec, length, ap, subst, arith}
use Rattle.std.specs.declared.alloc.Global.{Global}
use Rattle.std.proofs.lemmas.List.{length-map}
use Rattle.gate_values.specs.declared.logic.Change.{Change}
use Rattle.gate_netlist.specs.Cut.{Ownership}
use Rattle.net_waves.specs.Stops.{AreStopsOf}
use Rattle.net_waves.specs.Waves.{lists_in}
use Rattle.warp_part.specs.Portion.{Portion}
use Rattle.warp_part.specs.PartOf.{part_of}
use Rattle.warp_process.specs.Heard.{IsReceived}
use Rattle.warp_process.specs.Opening.{silent_view}
use Rattle.warp_process.specs.Played.{played_view}
use Rattle.part_engine.specs.Histories.{TellLogs}
use Rattle.warp_core.specs.OwnNets.{AreOwn}
use Rattle.warp_alone.proofs.Whole.{whole}
use Rattle.warp_alone.proofs.alone.tell_alone.Goals as goal

pub returns : goal.returns
returns g c =
    let d = c.args.circuit.now in
    let g = c.args.stimulus.now in
    let cut = c.in_ok-cut.cut in
    let horizon = c.args.horizon in
    let one : cut.blocks ≡ 1 = ap (λ (o : Ownership). o.blocks) c.in_ok-cut.ensures.even in
    let part : c.in_ok-part.part ≡ part_of d cut 0 = c.in_ok-part.ensures in
    let received : IsReceived (silent_view (part_of d cut 0) g horizon) = subst (λ (p : Portion). IsReceived (silent_view p g horizon)) part c.in_ok-played.ensures.received in
    let told : TellLogs (played_view (silent_view (part_of d cut 0) g horizon) (horizon + 1)) c.in_ok-played.played.history
    = subst (λ (p : Portion). TellLogs (played_view (silent_view p g horizon) (horizon + 1)) c.in_ok-played.played.history) part c.in_ok-played.ensures.told in
    let own : AreOwn (part_of d cut 0) c.in_ok-played.played.own.items = subst (λ (p : Portion). AreOwn p c.in_ok-played.played.own.items) part c.in_ok-played.ensures.own in
    let lists = c.in_ok-lists.lists in
    let given = c.in_ok-lists.ensures in
    let nets : length (lists_in lists.items) ≡ c.nets.result = length-map lists.items (λ (v : Vec Change Global). v.items) ∙ (omega (arith, given.nets, lists.ok.0)) in
    let step : AreStopsOf (lists_in lists.items) c.in_ok-given.given.items = subst (λ (vs : List (Vec Change Global)). AreStopsOf (lists_in vs) c.in_ok-given.given.items) c.as_slice.ensures.value c.in_ok-given.ensures.stops in
    λ done.
    (let all = c.in_ok-done.ensures done in (
      all.0,
      all.1,
      whole d cut g horizon c.in_ok-cut.ensures.fits c.law.ensures one c.requires.stimulus c.law-2.ensures c.requires.horizon received (lists_in lists.items) (nets ∙ c.nets.ensures.count)
          (λ n l. given.given n (let same = c.nets.ensures.count in omega (arith, l, same))) (λ n l. given.none n (let same = c.nets.ensures.count in omega (arith, l, same)))
          c.in_ok-played.played.own.items own c.in_ok-played.played.history told c.in_ok-given.given.items step all.0
          (rw c.as_slice-2.ensures.value at (rw c.as_slice-3.ensures.value at all.2)),
    ))

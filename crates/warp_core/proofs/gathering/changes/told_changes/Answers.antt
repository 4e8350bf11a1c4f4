use Rattle.std.proofs.Common.{◌≡◌, ◌<◌, ◌∙◌, ℕ, Option, Some, None, IfSome, List, Vec, length, ap, subst, arith}
use Rattle.std.specs.declared.alloc.Global.{Global}
use Rattle.std.proofs.lemmas.List.{length-map}
use Rattle.gate_values.specs.declared.logic.Change.{Change}
use Rattle.gate_values.specs.Changes.{pair_at}
use Rattle.gate_netlist.specs.Circuit.{nets_of}
use Rattle.net_waves.specs.declared.by_time.ByTime.{ByTime}
use Rattle.net_waves.specs.ByTime.{stops_in}
use Rattle.net_waves.specs.Stops.{marked, AreStopsOf}
use Rattle.net_waves.specs.Waves.{lists_in, wave_of}
use Rattle.history_waves.specs.Stories.{Telling, AreAll}
use Rattle.warp_core.specs.Inner.Gather.{AreStories}
use Rattle.warp_core.specs.Matched.{told_of}
use Rattle.warp_core.proofs.GivenLogs.{blocks_apart, none_given, waves_after}
use Rattle.warp_core.proofs.Histories.{stories_more}
use Rattle.warp_core.proofs.gathering.changes.told_changes.Goals as goal

pub returns : goal.returns
returns g c = each c.in_ok-all.all c.in_ok-all.ensures
  where
    before : List (List Change)
    before = lists_in c.in_ok-lists.lists.items

    nets : length before ≡ nets_of c.args.circuit.now
    nets = length-map c.in_ok-lists.lists.items (λ (v : Vec Change Global). v.items) ∙ (omega (arith, c.in_ok-lists.lists.ok.0, c.in_ok-lists.ensures.nets, c.nets.ensures.count))

    given : AreStopsOf before c.in_ok-given.given.items
    given = subst (λ (lists : List (Vec Change Global)). AreStopsOf (lists_in lists) c.in_ok-given.given.items) c.as_slice.ensures.value c.in_ok-given.ensures.stops

    stories : AreStories c.args.blocks.items c.in-Some.stories.items
    stories = subst (λ (o : Option (Vec Telling Global)). IfSome o (λ told. AreStories c.args.blocks.items told.items)) c.in-Some.is c.in_ok-stories.ensures

    each : (all : Option ByTime) → IfSome all (λ by_time. AreAll c.as_slice-2.result.now c.in-Some.stories.items (stops_in by_time))
        → IfSome all (λ by_time. (waves : List (List Change)) → length waves ≡ nets_of c.args.circuit.now
        → ((n : ℕ) → n < nets_of c.args.circuit.now → wave_of waves n ≡ told_of c.args.cut.now c.args.stimulus.now c.args.horizon c.args.blocks.items n) → AreStopsOf waves (stops_in by_time))
    each None all = tt
    each (Some by_time) all = λ waves many are s.
        let same = waves_after c.args.circuit.now c.args.cut.now c.args.stimulus.now c.args.horizon c.args.blocks.items c.requires.cut c.law.ensures c.requires.count c.requires.parts
        before waves nets many (λ n l. c.in_ok-lists.ensures.given n (omega (arith, l, c.nets.ensures.count))) are s.net in
        let apart = blocks_apart c.args.circuit.now c.args.cut.now c.args.stimulus.now c.args.horizon c.args.blocks.items c.requires.cut c.law.ensures c.requires.count c.requires.parts in
        let none = none_given c.args.circuit.now c.args.cut.now c.args.stimulus.now c.args.horizon c.args.blocks.items c.requires.cut c.law.ensures c.requires.count c.requires.parts
        before nets (λ n l. c.in_ok-lists.ensures.none n (omega (arith, l, c.nets.ensures.count))) in
        let more = stories_more c.args.blocks.items c.in-Some.stories.items stories apart (wave_of before) none s in
        let is = ap (λ (cs : List Change). marked s.value (pair_at cs s.time)) same in
        let stops = rw c.as_slice-2.ensures.value at all s in
        omega (arith, stops, given s, more, is)

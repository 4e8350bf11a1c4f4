use Rattle.std.proofs.Common.{◌≡◌, sym, ◌∙◌, length, arith}
use Rattle.std.proofs.lemmas.List.{nil_from_length}
use Rattle.gate_vcd.specs.Inner.Bundles.{with_stops}
use Rattle.net_waves.specs.Waves.{lists_in}
use Rattle.gate_vcd.proofs.Bundling.{last-taken-in, none-left}
use Rattle.gate_vcd.proofs.bundles.Bundles.into_lists.Goals as goal

pub loop-stops-preserved : goal.loop-stops-preserved
loop-stops-preserved c =
    let count : c.len.result ≡ length c.pop.new.self.items = grind (arith, c.len.ensures) in
    let put : lists_in c.settle_stops.new.lists.items ≡ with_stops (length c.pop.new.self.items) c.in-Some.stops.items (lists_in c.loop-stops.lists.items) = rw (← count, ← c.as_slice.ensures.value) c.in_ok-settle_stops.ensures.ok in
    last-taken-in c.loop-stops.waiting.items c.pop.new.self.items c.in-Some.stops c.loop-stops.lists.items c.settle_stops.new.lists.items c.in-Some.ensures.items put ∙ c.loop-stops.invariant

pub returns-clause-ok : goal.returns-clause-ok
returns-clause-ok c =
    let gone = c.in_default.ensures.cases.0 in
    let none : length c.loop-stops.waiting.items ≡ 0 = grind (arith, gone) in
    sym (none-left c.loop-stops.waiting.items c.loop-stops.lists.items (nil_from_length c.loop-stops.waiting.items none)) ∙ (c.loop-stops.invariant ∙ c.self.view_is)

use Rattle.std.proofs.Common.{◌<◌, ◌/◌, ◌∙◌, List, length, ap, subst, sym, arith}
use Rattle.gate_values.specs.declared.logic.Change.{Change}
use Rattle.gate_vcd.specs.Inner.Bundles.{with_stops}
use Rattle.net_waves.specs.Waves.{lists_in}
use Rattle.gate_vcd.proofs.Bundling.{bundle-stands, listed-in, taken-in, waited-in}
use Rattle.gate_vcd.proofs.bundles.Bundles.settle.Goals as goal

pub wait-requires-clause-within : goal.wait-requires-clause-within
wait-requires-clause-within c =
    let listed : c.args.number < length c.self.inside.lists.items = listed-in c.self.inside.waiting.items c.self.inside.lists.items c.args.number (subst (λ (css : List (List Change)). c.args.number < length css) (sym c.self.view_is) c.requires) in
    let within : c.args.number / 256 < length c.self.inside.waiting.items = bundle-stands c.args.number (length c.self.inside.lists.items) (length c.self.inside.waiting.items) listed c.self.invariant.bundles in
    within

pub wait-requires-clause-small : goal.wait-requires-clause-small
wait-requires-clause-small c =
    let listed : c.args.number < length c.self.inside.lists.items = listed-in c.self.inside.waiting.items c.self.inside.lists.items c.args.number (subst (λ (css : List (List Change)). c.args.number < length css) (sym c.self.view_is) c.requires) in
    omega (arith, listed, c.self.invariant.few)

pub index-requires : goal.index-requires
index-requires c =
    let listed : c.args.number < length c.self.inside.lists.items = listed-in c.self.inside.waiting.items c.self.inside.lists.items c.args.number (subst (λ (css : List (List Change)). c.args.number < length css) (sym c.self.view_is) c.requires) in
    let within : c.args.number / 256 < length c.self.inside.waiting.items = bundle-stands c.args.number (length c.self.inside.lists.items) (length c.self.inside.waiting.items) listed c.self.invariant.bundles in
    omega (arith, within, c.wait.ensures.length, c.wait.new.waiting.ok)

pub returns-then-len-lt-MOST-clause-ok : goal.returns-then-len-lt-MOST-clause-ok
returns-then-len-lt-MOST-clause-ok c =
    let listed : c.args.number < length c.self.inside.lists.items = listed-in c.self.inside.waiting.items c.self.inside.lists.items c.args.number (subst (λ (css : List (List Change)). c.args.number < length css) (sym c.self.view_is) c.requires) in
    let within : c.args.number / 256 < length c.self.inside.waiting.items = bundle-stands c.args.number (length c.self.inside.lists.items) (length c.self.inside.waiting.items) listed c.self.invariant.bundles in
    rw (← c.self.view_is) (waited-in c.self.inside.waiting.items c.wait.new.waiting.items c.self.inside.lists.items c.args.number c.args.change listed within c.in_ok-wait.ensures.ok)

pub index-requires-2 : goal.index-requires-2
index-requires-2 c =
    let listed : c.args.number < length c.self.inside.lists.items = listed-in c.self.inside.waiting.items c.self.inside.lists.items c.args.number (subst (λ (css : List (List Change)). c.args.number < length css) (sym c.self.view_is) c.requires) in
    let within : c.args.number / 256 < length c.self.inside.waiting.items = bundle-stands c.args.number (length c.self.inside.lists.items) (length c.self.inside.waiting.items) listed c.self.invariant.bundles in
    omega (arith, within, c.wait.ensures.length, c.wait.new.waiting.ok)

pub index_mut-requires : goal.index_mut-requires
index_mut-requires c =
    let listed : c.args.number < length c.self.inside.lists.items = listed-in c.self.inside.waiting.items c.self.inside.lists.items c.args.number (subst (λ (css : List (List Change)). c.args.number < length css) (sym c.self.view_is) c.requires) in
    let within : c.args.number / 256 < length c.self.inside.waiting.items = bundle-stands c.args.number (length c.self.inside.lists.items) (length c.self.inside.waiting.items) listed c.self.invariant.bundles in
    omega (arith, within, c.wait.ensures.length, c.wait.new.waiting.ok)

pub returns-clause-ok : goal.returns-clause-ok
returns-clause-ok c =
    let listed : c.args.number < length c.self.inside.lists.items = listed-in c.self.inside.waiting.items c.self.inside.lists.items c.args.number (subst (λ (css : List (List Change)). c.args.number < length css) (sym c.self.view_is) c.requires) in
    let within : c.args.number / 256 < length c.self.inside.waiting.items = bundle-stands c.args.number (length c.self.inside.lists.items) (length c.self.inside.waiting.items) listed c.self.invariant.bundles in
    let own : c.args.number / 256 < length c.wait.new.waiting.items = omega (arith, within, c.wait.ensures.length) in
    let put = c.in_ok-settle_stops.ensures.ok ∙ ap (λ ss. with_stops (c.args.number / 256) ss (lists_in c.self.inside.lists.items)) c.as_slice.ensures.value in
    rw (← c.self.view_is)
    (taken-in c.wait.new.waiting.items c.self.inside.lists.items c.settle_stops.new.lists.items (c.args.number / 256) c.index-2.result.now c.clear.new.self own c.index-2.ensures c.clear.ensures.items put
    ∙ waited-in c.self.inside.waiting.items c.wait.new.waiting.items c.self.inside.lists.items c.args.number c.args.change listed within c.in_ok-wait.ensures.ok)

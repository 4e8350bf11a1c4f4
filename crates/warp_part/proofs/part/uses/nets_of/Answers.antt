use Rattle.std.proofs.Common.{◌∙◌}
use Rattle.warp_part.proofs.PartWhole.{map_same}
use Rattle.warp_part.proofs.PartNoted.{AreApart-notes, nets_merged}
use Rattle.warp_part.proofs.part.uses.nets_of.Goals as goal

pub merged-requires-clause-apart : goal.merged-requires-clause-apart
merged-requires-clause-apart c =
    let own = c.own_nets-own.ensures in
    let lawful = rw own at c.in_ok-others.ensures.lawful in
    rw (own, c.deref.ensures.value, c.deref-2.ensures.value)
    (AreApart-notes c.args.cut.now c.args.block c.uses_of.new.marks.items c.in_ok-others.others.items c.in_ok-others.ensures.rising lawful)

pub returns-clause-nets : goal.returns-clause-nets
returns-clause-nets c =
    let own = c.own_nets-own.ensures in
    let used = rw own at c.in_ok-others.ensures.noted in
    let m = rw (own, c.deref.ensures.value, c.deref-2.ensures.value) at c.in_ok-nets.ensures in
    nets_merged c.args.cut.now c.args.block c.args.circuit.now c.law.ensures c.requires.fits c.uses_of.new.marks.items c.in_ok-others.others.items used c.in_ok-nets.nets.items c.merged.new.used.items m

pub returns-clause-used : goal.returns-clause-used
returns-clause-used c =
    let own = c.own_nets-own.ensures in
    let used = rw own at c.in_ok-others.ensures.noted in
    let m = rw (own, c.deref.ensures.value, c.deref-2.ensures.value) at c.in_ok-nets.ensures in
    m.told ∙ map_same used c.in_ok-nets.nets.items

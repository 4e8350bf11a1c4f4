use Rattle.std.proofs.Common.{◌++◌, ◌∙◌, ap, map}
use Rattle.net_waves.specs.Timeline.{stop_by}
use Rattle.net_waves.specs.Keys.{stops_of_keys}
use Rattle.net_waves.proofs.Appending.{keys-kept, keys-told}
use Rattle.net_waves.proofs.keyed.Keyed.append_all.Goals as goal

pub invariant_of-self-2 : goal.invariant_of-self-2
invariant_of-self-2 c =
    keys-kept c.push_all.result c.self.inside.keys.items c.reserve.new.self.items c.as_slice.result.now c.push_all.new.keys.items c.args.time c.next_place-first.result c.args.moves.now c.self.invariant c.reserve.ensures.items c.as_slice.ensures.value c.next_place-first.ensures c.push_all.ensures.pushed c.push_all.ensures.rising c.push_all.ensures.stays

pub returns-clause-appended : goal.returns-clause-appended
returns-clause-appended c done =
    keys-told c.push_all.result c.self.inside.keys.items c.reserve.new.self.items c.as_slice.result.now c.push_all.new.keys.items c.args.time c.next_place-first.result c.args.moves.now c.reserve.ensures.items c.push_all.ensures.pushed c.push_all.ensures.rising done ∙ ap (λ ks. stops_of_keys ks ++ map (stop_by c.args.time) c.args.moves.now) c.self.view_is

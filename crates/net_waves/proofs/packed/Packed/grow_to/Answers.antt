use Rattle.std.proofs.Common.{◌≡◌, ◌+◌, arith, is_ok}
use Rattle.std.specs.Vec.{vec_len}
use Rattle.net_waves.specs.Packed.{IsPacked, packed_of, all_told}
use Rattle.net_waves.proofs.Appending.{resized}
use Rattle.net_waves.proofs.packed.Packed.grow_to.Goals as goal

grew : (c : goal.After-resize) → IsPacked (record { bounds = c.resize.new.self.items; words = c.reserve.new.self.items }) × (all_told (record { bounds = c.resize.new.self.items; words = c.reserve.new.self.items }) ≡ all_told c.args.self.now)
grew c =
    let inside = c.self.inside in
    resized (is_ok c.resize.result) (packed_of inside) c.reserve.new.self.items c.resize.new.self.items (vec_len inside.bounds) (c.args.many + 1) c.len-end.result c.args.more c.args.self.now c.self.view_is c.reserve.ensures.items (omega (arith, inside.bounds.ok.0)) (omega (arith, c.len-end.ensures, c.reserve.new.self.ok.0)) c.resize.ensures.items c.self.invariant c.requires.open (omega (arith, c.requires.later))

pub invariant_of-self-2 : goal.invariant_of-self-2
invariant_of-self-2 c = (grew c).0

pub returns-clause-told : goal.returns-clause-told
returns-clause-told c = (grew c).1

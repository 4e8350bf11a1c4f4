use Rattle.std.proofs.Common.{◌≡◌, ◌-◌, ◌++◌, map, arith, rules}
use Rattle.std.proofs.Math.ListN.{set}
use Rattle.net_waves.specs.Packed.{IsPacked, packed_of, told, all_told, times}
use Rattle.net_waves.proofs.Joining.{extended}
use Rattle.net_waves.proofs.packed.Packed.extend_last.Goals as goal

grew : (c : goal.After-self-1) → IsPacked (record { bounds = set c.self.inside.bounds.items (c.len-last.result - 1) c.len.result; words = c.extend_from_slice.new.self.items }) × (all_told (record { bounds = set c.self.inside.bounds.items (c.len-last.result - 1) c.len.result; words = c.extend_from_slice.new.self.items }) ≡ all_told c.args.self.now ++ map (told (times c.args.self.now - 1)) c.args.words.now)
grew c =
    let inside = c.self.inside in
    let words : c.extend_from_slice.new.self.items ≡ inside.words.items ++ c.args.words.now = search rules in
    extended (packed_of inside) c.extend_from_slice.new.self.items c.args.words.now (c.len-last.result - 1) c.len.result c.args.self.now c.self.view_is (omega (arith, c.len-last.ensures, inside.bounds.ok.0)) (omega (arith, c.len.ensures, c.extend_from_slice.new.self.ok.0)) words c.self.invariant c.requires.open c.requires.some c.requires.early c.requires.rising

pub invariant_of-self-2 : goal.invariant_of-self-2
invariant_of-self-2 c = (grew c).0

pub returns-clause-appended : goal.returns-clause-appended
returns-clause-appended c = (grew c).1

use Rattle.std.proofs.Common.{◌≡◌, ◌-◌, ◌++◌, ◌∙◌, ap, map, refl, arith}
use Rattle.std.proofs.Math.ListN.{set}
use Rattle.net_waves.specs.Timeline.{stop_by}
use Rattle.net_waves.specs.Packed.{IsPacked, packed_of, all_told, times}
use Rattle.net_waves.specs.Inner.Packed.{word_by}
use Rattle.net_waves.proofs.Appending.{pushed}
use Rattle.net_waves.proofs.packed.Packed.push_words.Goals as goal

grew : (c : goal.After-self-1) → IsPacked (record { bounds = set c.self.inside.bounds.items (c.len-last.result - 1) c.len.result; words = c.push_all.new.words.items }) × (all_told (record { bounds = set c.self.inside.bounds.items (c.len-last.result - 1) c.len.result; words = c.push_all.new.words.items }) ≡ all_told c.args.self.now ++ map (stop_by (times c.args.self.now - 1)) c.args.moves.now)
grew c =
    let inside = c.self.inside in
    let words : c.push_all.new.words.items ≡ inside.words.items ++ map word_by c.args.moves.now = c.if-not-push_all.ensures.pushed refl ∙ ap (λ vs. vs ++ map word_by c.args.moves.now) c.reserve.ensures.items in
    pushed (packed_of inside) c.push_all.new.words.items c.args.moves.now (c.len-last.result - 1) c.len.result c.args.self.now c.self.view_is (omega (arith, c.len-last.ensures, inside.bounds.ok.0)) (omega (arith, c.len.ensures, c.push_all.new.words.ok.0)) words (c.if-not-push_all.ensures.rising refl) c.self.invariant c.requires.open c.requires.some c.requires.early

pub invariant_of-self-2 : goal.invariant_of-self-2
invariant_of-self-2 c = (grew c).0

pub returns-clause-appended : goal.returns-clause-appended
returns-clause-appended c done = (grew c).1

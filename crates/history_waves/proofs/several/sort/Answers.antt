use Rattle.std.proofs.Common.{map, arith}
use Rattle.std.proofs.lemmas.List.Sorted.{IsPermutation-map}
use Rattle.net_waves.specs.Timeline.{stop_by}
use Rattle.net_waves.proofs.Counting.{count-permuted}
use Rattle.history_waves.proofs.several.sort.Goals as goal

pub returns : goal.returns
returns c s =
    let moves = c.args.moves.now in
    let sorted = c.sort_unstable_by_key.new.self in
    let same = count-permuted s (map (stop_by c.args.time) moves) (map (stop_by c.args.time) sorted) (IsPermutation-map (stop_by c.args.time) moves sorted c.sort_unstable_by_key.ensures.permutation) in
    omega (arith, same)

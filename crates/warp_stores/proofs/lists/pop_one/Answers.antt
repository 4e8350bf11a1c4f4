use Rattle.std.proofs.Common.{◌≡◌, length, arith, vec_len}
use Rattle.warp_stores.proofs.Listing.{shorter_pop}
use Rattle.warp_stores.proofs.lists.pop_one.Goals as goal

pub returns : goal.returns
returns c =
    let len : vec_len c.index_mut.result.now ≡ length c.index_mut.result.now.items = omega arith in
    shorter_pop c.args.word c.args.lists.now.items c.place-place.result (vec_len c.index_mut.result.now) c.index_mut.result.now c.pop.new.self c.place-place.ensures.place c.requires c.index_mut.ensures.value len c.pop.ensures.rest

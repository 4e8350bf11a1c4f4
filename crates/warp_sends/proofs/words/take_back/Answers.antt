use Rattle.std.proofs.Common.{◌≡◌, ◌++◌, List, map, subst}
use Rattle.std.specs.List.{flat_map}
use Rattle.std.proofs.lemmas.Result.{on_ok_weaker}
use Rattle.warp_process.specs.declared.message.Sign.TheVariants.{Minus}
use Rattle.warp_sends.specs.Told.{told_of}
use Rattle.warp_sends.specs.declared.telling.Telling.{Telling}
use Rattle.warp_sends.specs.Inner.Tellings.{word_of}
use Rattle.warp_sends.proofs.Ordered.{told_within, are_told}
use Rattle.warp_sends.proofs.words.take_back.Goals as goal

pub send_all-requires : goal.send_all-requires
send_all-requires c =
    rw c.as_slice.ensures.value (told_within c.args.part.now c.args.batch.now c.in_ok-told.told.items c.sort_by_place.new.told.items c.requires c.in_ok-told.ensures c.sort_by_place.ensures.same)

pub returns-clause-ok : goal.returns-clause-ok
returns-clause-ok c =
    on_ok_weaker c.send_all.result
    (λ (told : c.send_all.new.out.items ≡ c.args.out.now.items ++ flat_map (told_of Minus c.args.part.now) (map word_of c.as_slice.result.now)). are_told Minus c.args.part.now c.args.batch.now c.in_ok-told.told.items c.sort_by_place.new.told.items c.args.out.now.items c.send_all.new.out.items c.in_ok-told.ensures c.sort_by_place.ensures.same
    (subst (λ (ts : List Telling). c.send_all.new.out.items ≡ c.args.out.now.items ++ flat_map (told_of Minus c.args.part.now) (map word_of ts)) c.as_slice.ensures.value told)) c.send_all.ensures.ok

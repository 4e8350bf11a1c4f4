use Rattle.std.proofs.Common.{◌∙◌, ◌<◌, length, map, ap, sym}
use Rattle.std.proofs.lemmas.List.Elements.{All-map}
use Rattle.warp_stores.specs.Words.{Move}
use Rattle.warp_stores.specs.Dated.{Dated}
use Rattle.warp_sends.specs.Inner.Tellings.{word_of}
use Rattle.warp_sends.proofs.Ordered.{none_told}
use Rattle.warp_sends.proofs.telling.tellings.Goals as goal

pub have_readers-requires : goal.have_readers-requires
have_readers-requires c = rw c.words-words.ensures (All-map (λ (w : Move). w.place < length c.args.part.now.nets) (λ (d : Dated Move). d.1) c.args.batch.now c.requires)

pub count_read-requires : goal.count_read-requires
count_read-requires c = rw c.words-words.ensures (All-map (λ (w : Move). w.place < length c.args.part.now.nets) (λ (d : Dated Move). d.1) c.args.batch.now c.requires)

pub returns-then-not-have_readers : goal.returns-then-not-have_readers
returns-then-not-have_readers c =
    ap (map word_of) c.new.ensures.items ∙ sym (none_told c.args.part.now c.args.batch.now c.words-words.result.now c.have_readers.result c.words-words.ensures c.have_readers.ensures c.if-not-have_readers.true)

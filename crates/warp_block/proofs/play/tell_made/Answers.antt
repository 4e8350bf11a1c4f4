use Rattle.std.proofs.Common.{◌<◌, length, sym, subst}
use Rattle.std.specs.List.{All}
use Rattle.warp_stores.specs.Words.{Move}
use Rattle.warp_stores.specs.Dated.{Dated}
use Rattle.warp_part.specs.Portion.{Portion}
use Rattle.warp_block.proofs.Stepping.{batch_there}
use Rattle.warp_block.proofs.play.tell_made.Goals as goal

pub tell-requires : goal.tell-requires
tell-requires c =
    subst (λ (p : Portion). All (λ (d : Dated Move). d.1.place < length p.nets) c.tell_since.new.batch) (sym c.part.ensures)
    (batch_there c.args.heard.now c.args.engine.now c.args.times.now c.requires.at c.args.time c.tell_since.new.batch c.in_ok-tell_since.ensures)

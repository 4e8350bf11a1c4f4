use Rattle.std.proofs.Common.{◌<◌, ℕ, List, length, sym, subst}
use Rattle.std.specs.List.{All}
use Rattle.warp_stores.specs.Words.{Move}
use Rattle.warp_stores.specs.Dated.{undated}
use Rattle.warp_stores.specs.Lists.{AreShorter}
use Rattle.warp_block.proofs.Shortening.{all_undated}
use Rattle.warp_block.proofs.Reading.{have_shorter}
use Rattle.warp_block.proofs.logs.ReadLogsLogs.shorten.Goals as goal

pub shorten-requires : goal.shorten-requires
shorten-requires c =
    subst (λ (ws : List Move). All (λ (w : Move). w.place < length c.args.self.now.lists) ws) (sym c.words.ensures)
    (subst (λ (n : ℕ). All (λ (w : Move). w.place < n) (undated c.args.batch.now)) (sym c.requires.kept.2.many) (all_undated (length c.args.part.now.nets) c.args.batch.now c.requires.there))

pub returns : goal.returns
returns c less logs many kept longer =
    have_shorter c.args.part.now c.law.ensures c.args.batch.now less logs c.args.self.now.lists c.shorten.new.self many kept longer
    (subst (λ (ws : List Move). AreShorter ws c.args.self.now.lists c.shorten.new.self) c.words.ensures c.shorten.ensures)

use Rattle.std.proofs.Common.{◌≡◌, ◌∙◌, ◌<◌, ℕ, List, length, ap, sym, subst}
use Rattle.std.specs.List.{All}
use Rattle.gate_values.specs.declared.logic.Change.{Change}
use Rattle.warp_stores.specs.Words.{Move}
use Rattle.warp_stores.specs.Dated.{undated}
use Rattle.warp_stores.specs.Lists.{AreShorter}
use Rattle.warp_block.proofs.Shortening.{logs_left, all_undated}
use Rattle.warp_block.proofs.logs.AllLogsLogs.shorten.Goals as goal

pub shorten-requires : goal.shorten-requires
shorten-requires c =
    let many : length c.args.self.now.lists ≡ length c.args._part.now.nets = ap length c.requires.kept.2 ∙ c.requires.kept.1 in
    subst (λ (ws : List Move). All (λ (w : Move). w.place < length c.args.self.now.lists) ws) (sym c.words.ensures)
    (subst (λ (n : ℕ). All (λ (w : Move). w.place < n) (undated c.args.batch.now)) (sym many) (all_undated (length c.args._part.now.nets) c.args.batch.now c.requires.there))

pub returns : goal.returns
returns c less logs many kept longer =
    logs_left c.args.batch.now less logs c.shorten.new.self longer
    (subst (λ (ls : List (List Change)). AreShorter (undated c.args.batch.now) ls c.shorten.new.self) kept
    (subst (λ (ws : List Move). AreShorter ws c.args.self.now.lists c.shorten.new.self) c.words.ensures c.shorten.ensures))

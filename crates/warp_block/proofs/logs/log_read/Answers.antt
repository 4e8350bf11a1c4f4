use Rattle.std.proofs.Common.{◌≡◌, ◌∙◌, ◌<◌, ℕ, false, List, length, sym, subst}
use Rattle.std.specs.List.{All, filter, list_any}
use Rattle.warp_stores.specs.Words.{Move}
use Rattle.warp_stores.specs.Dated.{Dated}
use Rattle.warp_stores.specs.Lists.{AreLonger}
use Rattle.warp_engine.proofs.Running.{on_ok}
use Rattle.warp_part.specs.Portion.{Portion}
use Rattle.warp_block.specs.Reads.{is_read}
use Rattle.warp_block.specs.Inner.Reads.{AreReadLonger}
use Rattle.warp_block.proofs.Shortening.{all_undated}
use Rattle.warp_block.proofs.Reading.{read_longer, read_same, all_kept}
use Rattle.warp_block.proofs.logs.log_read.Goals as goal

pub have_readers-requires : goal.have_readers-requires
have_readers-requires c =
    subst (λ (ws : List Move). All (λ (w : Move). w.place < length c.args.part.now.nets) ws) (sym c.words.ensures) (all_undated (length c.args.part.now.nets) c.args.batch.now c.requires.there)

pub returns-then-not-have_readers-clause-ok : goal.returns-then-not-have_readers-clause-ok
returns-then-not-have_readers-clause-ok c =
    let p : Portion = c.args.part.now in
    read_same p c.args.batch.now c.args.lists.now
    (subst (λ (ws : List Move). list_any (λ (w : Move). is_read p w.place) ws ≡ false) c.words.ensures (sym c.have_readers.ensures ∙ c.if-not-have_readers.true))

pub log_more-requires : goal.log_more-requires
log_more-requires c =
    let p : Portion = c.args.part.now in
    let kept : All (λ (d : Dated Move). d.1.place < length p.nets) (filter (λ (d : Dated Move). is_read p d.1.place) c.args.batch.now) = all_kept (length p.nets) (is_read p) c.args.batch.now c.requires.there in
    subst (λ (ds : List (Dated Move)). All (λ (d : Dated Move). d.1.place < length c.args.lists.now) ds) (sym c.in_ok-select_read.ensures)
    (subst (λ (n : ℕ). All (λ (d : Dated Move). d.1.place < n) (filter (λ (d : Dated Move). is_read p d.1.place) c.args.batch.now)) (sym c.requires.many) kept)

pub returns-clause-ok : goal.returns-clause-ok
returns-clause-ok c =
    let p : Portion = c.args.part.now in
    on_ok c.log_more.result (AreLonger c.select_read.new.read c.args.lists.now c.log_more.new.lists) (AreReadLonger p c.args.batch.now c.args.lists.now c.log_more.new.lists)
    (λ longer. read_longer p c.law.ensures c.args.batch.now c.args.lists.now c.log_more.new.lists c.requires.many
    (subst (λ (ds : List (Dated Move)). AreLonger ds c.args.lists.now c.log_more.new.lists) c.in_ok-select_read.ensures longer)) c.log_more.ensures.ok

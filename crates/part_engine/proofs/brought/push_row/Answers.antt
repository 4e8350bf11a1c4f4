use Rattle.std.proofs.Common.{◌≡◌, ◌<◌, ◌∙◌, ◌++◌, ℕ, List, [], ◌∷◌, length, take, get_or, ap, sym, subst}
use Rattle.std.specs.List.{flat_map}
use Rattle.std.proofs.lemmas.List.{flat_map_more, take_more}
use Rattle.warp_stores.specs.Words.{Move}
use Rattle.warp_process.specs.Rows.{Standing}
use Rattle.part_engine.specs.Inner.Bringing.{standing_move}
use Rattle.part_engine.proofs.brought.push_row.Goals as goal

pub push_placed-requires-clause-within : goal.push_placed-requires-clause-within
push_placed-requires-clause-within c = subst (λ (s : Standing). s.place < length c.args.heard.now.part.nets) (sym c.placed-item.is) (c.requires.within c.loop-placed.placed-index c.placed-item.result c.loop-placed-test.true)

pub loop-placed-preserved : goal.loop-placed-preserved
loop-placed-preserved c =
    let move : Standing → List Move = standing_move c.args.engine.now.book.gates.values in
    let s : Standing = c.placed-item.result in
    c.in_ok-push_placed.ensures
    ∙ ap (λ (ws : List Move). ws ++ move s) c.loop-placed.invariant
    ∙ flat_map_more move c.args.words.now.items (take c.loop-placed.placed-index c.args.row.now) s
    ∙ ap (λ (ss : List Standing). c.args.words.now.items ++ flat_map move ss) (ap (λ (x : Standing). take c.loop-placed.placed-index c.args.row.now ++ x ∷ []) c.placed-item.is ∙ sym (take_more c.args.row.now c.loop-placed.placed-index s c.loop-placed-test.true))

use Rattle.std.proofs.Common.{◌≡◌, ◌∙◌, ℕ, ◌+◌, ◌<◌, List, [], ◌∷◌, ◌++◌, length, map, take, get_or, ap, sym}
use Rattle.std.proofs.lemmas.List.{map-append, take_all, take_more}
use Rattle.gate_values.specs.declared.logic.Logic.{Logic}
use Rattle.warp_part.specs.declared.cell.Cell.{Cell}
use Rattle.warp_part.specs.Inner.Wired.{begun}
use Rattle.warp_part.proofs.part.wiring.contents_of.Goals as goal

-- a cell's content more
begun_more : (cells : List Cell) (i : ℕ) (d : Cell) (v : Logic) (xs ys : List Logic) → i < length cells → v ≡ begun (get_or cells i d) → xs ≡ map begun (take i cells) → ys ≡ xs ++ v ∷ [] → ys ≡ map begun (take (i + 1) cells)
begun_more cells i d v xs ys l is was e =
    let more : map begun (take (i + 1) cells) ≡ map begun (take i cells) ++ begun (get_or cells i d) ∷ [] = ap (map begun) (take_more cells i d l) ∙ map-append begun (take i cells) (get_or cells i d ∷ []) in
    e ∙ ap (λ (vs : List Logic). vs ++ v ∷ []) was ∙ ap (λ (u : Logic). map begun (take i cells) ++ u ∷ []) is ∙ sym more

pub loop-cell-init : goal.loop-cell-init
loop-cell-init c = c.in_ok-contents.ensures.items

pub loop-cell-preserved : goal.loop-cell-preserved
loop-cell-preserved c =
    begun_more c.args.cells.now c.loop-cell.cell-index _ c.content_of.result c.loop-cell.contents.items c.push.new.self.items c.loop-cell-test.true c.content_of.ensures c.loop-cell.invariant c.in_ok-push.ensures.items

pub returns : goal.returns
returns c = c.loop-cell.invariant ∙ ap (map begun) (take_all c.loop-cell.cell-index c.args.cells.now c.loop-cell-test.false)

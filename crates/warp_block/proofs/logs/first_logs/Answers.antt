use Rattle.std.proofs.Common.{◌≡◌, ◌∙◌, ◌<◌, ℕ, List, [], length, replicate, ap, sym, subst}
use Rattle.std.specs.List.{All}
use Rattle.std.proofs.lemmas.List.{length-replicate}
use Rattle.gate_values.specs.declared.logic.Change.{Change}
use Rattle.warp_stores.specs.Words.{Move}
use Rattle.warp_stores.specs.Dated.{at}
use Rattle.warp_stores.specs.Lists.{AreLonger}
use Rattle.warp_part.specs.Portion.{Portion}
use Rattle.warp_block.proofs.Opening.{first_within, first_lists}
use Rattle.warp_block.proofs.logs.first_logs.Goals as goal

pub append-requires : goal.append-requires
append-requires c =
    let p : Portion = c.args.part.now in
    let empty : c.in_ok-lists.lists ≡ replicate {A = List Change} (length p.nets) [] = c.in_ok-lists.ensures ∙ ap (λ (n : ℕ). replicate {A = List Change} n []) c.len.ensures.count in
    let many : length c.in_ok-lists.lists ≡ length p.nets = ap length empty ∙ length-replicate (length p.nets) [] in
    subst (λ (ws : List Move). All (λ (w : Move). w.place < length c.in_ok-lists.lists) ws) (sym c.as_slice.ensures.value)
    (subst (λ (n : ℕ). All (λ (w : Move). w.place < n) c.first_words.new.words.items) (sym many) (first_within p c.law.ensures c.first_words.new.words.items c.in_ok-first_words.ensures))

pub returns : goal.returns
returns c =
    let p : Portion = c.args.part.now in
    let empty : c.in_ok-lists.lists ≡ replicate {A = List Change} (length p.nets) [] = c.in_ok-lists.ensures ∙ ap (λ (n : ℕ). replicate {A = List Change} n []) c.len.ensures.count in
    first_lists p c.law.ensures c.first_words.new.words.items c.in_ok-first_words.ensures c.append.new.self
    (subst (λ (ws : List Move). AreLonger (at 0 ws) (replicate {A = List Change} (length p.nets) []) c.append.new.self) c.as_slice.ensures.value
    (subst (λ (old : List (List Change)). AreLonger (at 0 c.as_slice.result.now) old c.append.new.self) empty c.in_ok-append.ensures.ok))

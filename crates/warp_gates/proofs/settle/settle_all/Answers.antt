use Rattle.std.proofs.Common.{◌≡◌, ◌∙◌, ◌<◌, ◌+◌, ◌/◌, ◌++◌, ◌∷◌, [], ℕ, List, take, length, subst, sym, ap}
use Rattle.std.specs.List.{All}
use Rattle.std.proofs.lemmas.List.{take_more}
use Rattle.warp_stores.specs.Words.{Move}
use Rattle.warp_gates.specs.Inner.Fronts.{row_of}
use Rattle.warp_gates.specs.Inner.Told.{AreRefreshed, IsEdge, all_edges}
use Rattle.warp_gates.proofs.Evaluating.{refreshed_then, are_edges, edges_within, all_edges-more}
use Rattle.warp_gates.proofs.Undoing.{queues_then}
use Rattle.warp_gates.proofs.settle.settle_all.Goals as goal

pub settle-requires-clause-edges : goal.settle-requires-clause-edges
settle-requires-clause-edges c =
    let row : row_of c.args.readers.now c.word-item.result.place ≡ c.get-edges.result.now = sym (c.get-edges.ensures ∙ ap (row_of c.args.readers.now) c.place.ensures.place) in
    subst (λ (es : List ℕ). All (IsEdge c.args.wiring.now) es) row (are_edges c.args.wiring.now c.args.readers.now c.word-item.result.place c.requires.readers)

pub settle-requires-clause-within : goal.settle-requires-clause-within
settle-requires-clause-within c =
    let row : row_of c.args.readers.now c.word-item.result.place ≡ c.get-edges.result.now = sym (c.get-edges.ensures ∙ ap (row_of c.args.readers.now) c.place.ensures.place) in
    subst (λ (es : List ℕ). All (λ e. e / 8 < length c.args.wiring.now) es) row (edges_within c.args.wiring.now c.args.readers.now c.word-item.result.place c.requires.readers)

pub loop-word-preserved : goal.loop-word-preserved
loop-word-preserved c =
    let word : Move = c.word-item.result in
    let row : row_of c.args.readers.now word.place ≡ c.get-edges.result.now = sym (c.get-edges.ensures ∙ ap (row_of c.args.readers.now) c.place.ensures.place) in
    let more : take (c.loop-word.word-index + 1) c.args.words.now ≡ take c.loop-word.word-index c.args.words.now ++ word ∷ [] =
    take_more c.args.words.now c.loop-word.word-index word c.loop-word-test.true ∙ ap (λ (w : Move). take c.loop-word.word-index c.args.words.now ++ w ∷ []) (sym c.word-item.is) in
    let edges : all_edges c.args.readers.now (take (c.loop-word.word-index + 1) c.args.words.now) ≡ all_edges c.args.readers.now (take c.loop-word.word-index c.args.words.now) ++ c.get-edges.result.now =
    ap (all_edges c.args.readers.now) more ∙ all_edges-more c.args.readers.now (take c.loop-word.word-index c.args.words.now) word ∙ ap (λ (es : List ℕ). all_edges c.args.readers.now (take c.loop-word.word-index c.args.words.now) ++ es) row in
    record {
      fronts = c.settle.ensures.fronts;
      refreshed = subst (λ (es : List ℕ). AreRefreshed es c.args.fronts.now c.settle.new.fronts) (sym edges)
          (refreshed_then (all_edges c.args.readers.now (take c.loop-word.word-index c.args.words.now)) c.get-edges.result.now c.args.fronts.now c.loop-word.fronts c.settle.new.fronts c.loop-word.invariant.refreshed c.settle.ensures.refreshed);
      queues = queues_then c.args.fronts.now c.loop-word.fronts c.settle.new.fronts c.loop-word.invariant.queues c.settle.ensures.queues;
    }

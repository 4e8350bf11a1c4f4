use Rattle.std.proofs.Common.{◌≡◌, ◌∙◌, ℕ, ◌+◌, ◌≤◌, ◌<◌, ◌++◌, ◌∷◌, [], List, length, take, get_or, set, ap, sym, subst, arith}
use Rattle.std.proofs.lemmas.List.{take_more, length-append}
use Rattle.gate_values.specs.declared.logic.Logic.{Logic}
use Rattle.warp_stores.specs.Words.{Move}
use Rattle.warp_gates.specs.Cells.{moved}
use Rattle.warp_gates.specs.Inner.Fronts.{AreFronts, AreShown, AreTouched, row_of}
use Rattle.warp_gates.specs.Inner.Told.{AreListed, all_edges}
use Rattle.warp_gates.proofs.Evaluating.{all_edges-more, all_edges-within}
use Rattle.warp_gates.proofs.Moving.{moved-append, fronts_more, touched_more}
use Rattle.warp_gates.proofs.front.show_all.Goals as goal

pub show_and_list-requires-clause-room : goal.show_and_list-requires-clause-room
show_and_list-requires-clause-room c =
    let word : Move = c.word-item.result in
    let row : row_of c.args.readers.now word.place ≡ c.get.result.now = sym (c.get.ensures ∙ ap (row_of c.args.readers.now) c.place-place.ensures.place) in
    let row' : length (row_of c.args.readers.now (get_or c.args.words.now c.loop-word.word-index word).place) ≡ length c.get.result.now =
    ap (λ (w : Move). length (row_of c.args.readers.now w.place)) (sym c.word-item.is) ∙ ap (λ (es : List ℕ). length es) row in
    let some : length (all_edges c.args.readers.now (take c.loop-word.word-index c.args.words.now)) + length (row_of c.args.readers.now (get_or c.args.words.now c.loop-word.word-index word).place) ≤ length (all_edges c.args.readers.now c.args.words.now) =
    all_edges-within c.args.readers.now c.args.words.now c.loop-word.word-index word c.loop-word-test.true in
    omega (arith, c.requires.room, c.loop-word.invariant.room, c.loop-word.invariant.capacity)

pub loop-word-preserved : goal.loop-word-preserved
loop-word-preserved c =
    let word : Move = c.word-item.result in
    let place : c.place-place.result ≡ word.place = c.place-place.ensures.place in
    let more : take (c.loop-word.word-index + 1) c.args.words.now ≡ take c.loop-word.word-index c.args.words.now ++ word ∷ [] =
    take_more c.args.words.now c.loop-word.word-index word c.loop-word-test.true ∙ ap (λ (w : Move). take c.loop-word.word-index c.args.words.now ++ w ∷ []) (sym c.word-item.is) in
    let shown : AreShown (row_of c.args.readers.now word.place) word.after c.loop-word.fronts c.show_and_list.new.fronts =
    subst (λ (v : Logic). AreShown (row_of c.args.readers.now word.place) v c.loop-word.fronts c.show_and_list.new.fronts) c.after-in-loop-word.ensures
    (subst (λ (es : List ℕ). AreShown es c.after-in-loop-word.result c.loop-word.fronts c.show_and_list.new.fronts) (c.get.ensures ∙ ap (λ (p : ℕ). get_or c.args.readers.now p []) place) c.show_and_list.ensures.shown) in
    let set-is : set c.loop-word.values c.place-place.result c.after.result ≡ set c.loop-word.values word.place word.after =
    ap (λ (p : ℕ). set c.loop-word.values p c.after.result) place ∙ ap (λ (v : Logic). set c.loop-word.values word.place v) c.after.ensures in
    let within : word.place < length c.loop-word.values =
    (let at : word.place < length c.args.values.now = subst (λ (w : Move). w.place < length c.args.values.now) (sym c.word-item.is) (c.requires.words c.loop-word.word-index word c.loop-word-test.true) in
    let len : length c.loop-word.values ≡ length c.args.values.now = c.loop-word.auto.values in
    omega arith) in
    let row : row_of c.args.readers.now word.place ≡ c.get.result.now = sym (c.get.ensures ∙ ap (row_of c.args.readers.now) place) in
    let edges : all_edges c.args.readers.now (take (c.loop-word.word-index + 1) c.args.words.now) ≡ all_edges c.args.readers.now (take c.loop-word.word-index c.args.words.now) ++ c.get.result.now =
    ap (all_edges c.args.readers.now) more ∙ all_edges-more c.args.readers.now (take c.loop-word.word-index c.args.words.now) word ∙ ap (λ (es : List ℕ). all_edges c.args.readers.now (take c.loop-word.word-index c.args.words.now) ++ es) row in
    let many : length (all_edges c.args.readers.now (take (c.loop-word.word-index + 1) c.args.words.now)) ≡ length (all_edges c.args.readers.now (take c.loop-word.word-index c.args.words.now)) + length c.get.result.now =
    ap (λ (es : List ℕ). length es) edges ∙ length-append (all_edges c.args.readers.now (take c.loop-word.word-index c.args.words.now)) c.get.result.now in
    record {
      values = set-is
          ∙ ap (λ (vs : List Logic). set vs word.place word.after) c.loop-word.invariant.values
          ∙ sym (moved-append (take c.loop-word.word-index c.args.words.now) word c.args.values.now)
          ∙ ap (λ (ws : List Move). moved ws c.args.values.now) (sym more);
      fronts = λ cells readers fronts.
          subst (λ (vs : List Logic). AreFronts cells vs c.show_and_list.new.fronts) (sym set-is)
          (fronts_more cells c.args.readers.now word.place word.after c.loop-word.values c.loop-word.fronts c.show_and_list.new.fronts readers within (c.loop-word.invariant.fronts cells readers fronts) shown);
      listed = subst (λ (es : List ℕ). AreListed es c.show_and_list.new.fronts c.show_and_list.new.stale.items) (sym edges)
          (c.show_and_list.ensures.listed (all_edges c.args.readers.now (take c.loop-word.word-index c.args.words.now)) c.loop-word.invariant.listed);
      room = omega (arith, c.show_and_list.ensures.room, c.loop-word.invariant.room);
      capacity = c.show_and_list.ensures.capacity ∙ c.loop-word.invariant.capacity;
      touched = subst (λ (ws : List Move). AreTouched c.args.readers.now ws c.args.fronts.now c.show_and_list.new.fronts) (sym more)
          (touched_more c.args.readers.now (take c.loop-word.word-index c.args.words.now) word word.after c.args.fronts.now c.loop-word.fronts c.show_and_list.new.fronts c.loop-word.invariant.touched shown);
    }

use Rattle.std.proofs.Common.{◌≡◌, ◌∙◌, ◌≤◌, ◌<◌, ◌+◌, ◌++◌, ◌∷◌, [], true, ℕ, List, take, get_or, length, refl, subst, sym, ap, arith}
use Rattle.std.specs.List.{All}
use Rattle.std.proofs.lemmas.List.{take_more, length-append}
use Rattle.warp_stores.specs.Words.{Move}
use Rattle.warp_gates.specs.Cells.{cell_at, value_at, moved}
use Rattle.warp_gates.specs.Inner.Fronts.{row_of}
use Rattle.warp_gates.specs.Inner.Told.{is_flop, all_edges}
use Rattle.warp_gates.specs.Inner.Loading.{AreLoaded, StillPutOut}
use Rattle.warp_gates.proofs.Telling.{told_none}
use Rattle.warp_gates.proofs.Evaluating.{all_edges-more, all_edges-within}
use Rattle.warp_gates.proofs.Loading.{loaded_none, loaded_call, still_put_out, are_flops, flops_within, not_before}
use Rattle.warp_gates.proofs.Passing.{loaded_still}
use Rattle.warp_gates.proofs.load.load_all.Goals as goal

pub returns-then-passes-clause-loaded : goal.returns-then-passes-clause-loaded
returns-then-passes-clause-loaded c =
    loaded_still c.args.wiring.now c.args.clocked.now c.args.values.now c.args.words.now c.args.fronts.now c.requires.clocked (c.passes.ensures c.if-passes.true) c.requires.settled.each

pub loop-word-init : goal.loop-word-init
loop-word-init c = record {
  loaded = loaded_none c.args.wiring.now c.args.values.now c.args.fronts.now c.requires.settled.each;
  told = told_none c.args.fronts.now c.args.puts.now.items;
  room = omega arith;
  capacity = refl;
}

pub load-requires-clause-flops : goal.load-requires-clause-flops
load-requires-clause-flops c =
    let row : row_of c.args.clocked.now c.place-place.result ≡ c.get.result.now = sym c.get.ensures in
    subst (λ (fs : List ℕ). All (λ flop. is_flop (cell_at c.args.wiring.now flop) ≡ true) fs) row (are_flops c.args.wiring.now c.args.clocked.now c.place-place.result c.requires.clocked)

pub load-requires-clause-within : goal.load-requires-clause-within
load-requires-clause-within c =
    let row : row_of c.args.clocked.now c.place-place.result ≡ c.get.result.now = sym c.get.ensures in
    subst (λ (fs : List ℕ). All (λ flop. flop < length c.args.wiring.now) fs) row (flops_within c.args.wiring.now c.args.clocked.now c.place-place.result c.requires.clocked)

pub load-requires-clause-room : goal.load-requires-clause-room
load-requires-clause-room c =
    let word : Move = c.word-item.result in
    let row : row_of c.args.clocked.now word.place ≡ c.get.result.now = sym (c.get.ensures ∙ ap (row_of c.args.clocked.now) c.place-place.ensures.place) in
    let row' : length (row_of c.args.clocked.now (get_or c.args.words.now c.loop-word.word-index word).place) ≡ length c.get.result.now =
    ap (λ (w : Move). length (row_of c.args.clocked.now w.place)) (sym c.word-item.is) ∙ ap (λ (es : List ℕ). length es) row in
    let some : length (all_edges c.args.clocked.now (take c.loop-word.word-index c.args.words.now)) + length (row_of c.args.clocked.now (get_or c.args.words.now c.loop-word.word-index word).place) ≤ length (all_edges c.args.clocked.now c.args.words.now) =
    all_edges-within c.args.clocked.now c.args.words.now c.loop-word.word-index word c.loop-word-test.true in
    omega (arith, c.requires.room, c.loop-word.invariant.room, c.loop-word.invariant.capacity)

pub loop-word-preserved : goal.loop-word-preserved
loop-word-preserved c =
    let word : Move = c.word-item.result in
    let done : List Move = take c.loop-word.word-index c.args.words.now in
    let more : take (c.loop-word.word-index + 1) c.args.words.now ≡ done ++ word ∷ [] =
    take_more c.args.words.now c.loop-word.word-index word c.loop-word-test.true ∙ ap (λ (w : Move). done ++ w ∷ []) (sym c.word-item.is) in
    let row : c.get.result.now ≡ row_of c.args.clocked.now word.place = c.get.ensures ∙ ap (row_of c.args.clocked.now) c.place-place.ensures.place in
    let edges : all_edges c.args.clocked.now (take (c.loop-word.word-index + 1) c.args.words.now) ≡ all_edges c.args.clocked.now done ++ c.get.result.now =
    ap (all_edges c.args.clocked.now) more ∙ all_edges-more c.args.clocked.now done word ∙ ap (λ (es : List ℕ). all_edges c.args.clocked.now done ++ es) (sym row) in
    let many : length (all_edges c.args.clocked.now (take (c.loop-word.word-index + 1) c.args.words.now)) ≡ length (all_edges c.args.clocked.now done) + length c.get.result.now =
    ap (λ (es : List ℕ). length es) edges ∙ length-append (all_edges c.args.clocked.now done) c.get.result.now in
    let still : value_at (moved done c.args.values.now) word.place ≡ value_at c.args.values.now word.place = not_before c.args.words.now c.loop-word.word-index word c.args.values.now c.requires.apart c.loop-word-test.true c.word-item.is in
    let within : word.place < length c.args.values.now =
    (let at : word.place < length c.args.clocked.now = subst (λ (w : Move). w.place < length c.args.clocked.now) (sym c.word-item.is) (c.requires.words c.loop-word.word-index word c.loop-word-test.true) in
    let len : length c.args.clocked.now ≡ length c.args.wiring.now = c.requires.clocked.same in
    let len' : length c.args.values.now ≡ length c.args.wiring.now = c.requires.values in
    omega arith) in
    let out : StillPutOut c.get.result.now c.args.fronts.now c.loop-word.fronts =
    subst (λ (fs : List ℕ). StillPutOut fs c.args.fronts.now c.loop-word.fronts) (sym row) (still_put_out c.args.wiring.now c.args.clocked.now c.args.values.now done word.place c.args.fronts.now c.loop-word.fronts c.requires.clocked still c.loop-word.invariant.loaded) in
    record {
      loaded = subst (λ (ws : List Move). AreLoaded c.args.wiring.now c.args.values.now ws c.args.fronts.now c.load.new.fronts) (sym more)
          (loaded_call c.args.wiring.now c.args.clocked.now c.args.values.now done word c.args.fronts.now c.loop-word.fronts c.load.new.fronts c.place-place.result _ c.after.result c.get.result.now
          c.place-place.ensures.place c.get.ensures c.after.ensures c.requires.clocked still within c.loop-word.invariant.loaded c.load.ensures.flipped);
      told = c.load.ensures.told c.args.fronts.now c.args.puts.now.items c.loop-word.invariant.told out;
      room = omega (arith, c.load.ensures.room, c.loop-word.invariant.room);
      capacity = c.load.ensures.capacity ∙ c.loop-word.invariant.capacity;
    }

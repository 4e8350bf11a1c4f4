use Rattle.std.proofs.Common.{◌≡◌, ◌∙◌, ℕ, ◌-◌, ◌<◌, ◌∷◌, [], List, length, drop, get_or, set, ap, sym, subst, arith}
use Rattle.gate_values.specs.declared.logic.Logic.{Logic}
use Rattle.warp_stores.specs.Words.{Move}
use Rattle.warp_gates.specs.Cells.{unmoved}
use Rattle.warp_gates.specs.Inner.Fronts.{AreFronts, AreShown, AreTouched, row_of}
use Rattle.warp_gates.proofs.Moving.{fronts_more}
use Rattle.warp_gates.proofs.Undoing.{drop_back, touched_before}
use Rattle.warp_gates.proofs.front.unshow_all.Goals as goal

pub loop-left-preserved : goal.loop-left-preserved
loop-left-preserved c =
    let word : Move = c.index-words-left.result in
    let later : List Move = drop c.loop-left.left c.args.words.now in
    let place : c.place-place.result ≡ word.place = c.place-place.ensures.place in
    let back : drop (c.loop-left.left - 1) c.args.words.now ≡ word ∷ later = drop_back c.args.words.now c.loop-left.left word (omega arith) c.loop-left.invariant.within c.index-words-left.is in
    let shown : AreShown (row_of c.args.readers.now word.place) word.before c.loop-left.fronts c.show.new.fronts =
    subst (λ (v : Logic). AreShown (row_of c.args.readers.now word.place) v c.loop-left.fronts c.show.new.fronts) c.before-in-loop-left-2.ensures
    (subst (λ (es : List ℕ). AreShown es c.before-in-loop-left-2.result c.loop-left.fronts c.show.new.fronts) (c.get.ensures ∙ ap (λ (p : ℕ). get_or c.args.readers.now p []) place) c.show.ensures) in
    let set-is : set c.loop-left.values c.place-place.result c.before-in-loop-left.result ≡ set c.loop-left.values word.place word.before =
    ap (λ (p : ℕ). set c.loop-left.values p c.before-in-loop-left.result) place ∙ ap (λ (v : Logic). set c.loop-left.values word.place v) c.before-in-loop-left.ensures in
    let within : word.place < length c.loop-left.values =
    (let at : word.place < length c.args.values.now = subst (λ (w : Move). w.place < length c.args.values.now) (sym c.index-words-left.is) (c.requires.words (c.loop-left.left - 1) word (omega (arith, c.loop-left.invariant.within))) in
    let len : length c.loop-left.values ≡ length c.args.values.now = c.loop-left.auto.values in
    omega arith) in
    record {
      within = omega (arith, c.loop-left.invariant.within);
      values = set-is ∙ ap (λ (vs : List Logic). set vs word.place word.before) c.loop-left.invariant.values ∙ ap (λ (ws : List Move). unmoved ws c.args.values.now) (sym back);
      fronts = λ cells readers fronts.
          subst (λ (vs : List Logic). AreFronts cells vs c.show.new.fronts) (sym set-is)
          (fronts_more cells c.args.readers.now word.place word.before c.loop-left.values c.loop-left.fronts c.show.new.fronts readers within (c.loop-left.invariant.fronts cells readers fronts) shown);
      touched = subst (λ (ws : List Move). AreTouched c.args.readers.now ws c.args.fronts.now c.show.new.fronts) (sym back)
          (touched_before c.args.readers.now later word word.before c.args.fronts.now c.loop-left.fronts c.show.new.fronts c.loop-left.invariant.touched shown);
    }

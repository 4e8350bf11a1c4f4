use Rattle.std.proofs.Common.{◌≡◌, ◌∙◌, ℕ, ◌||◌, nat_lt, nat_le, [], List, get_or, subst, sym, ap}
use Rattle.std.specs.List.{All}
use Rattle.std.proofs.lemmas.Bool.{and_parts}
use Rattle.std.proofs.lemmas.List.{take_all}
use Rattle.std.proofs.lemmas.List.Elements.{All-more}
use Rattle.warp_stores.specs.Words.{Move}
use Rattle.warp_gates.specs.Inner.Clocked.{AreBetween}
use Rattle.warp_gates.proofs.Passing.{outside}
use Rattle.warp_gates.proofs.clocked.Clocked.passes.Goals as goal

pub loop-word-preserved : goal.loop-word-preserved
loop-word-preserved c = λ passes.
    let word : Move = c.word-item.result in
    let parts = and_parts c.loop-word.passes (nat_lt c.place-place.result c.self.inside.from || nat_le c.self.inside.to c.place-place.result) passes in
    let between : AreBetween c.self.inside.from c.self.inside.to c.args.self.now = subst (λ (rows : List (List ℕ)). AreBetween c.self.inside.from c.self.inside.to rows) c.self.view_is c.self.invariant in
    let none : get_or c.args.self.now c.place-place.result [] ≡ [] = outside c.self.inside.from c.self.inside.to c.place-place.result c.args.self.now between parts.1 in
    let here : get_or c.args.self.now word.place [] ≡ [] = ap (λ (p : ℕ). get_or c.args.self.now p []) (sym c.place-place.ensures.place) ∙ none in
    All-more (λ (w : Move). get_or c.args.self.now w.place [] ≡ []) c.args.words.now c.loop-word.word-index word c.loop-word-test.true (c.loop-word.invariant parts.0)
    (subst (λ (w : Move). get_or c.args.self.now w.place [] ≡ []) c.word-item.is here)

pub returns : goal.returns
returns c = λ passes.
    subst (All (λ (w : Move). get_or c.args.self.now w.place [] ≡ [])) (take_all c.loop-word.word-index c.args.words.now c.loop-word-test.false) (c.loop-word.invariant passes)

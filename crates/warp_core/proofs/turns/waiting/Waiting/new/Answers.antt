use Rattle.std.proofs.Common.{◌≡◌, ◌∙◌, ℕ, zero, suc, List, [], ◌∷◌, ◌++◌, length, map, get_or, refl, ap, arith}
use Rattle.std.specs.Prelude.{Vec}
use Rattle.std.specs.declared.alloc.Global.{Global}
use Rattle.std.proofs.lemmas.List.{length_push, map-append}
use Rattle.warp_core.proofs.Leaving.{places_none}
use Rattle.warp_core.proofs.turns.waiting.Waiting.new.Goals as goal

none_more : (ls : List (List ℕ)) (b : ℕ) → get_or ls b [] ≡ [] → get_or (ls ++ [] ∷ []) b [] ≡ []
none_more [] zero none = refl
none_more [] (suc b) none = refl
none_more (l ∷ ls) zero none = none
none_more (l ∷ ls) (suc b) none = none_more ls b none

pub loop-init : goal.loop-init
loop-init c = record {
  count = ap length c.in_ok-lists.ensures.items;
  none = λ b. ap (λ (vs : List (Vec ℕ Global)). get_or (map (λ (v : Vec ℕ Global). v.items) vs) b []) c.in_ok-lists.ensures.items;
}

pub loop-preserved : goal.loop-preserved
loop-preserved c =
    let items : Vec ℕ Global → List ℕ = λ v. v.items in
    let more : map items c.push.new.self.items ≡ map items c.loop.lists.items ++ [] ∷ [] =
    ap (map items) c.in_ok-push.ensures.items ∙ map-append items c.loop.lists.items (c.new.result ∷ []) ∙ ap (λ (l : List ℕ). map items c.loop.lists.items ++ l ∷ []) c.new.ensures.items in
    record {
      count = (let all = ap length c.in_ok-push.ensures.items in let one = length_push c.loop.lists.items c.new.result in omega (arith, all, one, c.loop.invariant.count));
      none = λ b. ap (λ (ls : List (List ℕ)). get_or ls b []) more ∙ none_more (map items c.loop.lists.items) b (c.loop.invariant.none b);
    }

pub returns : goal.returns
returns c = λ heard. record {
  count = c.loop.invariant.count ∙ omega (arith, c.loop-test.false, c.loop.auto.counter-end);
  size = refl;
  lists = λ b. c.loop.invariant.none b ∙ places_none b (heard b) 0;
}

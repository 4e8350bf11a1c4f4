use Rattle.std.proofs.Common.{◌≡◌, ◌∙◌, ℕ, ◌+◌, ◌<◌, List, [], ◌∷◌, ◌++◌, length, take, get_or, ap, sym}
use Rattle.std.specs.Prelude.{Vec}
use Rattle.std.specs.declared.alloc.Global.{Global}
use Rattle.std.proofs.lemmas.List.{map-append, take_all, take_more}
use Rattle.gate_values.specs.declared.logic.Change.{Change}
use Rattle.warp_stores.specs.Shown.Lists.{lists_of}
use Rattle.warp_stores.proofs.lists.copies.Goals as goal

-- a list more is copied
copied_more : (vs : List (Vec Change Global)) (i : ℕ) (v v' : Vec Change Global) (xs ys : List (Vec Change Global)) → i < length vs → v ≡ get_or vs i v → v'.items ≡ v.items → lists_of xs ≡ lists_of (take i vs) → ys ≡ xs ++ v' ∷ [] → lists_of ys ≡ lists_of (take (i + 1) vs)
copied_more vs i v v' xs ys l is same was e =
    let items : Vec Change Global → List Change = λ w. w.items in
    let more : lists_of (take (i + 1) vs) ≡ lists_of (take i vs) ++ (get_or vs i v).items ∷ [] = ap lists_of (take_more vs i v l) ∙ map-append items (take i vs) (get_or vs i v ∷ []) in
    ap lists_of e ∙ map-append items xs (v' ∷ []) ∙ ap (λ (ls : List (List Change)). ls ++ v'.items ∷ []) was ∙ ap (λ (cs : List Change). lists_of (take i vs) ++ cs ∷ []) (same ∙ ap items is) ∙ sym more

pub loop-list-init : goal.loop-list-init
loop-list-init c = ap lists_of c.in_ok-copies.ensures.items

pub loop-list-preserved : goal.loop-list-preserved
loop-list-preserved c =
    copied_more c.args.lists.now c.loop-list.list-index c.list-item.result c.extend_from_slice.new.self c.loop-list.copies.items c.push.new.self.items c.loop-list-test.true c.list-item.is
    (c.in_ok-extend_from_slice.ensures.items ∙ ap (λ (cs : List Change). cs ++ c.as_slice.result.now) c.in_ok-copy.ensures.items ∙ c.as_slice.ensures.value) c.loop-list.invariant c.in_ok-push.ensures.items

pub returns : goal.returns
returns c = c.loop-list.invariant ∙ ap lists_of (take_all c.loop-list.list-index c.args.lists.now c.loop-list-test.false)

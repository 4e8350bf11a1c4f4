use Rattle.std.proofs.Common.{◌≡◌, ◌∙◌, ℕ, ◌+◌, ◌<◌, List, [], ◌∷◌, ◌++◌, length, map, take, get_or, ap, sym, arith}
use Rattle.std.specs.Prelude.{Vec}
use Rattle.std.specs.declared.alloc.Global.{Global}
use Rattle.std.proofs.lemmas.List.{map-append, take_all, take_more}
use Rattle.gate_values.specs.declared.logic.Change.{Change}
use Rattle.warp_stores.specs.Shown.Lists.{lists_of}
use Rattle.warp_stores.proofs.spans.note_lens.Goals as goal

-- a list more is counted
counted_more : (vs : List (Vec Change Global)) (i : ℕ) (v : Vec Change Global) (n : ℕ) (xs ys : List ℕ) → i < length vs → v ≡ get_or vs i v → n ≡ length v.items → xs ≡ map length (lists_of (take i vs)) → ys ≡ xs ++ n ∷ [] → ys ≡ map length (lists_of (take (i + 1) vs))
counted_more vs i v n xs ys l is same was e =
    let count : List Change → ℕ = length in
    let items : Vec Change Global → List Change = λ w. w.items in
    let more : lists_of (take (i + 1) vs) ≡ lists_of (take i vs) ++ (get_or vs i v).items ∷ [] = ap lists_of (take_more vs i v l) ∙ map-append items (take i vs) (get_or vs i v ∷ []) in
    e ∙ ap (λ (ns : List ℕ). ns ++ n ∷ []) was ∙ ap (λ (m : ℕ). map length (lists_of (take i vs)) ++ m ∷ []) (same ∙ ap (λ (w : Vec Change Global). length w.items) is)
    ∙ sym (ap (map count) more ∙ map-append count (lists_of (take i vs)) ((get_or vs i v).items ∷ []))

pub loop-list-init : goal.loop-list-init
loop-list-init c = c.in_ok-reserve.ensures.items ∙ c.clear.ensures.items

pub loop-list-preserved : goal.loop-list-preserved
loop-list-preserved c =
    let same : c.len.result ≡ length c.list-item.result.items = omega arith in
    counted_more c.args.lists.now c.loop-list.list-index c.list-item.result c.len.result c.loop-list.lens.items c.push.new.self.items c.loop-list-test.true c.list-item.is same c.loop-list.invariant c.in_ok-push.ensures.items

pub returns : goal.returns
returns c = c.loop-list.invariant ∙ ap (λ (vs : List (Vec Change Global)). map (length {A = Change}) (lists_of vs)) (take_all c.loop-list.list-index c.args.lists.now c.loop-list-test.false)

use Rattle.std.proofs.Common.{◌≡◌, ◌∙◌, ℕ, ◌+◌, ◌<◌, List, [], ◌∷◌, ◌++◌, length, take, get_or, ap, sym, append_assoc}
use Rattle.std.proofs.lemmas.List.{append-nil, map-append, take_more}
use Rattle.warp_stores.specs.Dated.{Dated, at}
use Rattle.warp_stores.proofs.batch.list_at.Goals as goal

-- a word more
at_more : {X : Type 0} (time : ℕ) (ws : List X) (i : ℕ) (w : X) (old xs ys : List (Dated X)) → i < length ws → w ≡ get_or ws i w → xs ≡ old ++ at time (take i ws) → ys ≡ xs ++ (time, w) ∷ [] → ys ≡ old ++ at time (take (i + 1) ws)
at_more {X} time ws i w old xs ys l is was e =
    let more : at time (take (i + 1) ws) ≡ at time (take i ws) ++ (time, w) ∷ [] =
    ap (at time) (take_more ws i w l ∙ ap (λ (v : X). take i ws ++ v ∷ []) (sym is)) ∙ map-append {B = Dated X} (λ v. (time, v)) (take i ws) (w ∷ []) in
    e ∙ ap (λ (ds : List (Dated X)). ds ++ (time, w) ∷ []) was ∙ append_assoc old (at time (take i ws)) ((time, w) ∷ []) ∙ ap (λ (ds : List (Dated X)). old ++ ds) (sym more)

pub loop-word-init : goal.loop-word-init
loop-word-init g c = sym (append-nil c.args.list.now.items)

pub loop-word-preserved : goal.loop-word-preserved
loop-word-preserved g c =
    at_more c.args.time c.args.words.now c.loop-word.word-index c.word-item.result c.args.list.now.items c.loop-word.list.items c.push.new.self.items c.loop-word-test.true c.word-item.is c.loop-word.invariant c.in_ok-push.ensures.items

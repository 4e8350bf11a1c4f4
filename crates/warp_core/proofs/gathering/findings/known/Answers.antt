use Rattle.std.proofs.Common.{◌≡◌, ◌∙◌, ℕ, ◌+◌, ◌<◌, Option, Some, List, [], ◌∷◌, ◌++◌, length, map, take, get_or, ap, sym}
use Rattle.std.proofs.lemmas.List.{map-append, take_all, take_more}
use Rattle.warp_core.specs.declared.gathering.findings.Finding.{Finding}
use Rattle.warp_core.proofs.gathering.findings.known.Goals as goal

-- an answer more isn't missing
known_more : (answers : List (Option Finding)) (i : ℕ) (d : Option Finding) (f : Finding) (xs ys : List Finding) → i < length answers → get_or answers i d ≡ Some f → map (λ x. Some x) xs ≡ take i answers → ys ≡ xs ++ f ∷ [] → map (λ x. Some x) ys ≡ take (i + 1) answers
known_more answers i d f xs ys l is was e =
    ap (λ (fs : List Finding). map {B = Option Finding} (λ x. Some x) fs) e ∙ map-append {B = Option Finding} (λ x. Some x) xs (f ∷ []) ∙ ap (λ (os : List (Option Finding)). os ++ Some f ∷ []) was
    ∙ ap (λ (o : Option Finding). take i answers ++ o ∷ []) (sym is) ∙ sym (take_more answers i d l)

pub loop-answer-init : goal.loop-answer-init
loop-answer-init c = ap (λ (fs : List Finding). map {B = Option Finding} (λ x. Some x) fs) c.in_ok-found.ensures.items

pub loop-answer-preserved : goal.loop-answer-preserved
loop-answer-preserved c =
    known_more c.args.answers.now c.loop-answer.answer-index _ c.in-Some.finding c.loop-answer.found.items c.push.new.self.items c.loop-answer-test.true c.in-Some.is c.loop-answer.invariant c.in_ok-push-in-Some.ensures.items

pub returns : goal.returns
returns c = c.loop-answer.invariant ∙ take_all c.loop-answer.answer-index c.args.answers.now c.loop-answer-test.false

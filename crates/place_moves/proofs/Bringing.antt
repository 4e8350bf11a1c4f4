-- What a queue of words from elsewhere brings.
use Rattle.std.proofs.Common.{◌≡◌, ◌∙◌, ℕ, suc, ◌+◌, ◌<◌, ◌==◌, Bool, List, [], ◌∷◌, map, refl, ap, sym}
use Rattle.std.specs.List.{filter}
use Rattle.std.proofs.lemmas.Bool.{eq-eqb, ne_eqb}
use Rattle.gate_values.specs.declared.logic.Logic.{Logic}
use Rattle.warp_stores.specs.Words.{Move}
use Rattle.warp_stores.specs.Dated.{Dated, undated}
use Rattle.warp_stores.specs.Lists.{words_at}
use Rattle.place_moves.specs.Moves.{move_of, moves, of_place, delayed}
use Rattle.place_moves.proofs.Filtering.{filter-comm, filter-map}
use Rattle.place_moves.proofs.Moving.{moves-one, undated-at}
use Rattle.place_moves.proofs.Places.{words-undated}

undated-delayed : (delay : ℕ) (ds : List (Dated Move)) → undated (delayed delay ds) ≡ undated ds
undated-delayed delay [] = refl
undated-delayed delay (d ∷ ds) = ap (λ (ws : List Move). d.1 ∷ ws) (undated-delayed delay ds)

-- Where words that come true a delay later are the moves of a place, those that come true at a time are its move there.
pub brings : (delay place time end : ℕ) (shown : ℕ → Logic) (words : List (Dated Move)) → time < end → of_place place (delayed delay words) ≡ moves place shown end
    → words_at place (undated (filter (λ (d : Dated Move). (d.0 + delay) == time) words)) ≡ move_of place (shown time) (shown (suc time))
brings delay place time end shown words l h =
    let P : Dated Move → Bool = λ d. d.1.place == place in
    let T : Dated Move → Bool = λ d. d.0 == time in
    let shift : Dated Move → Dated Move = λ d. (d.0 + delay, d.1) in
    let now : List (Dated Move) = filter (λ (d : Dated Move). (d.0 + delay) == time) words in
    words-undated place now
    ∙ sym (undated-delayed delay (filter P now))
    ∙ ap undated (sym (filter-map P shift now) ∙ ap (filter P) (sym (filter-map T shift words)) ∙ filter-comm P T (map shift words) ∙ ap (filter T) h
    ∙ moves-one place shown (λ s. s == time) time end l (λ s n. ne_eqb s time n) (eq-eqb time time refl))
    ∙ undated-at time (move_of place (shown time) (shown (suc time)))

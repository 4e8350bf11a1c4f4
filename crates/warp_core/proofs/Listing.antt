-- Of the messages in flight the places for each block are listed.
use Rattle.std.proofs.Common.{◌≡◌, ℕ, ◌+◌, ◌<◌, ◌≤◌, ◌==◌, ◌&&◌, ◌++◌, nat_le, Bool, true, cond, List, [], ◌∷◌, length, get_or, set, take, inl, inr, refl, ap, sym, ◌∙◌, subst, arith}
use Rattle.std.proofs.lemmas.Bool.{cases_eq, eq-eqb, ne_eqb, le-leb}
use Rattle.std.proofs.lemmas.List.{take_more, length-take-le, get_or-set_same, get_or-set_other, append-nil}
use Rattle.warp_process.specs.declared.message.Message.{Message}
use Rattle.warp_core.specs.Inner.Turns.{places_for}
use Rattle.warp_core.proofs.Leaving.{places-append, places_one}

places_more : (b from place : ℕ) (flight : List Message) (d : Message) → place < length flight →
    places_for b from 0 (take (place + 1) flight) ≡ places_for b from 0 (take place flight) ++ cond (((get_or flight place d).block == b) && nat_le from place) (place ∷ []) []
places_more b from place flight d within =
    let size : 0 + length (take place flight) ≡ place = (let s = length-take-le place flight (omega (arith, within)) in omega (arith, s)) in
    ap (places_for b from 0) (take_more flight place d within)
    ∙ (places-append b from 0 (take place flight) (get_or flight place d ∷ []) ∙ (ap (λ (k : ℕ). places_for b from 0 (take place flight) ++ places_for b from k (get_or flight place d ∷ [])) size
    ∙ ap (λ (ns : List ℕ). places_for b from 0 (take place flight) ++ ns) (places_one b from place (get_or flight place d))))

-- one more message is listed, behind those for its block
pub listed_more : (lists : List (List ℕ)) (heard : ℕ → ℕ) (flight : List Message) (place b : ℕ) (d : Message) (list : List ℕ) → place < length flight → (get_or flight place d).block ≡ b → heard b ≤ place → b < length lists →
    list ≡ get_or lists b [] ++ place ∷ [] → ((c : ℕ) → get_or lists c [] ≡ places_for c (heard c) 0 (take place flight)) → (c : ℕ) → get_or (set lists b list) c [] ≡ places_for c (heard c) 0 (take (place + 1) flight)
listed_more lists heard flight place b d list within here low room is all c = elim (cases_eq c b) [
  | inl same ↦ subst (λ (k : ℕ). get_or (set lists b list) k [] ≡ places_for k (heard k) 0 (take (place + 1) flight)) (sym same)
      (get_or-set_same lists b list [] room ∙ (is ∙ (ap (λ (ns : List ℕ). ns ++ place ∷ []) (all b) ∙ sym (places_more b (heard b) place flight d within ∙ ap (λ (t : Bool). places_for b (heard b) 0 (take place flight) ++ cond t (place ∷ []) []) (both (eq-eqb (get_or flight place d).block b here) (le-leb (heard b) place low))))))
  | inr other ↦ get_or-set_other lists b c list [] other
      ∙ (all c ∙ sym (places_more c (heard c) place flight d within ∙ (ap (λ (t : Bool). places_for c (heard c) 0 (take place flight) ++ cond (t && nat_le (heard c) place) (place ∷ []) []) (ne_eqb (get_or flight place d).block c (λ e. other (sym e ∙ here))) ∙ append-nil (places_for c (heard c) 0 (take place flight)))))
]
  where
    both : {x y : Bool} → x ≡ true → y ≡ true → (x && y) ≡ true
    both p q = rw (p, q) refl

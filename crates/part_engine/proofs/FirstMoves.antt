-- What flip-flops begin with, as words of time 0.
use Rattle.std.proofs.Common.{◌≡◌, ◌≢◌, ◌∙◌, ℕ, ◌+◌, ◌<◌, ◌≤◌, ◌++◌, ◌==◌, ◌⊎◌, inl, inr, Bool, true, false, cond, nat_lt, List, [], ◌∷◌, map, length, refl, ap, sym, arith}
use Rattle.std.proofs.lemmas.Bool.{cases_lt, eq-eqb, ne_eqb}
use Rattle.std.proofs.lemmas.List.Elements.{filter-append}
use Rattle.std.proofs.lemmas.List.{append-nil, get_or_past}
use Rattle.gate_values.specs.declared.logic.Logic.{Logic}
use Rattle.gate_values.specs.declared.logic.Logic.TheVariants.{X}
use Rattle.gate_values.specs.declared.logic.Change.{Change}
use Rattle.gate_values.specs.Changes.{same}
use Rattle.warp_stores.specs.Words.{Move}
use Rattle.warp_stores.specs.Dated.{Dated, at}
use Rattle.warp_stores.specs.Lists.{words_at, changes_at}
use Rattle.warp_stores.proofs.Telling.{lt_true, lt_false}
use Rattle.warp_gates.specs.Cells.{value_at}
use Rattle.place_moves.specs.Moves.{move_of}
use Rattle.place_moves.proofs.Moving.{move_of-same}
use Rattle.place_moves.proofs.Places.{place-at}

-- each place moves to what it begins with, and nothing else does
abbrev pub AreFirst : List Logic → List Move → Type 0
AreFirst contents words = (place : ℕ) → words_at place words ≡ move_of place X (value_at contents place)

words_own : (place : ℕ) (from to : Logic) → words_at place (move_of place from to) ≡ move_of place from to
words_own place from to = go (same to from)
  where
    go : (b : Bool) → words_at place (cond b [] (record { place = place; before = from; after = to } ∷ [])) ≡ cond b [] (record { place = place; before = from; after = to } ∷ [])
    go true = refl
    go false = rw (eq-eqb place place refl) refl

words_other : (p place : ℕ) (from to : Logic) → place ≢ p → words_at p (move_of place from to) ≡ []
words_other p place from to n = go (same to from)
  where
    go : (b : Bool) → words_at p (cond b [] (record { place = place; before = from; after = to } ∷ [])) ≡ []
    go true = refl
    go false = rw (ne_eqb place p n) refl

pub first_place : (place : ℕ) (words : List Move) (contents : List Logic) → AreFirst contents words → changes_at place (at 0 words) ≡ changes_at place (at 0 (move_of place X (value_at contents place)))
first_place place words contents first =
    ap (map (λ (d : Dated Move). record { time = d.0; value = d.1.after })) (place-at place 0 words ∙ ap (at 0) (first place) ∙ sym (place-at place 0 (move_of place X (value_at contents place)) ∙ ap (at 0) (own place)))
  where
    own : (place : ℕ) → words_at place (move_of place X (value_at contents place)) ≡ move_of place X (value_at contents place)
    own place = words_own place X (value_at contents place)

-- the words of the places below one
pub AreFirstBelow : ℕ → List Logic → List Move → Type 0
AreFirstBelow end contents words = (p : ℕ) → words_at p words ≡ cond (nat_lt p end) (move_of p X (value_at contents p)) []

place_cases : (p place : ℕ) → (p ≡ place) ⊎ ((place ≢ p) × (nat_lt p (place + 1) ≡ nat_lt p place))
place_cases p place = elim (cases_lt p place) [
  | inl l ↦ inr ((λ e. omega arith), lt_true p (place + 1) (omega arith) ∙ sym (lt_true p place l))
  | inr g ↦ elim (cases_lt place p) [
    | inl l ↦ inr ((λ e. omega arith), lt_false p (place + 1) (omega arith) ∙ sym (lt_false p place g))
    | inr h ↦ inl (omega arith)
  ]
]

pub first_more : (place : ℕ) (contents : List Logic) (words : List Move) → AreFirstBelow place contents words → AreFirstBelow (place + 1) contents (words ++ move_of place X (value_at contents place))
unfolding AreFirstBelow
first_more place contents words below p =
    filter-append (λ (w : Move). w.place == p) words (move_of place X (value_at contents place))
    ∙ elim (place_cases p place) [
      | inl here ↦
          rw here (ap (λ (ws : List Move). ws ++ words_at place (move_of place X (value_at contents place))) (below place ∙ ap (λ (b : Bool). cond b (move_of place X (value_at contents place)) []) (lt_false place place (omega arith)))
          ∙ words_own place X (value_at contents place)
          ∙ sym (ap (λ (b : Bool). cond b (move_of place X (value_at contents place)) []) (lt_true place (place + 1) (omega arith))))
      | inr other ↦
          ap (λ (ws : List Move). words_at p words ++ ws) (words_other p place X (value_at contents place) other.0) ∙ append-nil (words_at p words)
          ∙ below p ∙ ap (λ (b : Bool). cond b (move_of p X (value_at contents p)) []) (sym other.1)
    ]

pub first_none : (contents : List Logic) → AreFirstBelow 0 contents []
unfolding AreFirstBelow
first_none contents p = ap (λ (b : Bool). cond b (move_of p X (value_at contents p)) []) (sym (lt_false p 0 (omega arith)))

pub first_all : (end : ℕ) (contents : List Logic) (words : List Move) → length contents ≤ end → AreFirstBelow end contents words → AreFirst contents words
unfolding AreFirstBelow
first_all end contents words l below p = below p ∙ elim (cases_lt p end) [
  | inl k ↦ ap (λ (b : Bool). cond b (move_of p X (value_at contents p)) []) (lt_true p end k)
  | inr g ↦
      ap (λ (b : Bool). cond b (move_of p X (value_at contents p)) []) (lt_false p end g)
      ∙ sym (ap (move_of p X) (get_or_past contents p X (omega arith)) ∙ move_of-same p X)
]

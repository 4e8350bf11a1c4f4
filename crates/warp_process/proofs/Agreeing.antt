-- Lists of changes, whose times rise.
use Rattle.std.proofs.Common.{◌≡◌, ◌≢◌, ℕ, suc, ◌<◌, ◌≤◌, Option, Some, None, List, [], ◌∷◌, refl, ap, sym, ◌∙◌, arith, inl, inr}
use Rattle.std.specs.List.{All}
use Rattle.std.proofs.lemmas.Bool.{cases_lt, eq-eqb, ne_eqb}
use Rattle.gate_values.specs.declared.logic.Logic.{Logic}
use Rattle.gate_values.specs.declared.logic.Change.{Change}
use Rattle.gate_values.specs.Changes.{pair_at}
use Rattle.warp_process.proofs.Rising.{Rises, rising-tail}

abbrev pub change_time : Change → ℕ
change_time c = c.time

-- all changes are later than a time
abbrev AreLate : ℕ → List Change → Type 0
AreLate t cs = All (λ (c : Change). t < c.time) cs

pair_at-here : (c : Change) (cs : List Change) → pair_at (c ∷ cs) c.time ≡ Some c.value
pair_at-here c cs = rw (eq-eqb c.time c.time refl) refl

pair_at-other : (c : Change) (cs : List Change) (t : ℕ) → c.time ≢ t → pair_at (c ∷ cs) t ≡ pair_at cs t
pair_at-other c cs t ne = rw (ne_eqb c.time t ne) refl

pair_at-late : (cs : List Change) (t u : ℕ) → AreLate t cs → u ≤ t → pair_at cs u ≡ None
pair_at-late [] t u late le = refl
pair_at-late (c ∷ cs) t u late le =
    let after : t < c.time = late 0 c (omega arith) in
    pair_at-other c cs u (omega arith) ∙ pair_at-late cs t u (λ k d l. late (suc k) d (omega arith)) le

tail_late : (c : Change) (cs : List Change) → Rises change_time (c ∷ cs) → AreLate c.time cs
tail_late c cs r k d l = r 0 (suc k) d (omega arith) (omega arith)

-- ---- two lists of changes
some_same : (x y : Logic) → ◌≡◌ {A = Option Logic} (Some x) (Some y) → x ≡ y
some_same x y e = cc

change_same : (c d : Change) → c.time ≡ d.time → c.value ≡ d.value → c ≡ d
change_same c d s v = ap (λ (t : ℕ). record { time = t; value = c.value }) s ∙ ap (λ (x : Logic). record { time = d.time; value = x }) v

-- lists whose times rise are the same, where they say the same at each time
pub same_pairs : (cs ds : List Change) → Rises change_time cs → Rises change_time ds → ((t : ℕ) → pair_at cs t ≡ pair_at ds t) → cs ≡ ds
same_pairs [] [] r q h = refl
same_pairs [] (d ∷ ds) r q h = absurd (let none : None ≡ Some d.value = h d.time ∙ pair_at-here d ds in cc)
same_pairs (c ∷ cs) [] r q h = absurd (let none : Some c.value ≡ None = sym (pair_at-here c cs) ∙ h c.time in cc)
same_pairs (c ∷ cs) (d ∷ ds) r q h = elim (cases_lt c.time d.time) [
  | inl early ↦ absurd (earlier c cs d ds q h early)
  | inr from ↦ (elim (cases_lt d.time c.time) [
    | inl late ↦ absurd (earlier d ds c cs r (λ t. sym (h t)) late)
    | inr until ↦
        (let times : c.time ≡ d.time = omega arith in
        let values : c.value ≡ d.value = some_same c.value d.value (sym (pair_at-here c cs) ∙ (h c.time ∙ (ap (pair_at (d ∷ ds)) times ∙ pair_at-here d ds))) in
        let rest : cs ≡ ds = same_pairs cs ds (rising-tail change_time c cs r) (rising-tail change_time d ds q) (λ t. elim (cases_lt c.time t) [
          | inl after ↦ sym (pair_at-other c cs t (omega arith)) ∙ (h t ∙ pair_at-other d ds t (omega arith))
          | inr before ↦ pair_at-late cs c.time t (tail_late c cs r) before ∙ sym (pair_at-late ds d.time t (tail_late d ds q) (omega arith))
        ]) in
        ap (λ (x : Change). x ∷ cs) (change_same c d times values) ∙ ap (λ (xs : List Change). d ∷ xs) rest)
  ])
]
  where
    -- nothing is said before the first change
    earlier : (c : Change) (cs : List Change) (d : Change) (ds : List Change) → Rises change_time (d ∷ ds) → ((t : ℕ) → pair_at (c ∷ cs) t ≡ pair_at (d ∷ ds) t) → c.time < d.time → ⊥
    earlier c cs d ds q h early =
        let none : pair_at (d ∷ ds) c.time ≡ None = pair_at-other d ds c.time (omega arith) ∙ pair_at-late ds d.time c.time (tail_late d ds q) (omega arith) in
        let some : Some c.value ≡ None = sym (pair_at-here c cs) ∙ (h c.time ∙ none) in cc

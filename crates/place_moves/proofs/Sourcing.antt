-- What gates that stand for sources show and put out.
use Rattle.std.proofs.Common.{◌≡◌, ◌∙◌, ℕ, zero, suc, ◌<◌, ◌⊎◌, inl, inr, List, [], ◌∷◌, map, length, refl, ap, sym, subst, arith}
use Rattle.std.specs.List.{All}
use Rattle.std.proofs.lemmas.Bool.{cases_lt}
use Rattle.std.proofs.lemmas.List.{get_or_past}
use Rattle.std.proofs.lemmas.List.Elements.{All-get_or}
use Rattle.gate_values.specs.declared.logic.Logic.{Logic}
use Rattle.gate_values.specs.declared.logic.Logic.TheVariants.{Zero, One, X, Z}
use Rattle.gate_values.specs.declared.gate.Kind.{Kind}
use Rattle.gate_values.specs.Tables.{table_of, flip_of}
use Rattle.gate_values.specs.Behaviour as behaviour
use Rattle.gate_values.specs.Behaviour.{Source, output, before, history, source_delay, initial_of, IsWellFormed}
use Rattle.gate_values.specs.Inner.Behaviour.{content}
use Rattle.gate_values.proofs.Behaving.{outside_is, content_is}
use Rattle.gate_values.proofs.Beginning.{initial_before}
use Rattle.warp_gates.specs.Cells.{Cell, Outside, Gate, Flop, IsCell, value_at, cell_at, next_output}
use Rattle.place_moves.specs.Moves.{value_before, made_before, given_at, brought_before}
use Rattle.place_moves.specs.Journals.{IsSetBy, output_back}
use Rattle.place_moves.proofs.Coming.{value-first, value-none}

-- ---- cells and their sources

pub formed : (n : ℕ) (cell : Cell) (s : Source) → IsSetBy cell s → IsCell n cell → IsWellFormed s
formed n Outside s set is = subst IsWellFormed (sym set) tt
formed n (Gate kind inputs) s set is = subst IsWellFormed (sym set.2) (set.1, is.0)
formed n (Flop d clock) s set is = subst IsWellFormed (sym set.3) set.2

pub cell_is : (n : ℕ) (cells : List Cell) (place : ℕ) → All (IsCell n) cells → IsCell n (cell_at cells place)
cell_is n cells place all = elim (cases_lt place (length cells)) [
  | inl l ↦ All-get_or (IsCell n) cells place Outside l all
  | inr g ↦ subst (IsCell n) (sym (get_or_past cells place Outside g)) tt
]

-- what is set from outside, and what takes a delay
pub driven_or_not : (cell : Cell) (s : Source) → IsSetBy cell s → (s ≡ behaviour.Outside) ⊎ (0 < source_delay s)
driven_or_not Outside s set = inl set
driven_or_not (Gate kind inputs) s set = inr (subst (λ (x : Source). 0 < source_delay x) (sym set.2) set.1)
driven_or_not (Flop d clock) s set = inr (subst (λ (x : Source). 0 < source_delay x) (sym set.3) set.2)

pub map-same : (f g : ℕ → Logic) (xs : List ℕ) → ((i : ℕ) → f i ≡ g i) → map f xs ≡ map g xs
map-same f g [] h = refl
map-same f g (x ∷ xs) h =
    let here : f x ≡ g x = h x in
    let rest : map f xs ≡ map g xs = map-same f g xs h in
    cc

pub flip-still : (held v d : Logic) → flip_of held v v d ≡ held
unfolding flip_of
flip-still held Zero d = refl
flip-still held One d = refl
flip-still held X d = refl
flip-still held Z d = refl

given-driven : (s : Source) (v : Logic) → 0 < source_delay s → given_at s v ≡ initial_of s
given-driven behaviour.Outside v h = absurd (omega arith)
given-driven (behaviour.Gate kind delay inputs) v h = refl
given-driven (behaviour.Flop delay d clock initial) v h = refl

module _ (source : ℕ → Source) (given : ℕ → ℕ → Logic) where
  -- ---- places that are set from outside

  pub made-outside : (place t : ℕ) → source place ≡ behaviour.Outside → made_before source given place t ≡ X
  made-outside place t e = ap (λ (s : Source). output s (before source given t) place) e

  pub value-outside : (place t : ℕ) → source place ≡ behaviour.Outside → value_before source given place t ≡ brought_before source given place t
  value-outside place zero e = value-none source given place
  value-outside place (suc t) e = outside_is source given place t e ∙ sym (ap (λ (s : Source). given_at s (given t place)) e)

  pub value-past : (place t : ℕ) → source place ≡ behaviour.Outside → ((time : ℕ) → given time place ≡ X) → value_before source given place t ≡ X
  value-past place zero e h = value-none source given place
  value-past place (suc t) e h = outside_is source given place t e ∙ h t

  -- ---- places that gates and flip-flops set

  pub brought-driven : (place t : ℕ) → 0 < source_delay (source place) → brought_before source given place (suc t) ≡ initial_of (source place)
  brought-driven place t h = given-driven (source place) (given t place) h

  pub made-first : (place : ℕ) → IsWellFormed (source place) → 0 < source_delay (source place) → made_before source given place 0 ≡ initial_of (source place)
  made-first place w h = sym (value-first source given place 1 (omega arith) (omega arith)) ∙ initial_before source given place 0 w h

  pub made-gate : (place t delay : ℕ) (kind : Kind) (inputs : List ℕ) → source place ≡ behaviour.Gate kind delay inputs → made_before source given place t ≡ table_of kind (map (λ (i : ℕ). value_before source given i t) inputs)
  made-gate place t delay kind inputs e = ap (λ (s : Source). output s (before source given t) place) e

  pub made-flop : (place t delay d clock : ℕ) (initial : Logic) → source place ≡ behaviour.Flop delay d clock initial → made_before source given place t ≡ (before source given t).content place
  made-flop place t delay d clock initial e = ap (λ (s : Source). output s (before source given t) place) e

  pub made-flop_next : (place t delay d clock : ℕ) (initial : Logic) → source place ≡ behaviour.Flop delay d clock initial
      → made_before source given place (suc t) ≡ flip_of (made_before source given place t) (value_before source given clock t) (value_before source given clock (suc t)) (value_before source given d t)
  made-flop_next place t delay d clock initial e =
      made-flop place (suc t) delay d clock initial e ∙ content_is source given place t delay d clock initial e
      ∙ ap (λ (v : Logic). flip_of v (value_before source given clock t) (value_before source given clock (suc t)) (value_before source given d t)) (sym (made-flop place t delay d clock initial e))

  -- what a place puts out next, once the values moved
  pub output-next : (place t : ℕ) (cell : Cell) (then now : List Logic) (last : Logic) → IsSetBy cell (source place)
      → ((i : ℕ) → value_at then i ≡ value_before source given i t) → ((i : ℕ) → value_at now i ≡ value_before source given i (suc t)) → last ≡ made_before source given place t
      → next_output then now cell last ≡ made_before source given place (suc t)
  output-next place t Outside then now last set was is h = h ∙ made-outside place t set ∙ sym (made-outside place (suc t) set)
  output-next place t (Gate kind inputs) then now last set was is h =
      ap (table_of kind) (map-same (value_at now) (λ (i : ℕ). value_before source given i (suc t)) inputs is) ∙ sym (made-gate place (suc t) set.0 kind inputs set.2)
  output-next place t (Flop d clock) then now last set was is h = rw (h, was clock, is clock, was d) (sym (made-flop_next place t set.0 d clock set.1 set.3))

  -- where no value moves, what it makes doesn't
  pub made-quiet : (place t : ℕ) (cell : Cell) → IsSetBy cell (source place) → ((i : ℕ) → value_before source given i (suc t) ≡ value_before source given i t) → made_before source given place (suc t) ≡ made_before source given place t
  made-quiet place t Outside set h = made-outside place (suc t) set ∙ sym (made-outside place t set)
  made-quiet place t (Gate kind inputs) set h =
      made-gate place (suc t) set.0 kind inputs set.2
      ∙ ap (table_of kind) (map-same (λ (i : ℕ). value_before source given i (suc t)) (λ (i : ℕ). value_before source given i t) inputs h)
      ∙ sym (made-gate place t set.0 kind inputs set.2)
  made-quiet place t (Flop d clock) set h =
      made-flop_next place t set.0 d clock set.1 set.3
      ∙ ap (λ (v : Logic). flip_of (made_before source given place t) (value_before source given clock t) v (value_before source given d t)) (h clock)
      ∙ flip-still (made_before source given place t) (value_before source given clock t) (value_before source given d t)

  -- what a place puts out at a time that was gone back to
  pub output-back : (place t m : ℕ) (cell : Cell) (now : List Logic) (told last : Logic) → IsSetBy cell (source place)
      → ((i : ℕ) → value_at now i ≡ value_before source given i t) → told ≡ made_before source given place t → last ≡ made_before source given place m
      → output_back now cell told last ≡ made_before source given place t
  output-back place t m Outside now told last set is h k = k ∙ made-outside place m set ∙ sym (made-outside place t set)
  output-back place t m (Gate kind inputs) now told last set is h k =
      ap (table_of kind) (map-same (value_at now) (λ (i : ℕ). value_before source given i t) inputs is) ∙ sym (made-gate place t set.0 kind inputs set.2)
  output-back place t m (Flop d clock) now told last set is h k = h

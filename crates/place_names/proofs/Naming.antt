-- Places that stand for nets do what these do.
use Rattle.std.proofs.Common.{◌≡◌, ℕ, zero, suc, ◌<◌, List, [], ◌∷◌, map, refl, ap}
use Rattle.std.specs.List.{AllByRecursion}
use Rattle.gate_values.specs.declared.logic.Logic.{Logic}
use Rattle.gate_values.specs.Tables.{table_of}
use Rattle.gate_values.specs.Behaviour.{Source, Outside, Gate, Flop, Moment, initial_of, beginning, back, history, before, next_value, next_content, next_moment}
use Rattle.place_names.specs.Names.{IsNamed, IsBelow, StandForNets}

module _ (count : ℕ) (net : ℕ → ℕ) where
  -- a moment of places is one of nets
  pub record IsSame (m m' : Moment) : Type 0 where
    pub values : (place : ℕ) → place < count → m.value place ≡ m'.value (net place)
    pub contents : (place : ℕ) → place < count → m.content place ≡ m'.content (net place)

  abbrev AreSame : List Moment → List Moment → Type 0
  AreSame [] [] = Unit {0}
  AreSame [] (m ∷ ms) = ⊥
  AreSame (m ∷ ms) [] = ⊥
  AreSame (m ∷ ms) (n ∷ ns) = IsSame m n × AreSame ms ns

  same_back : (first first' : Moment) (past past' : List Moment) → IsSame first first' → AreSame past past' → (k : ℕ) → IsSame (back first past k) (back first' past' k)
  same_back first first' past past' h same zero = h
  same_back first first' [] [] h same (suc k) = h
  same_back first first' [] (m ∷ ms) h same (suc k) = absurd same
  same_back first first' (m ∷ ms) [] h same (suc k) = absurd same
  same_back first first' (m ∷ ms) (n ∷ ns) h same (suc zero) = same.0
  same_back first first' (m ∷ ms) (n ∷ ns) h same (suc (suc k)) = same_back first first' ms ns h same.1 (suc k)

  map_net : (f f' : ℕ → Logic) (inputs : List ℕ) → ((i : ℕ) → i < count → f i ≡ f' (net i)) → AllByRecursion (λ i. i < count) inputs → map f inputs ≡ map f' (map net inputs)
  map_net f f' [] h all = refl
  map_net f f' (i ∷ is) h all =
      let head : f i ≡ f' (net i) = h i all.0 in
      let tail : map f is ≡ map f' (map net is) = map_net f f' is h all.1 in
      cc

  initial_same : (s o : Source) → IsNamed net s o → initial_of s ≡ initial_of o
  initial_same Outside o e = rw e refl
  initial_same (Gate kind delay inputs) o e = rw e refl
  initial_same (Flop delay d c i) o e = rw e refl

  value_same : (s o : Source) (given given' : ℕ → Logic) (ago ago' : ℕ → Moment) (place : ℕ) → place < count → IsNamed net s o → IsBelow count s → given place ≡ given' (net place) → ((k : ℕ) → IsSame (ago k) (ago' k))
      → next_value s given ago place ≡ next_value o given' ago' (net place)
  value_same Outside o given given' ago ago' place l e below g same = rw e g
  value_same (Gate kind delay inputs) o given given' ago ago' place l e below g same = rw e (ap (table_of kind) (map_net (ago delay).value (ago' delay).value inputs (same delay).values below))
  value_same (Flop delay d c i) o given given' ago ago' place l e below g same = rw e ((same delay).contents place l)

  content_same : (s o : Source) (now now' : ℕ → Logic) (last last' : Moment) (place : ℕ) → place < count → IsNamed net s o → IsBelow count s → ((p : ℕ) → p < count → now p ≡ now' (net p)) → IsSame last last'
      → next_content s now last place ≡ next_content o now' last' (net place)
  content_same Outside o now now' last last' place l e below g same = rw e refl
  content_same (Gate kind delay inputs) o now now' last last' place l e below g same = rw e refl
  content_same (Flop delay d c i) o now now' last last' place l e below g same =
      rw (e, same.contents place l, same.values c below.1, g c below.1, same.values d below.0) refl

  module _ (source other : ℕ → Source) (given given' : ℕ → ℕ → Logic) (stand : StandForNets count net source other given given') where
    begin_same : IsSame (beginning source) (beginning other)
    begin_same = record { values = λ p l. refl; contents = λ p l. initial_same (source p) (other (net p)) (stand.named p l) }

    next_same : (t : ℕ) (past past' : List Moment) → AreSame past past' → IsSame (next_moment source (given t) (back (beginning source) past)) (next_moment other (given' t) (back (beginning other) past'))
    next_same t past past' same =
        let ago : ℕ → Moment = back (beginning source) past in
        let ago' : ℕ → Moment = back (beginning other) past' in
        let each : (k : ℕ) → IsSame (ago k) (ago' k) = same_back (beginning source) (beginning other) past past' begin_same same in
        let now : (p : ℕ) → p < count → next_value (source p) (given t) ago p ≡ next_value (other (net p)) (given' t) ago' (net p) = λ p l. value_same (source p) (other (net p)) (given t) (given' t) ago ago' p l (stand.named p l) (stand.closed p l) (stand.given p t l) each in
        record {
          values = now;
          contents = λ p l. content_same (source p) (other (net p)) (λ i. next_value (source i) (given t) ago i) (λ i. next_value (other i) (given' t) ago' i) (ago 1) (ago' 1) p l (stand.named p l) (stand.closed p l) now (each 1);
        }

    history_same : (t : ℕ) → AreSame (history source given t) (history other given' t)
    unfolding history
    history_same zero = tt
    history_same (suc t) = (next_same t (history source given t) (history other given' t) (history_same t), history_same t)

    -- each moment of the places is that of the nets
    pub moments_same : (t : ℕ) → IsSame (before source given t) (before other given' t)
    moments_same t = same_back (beginning source) (beginning other) (history source given t) (history other given' t) begin_same (history_same t) 1

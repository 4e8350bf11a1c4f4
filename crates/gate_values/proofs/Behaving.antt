-- Laws of the values of a circuit.
use Rattle.std.proofs.Common.{◌≡◌, ℕ, zero, suc, ◌+◌, ◌-◌, ◌<◌, ◌≤◌, ◌⊎◌, inl, inr, List, [], ◌∷◌, map, refl, ap, sym, ◌∙◌, arith}
use Rattle.std.specs.List.{AllByRecursion}
use Rattle.gate_values.specs.declared.logic.Logic.{Logic}
use Rattle.gate_values.specs.declared.logic.Logic.TheVariants.{Zero, One, X, Z}
use Rattle.gate_values.proofs.Induction.{strong}
use Rattle.gate_values.specs.Tables.{table_of, flip_of}
use Rattle.gate_values.specs.Behaviour.{Source, Outside, Gate, Flop, Moment, initial_of, beginning, back, output, source_delay, history, before, value}
use Rattle.gate_values.specs.Inner.Behaviour.{content, IsOver}

module _ (source : ℕ → Source) (given : ℕ → ℕ → Logic) where
  -- what lies back in the history
  pub back-history : (t k : ℕ) → back (beginning source) (history source given t) (suc k) ≡ before source given (t - k)
  unfolding history
  back-history zero k = ap (before source given) (let e : 0 ≡ 0 - k = omega arith in e)
  back-history (suc t) zero = ap (before source given) (let e : suc t ≡ suc t - 0 = omega arith in e)
  back-history (suc t) (suc k) = back-history t k ∙ ap (before source given) (let e : t - k ≡ suc t - suc k = omega arith in e)

  -- the value is the source's output one delay ago
  pub value_is : (n t : ℕ) (s : Source) → source n ≡ s → 0 < source_delay s → value source given n t ≡ output s (before source given (suc t - source_delay s)) n
  unfolding history
  value_is n t Outside e h = absurd (omega arith)
  value_is n t (Gate kind zero inputs) e h = absurd (omega arith)
  value_is n t (Gate kind (suc k) inputs) e h = rw e (ap (λ (m : Moment). table_of kind (map m.value inputs)) (back-history t k ∙ ap (before source given) (let e : t - k ≡ suc t - suc k = omega arith in e)))
  value_is n t (Flop zero d c i) e h = absurd (omega arith)
  value_is n t (Flop (suc k) d c i) e h = rw e (ap (λ (m : Moment). m.content n) (back-history t k ∙ ap (before source given) (let e : t - k ≡ suc t - suc k = omega arith in e)))

  pub outside_is : (n t : ℕ) → source n ≡ Outside → value source given n t ≡ given t n
  unfolding history
  outside_is n t e = rw e refl

  pub content_is : (n t delay d c : ℕ) (i : Logic) → source n ≡ Flop delay d c i →
      content source given n t ≡ flip_of ((before source given t).content n) ((before source given t).value c) (value source given c t) ((before source given t).value d)
  unfolding history
  content_is n t delay d c i e = rw e refl

-- Two behaviours with the same sources of the nets of Own, which read nets of Own, and nets of Shared that agree below u.
pub record Joined (s1 s2 : ℕ → Source) (g1 g2 : ℕ → ℕ → Logic) (Own Shared : ℕ → Type 0) (u : ℕ) : Type 0 where
  pub same_source : (n : ℕ) → Own n → s1 n ≡ s2 n
  pub over : (n : ℕ) → Own n → IsOver (λ i. Own i ⊎ Shared i) (s1 n)
  pub agree : (i t : ℕ) → Shared i → t < u → value s1 g1 i t ≡ value s2 g2 i t

pub map_agree : (f g : ℕ → Logic) (N : ℕ → Type 0) (xs : List ℕ) → ((i : ℕ) → N i → f i ≡ g i) → AllByRecursion N xs → map f xs ≡ map g xs
map_agree f g N [] h a = refl
map_agree f g N (x ∷ xs) h a =
    let head : f x ≡ g x = h x a.0 in
    let tail : map f xs ≡ map g xs = map_agree f g N xs h a.1 in
    cc

module _ (s1 s2 : ℕ → Source) (g1 g2 : ℕ → ℕ → Logic) (Own Shared : ℕ → Type 0) (u : ℕ) (j : Joined s1 s2 g1 g2 Own Shared u) where
  pub record Agree (m : ℕ) : Type 0 where
    pub values : (i : ℕ) → Own i ⊎ Shared i → m ≤ u → (before s1 g1 m).value i ≡ (before s2 g2 m).value i
    pub contents : (n : ℕ) → Own n → m ≤ u → (before s1 g1 m).content n ≡ (before s2 g2 m).content n

  same_output : (m n : ℕ) (s : Source) → Agree m → IsOver (λ i. Own i ⊎ Shared i) s → Own n → m ≤ u → output s (before s1 g1 m) n ≡ output s (before s2 g2 m) n
  same_output m n Outside a o own h = refl
  same_output m n (Gate kind delay inputs) a o own h = ap (table_of kind) (map_agree _ _ (λ i. Own i ⊎ Shared i) inputs (λ i p. a.values i p h) o.1)
  same_output m n (Flop delay d c i) a o own h = a.contents n own h

  delayed : (s : Source) (N : ℕ → Type 0) → IsOver N s → 0 < source_delay s
  delayed Outside N o = absurd o
  delayed (Gate kind delay inputs) N o = o.0
  delayed (Flop delay d c i) N o = o.0

  own_values : (n t : ℕ) → Own n → Agree (suc t - source_delay (s1 n)) → suc t - source_delay (s1 n) ≤ u → value s1 g1 n t ≡ value s2 g2 n t
  own_values n t own a h =
      let o = j.over n own in
      let d : 0 < source_delay (s1 n) = delayed (s1 n) _ o in
      value_is s1 g1 n t (s1 n) refl d ∙ same_output _ n (s1 n) a o own h ∙ sym (value_is s2 g2 n t (s1 n) (sym (j.same_source n own)) d)

  step_values : (t i : ℕ) → ((k : ℕ) → k < suc t → Agree k) → Own i ⊎ Shared i → suc t ≤ u → value s1 g1 i t ≡ value s2 g2 i t
  step_values t i ih (inl own) h =
      let d : 0 < source_delay (s1 i) = delayed (s1 i) _ (j.over i own) in
      own_values i t own (ih (suc t - source_delay (s1 i)) (omega arith)) (omega arith)
  step_values t i ih (inr shared) h = j.agree i t shared (omega arith)

  content_step : (t n : ℕ) (s : Source) → s1 n ≡ s → ((k : ℕ) → k < suc t → Agree k) → IsOver (λ i. Own i ⊎ Shared i) s → Own n → suc t ≤ u →
      content s1 g1 n t ≡ content s2 g2 n t
  unfolding history
  content_step t n Outside e ih o own h = absurd o
  content_step t n (Gate kind delay inputs) e ih o own h = let e2 : s2 n ≡ Gate kind delay inputs = sym (j.same_source n own) ∙ e in rw (e, e2) refl
  content_step t n (Flop delay d c i) e ih o own h =
      let a = ih t (omega arith) in
      let le : t ≤ u = omega arith in
      let e2 : s2 n ≡ Flop delay d c i = sym (j.same_source n own) ∙ e in
      let content_before : (before s1 g1 t).content n ≡ (before s2 g2 t).content n = a.contents n own le in
      let clock_before : (before s1 g1 t).value c ≡ (before s2 g2 t).value c = a.values c o.2 le in
      let clock_now : value s1 g1 c t ≡ value s2 g2 c t = step_values t c ih o.2 h in
      let data_before : (before s1 g1 t).value d ≡ (before s2 g2 t).value d = a.values d o.1 le in
      content_is s1 g1 n t delay d c i e ∙ rw (content_before, clock_before, clock_now, data_before) (sym (content_is s2 g2 n t delay d c i e2))

  agree_step : (m : ℕ) → ((k : ℕ) → k < m → Agree k) → Agree m
  unfolding history
  agree_step zero ih = record { values = λ i p h. refl; contents = λ n own h. ap initial_of (j.same_source n own) }
  agree_step (suc t) ih = record {
    values = λ i p h. step_values t i ih p h;
    contents = λ n own h. content_step t n (s1 n) refl ih (j.over n own) own h;
  }

  -- the values of both behaviours agree at the times below u
  pub same_before : (m : ℕ) → Agree m
  same_before m = strong Agree agree_step m

  -- and those of a net of Own at the times below u and one delay more
  pub same_values : (n t : ℕ) → Own n → t < u + source_delay (s1 n) → value s1 g1 n t ≡ value s2 g2 n t
  same_values n t own h = own_values n t own (same_before (suc t - source_delay (s1 n))) (omega arith)

flip_quiet : (content v d : Logic) → flip_of content v v d ≡ content
unfolding flip_of
flip_quiet content Zero d = refl
flip_quiet content One d = refl
flip_quiet content X d = refl
flip_quiet content Z d = refl

-- Where the nets that a net's source reads keep their values at time s, the net keeps its own one delay later.
module _ (source : ℕ → Source) (given : ℕ → ℕ → Logic) (N : ℕ → Type 0) (s : ℕ) (same : (i : ℕ) → N i → value source given i s ≡ (before source given s).value i) where
  quiet_output : (n : ℕ) (k : Source) → source n ≡ k → IsOver N k → output k (before source given (suc s)) n ≡ output k (before source given s) n
  unfolding history
  quiet_output n Outside e o = refl
  quiet_output n (Gate kind delay inputs) e o = ap (table_of kind) (map_agree _ _ N inputs same o.1)
  quiet_output n (Flop delay d c i) e o =
      content_is source given n s delay d c i e ∙ rw (same c o.2) (flip_quiet ((before source given s).content n) ((before source given s).value c) ((before source given s).value d))

  delayed_by : (k : Source) → IsOver N k → 0 < source_delay k
  delayed_by Outside o = absurd o
  delayed_by (Gate kind delay inputs) o = o.0
  delayed_by (Flop delay d c i) o = o.0

  pub quiet_value : (n t : ℕ) → IsOver N (source n) → s + source_delay (source n) ≡ suc t → value source given n (suc t) ≡ value source given n t
  quiet_value n t o e =
      let d : 0 < source_delay (source n) = delayed_by (source n) o in
      let now : suc (suc t) - source_delay (source n) ≡ suc s = omega arith in
      let then : suc t - source_delay (source n) ≡ s = omega arith in
      value_is source given n (suc t) (source n) refl d ∙ rw now (quiet_output n (source n) refl o ∙ rw (← then) (sym (value_is source given n t (source n) refl d)))

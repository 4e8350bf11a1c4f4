-- The vectors that are kept, and the bits that are found in them.
use Rattle.std.proofs.Common.{◌≡◌, ◌≢◌, ℕ, zero, suc, ◌-◌, ◌<◌, ◌≤◌, Bool, true, false, cond, ◌&&◌, nat_le, List, [], ◌∷◌, length, drop, get_or, slice_index, Option, Some, None, option_map, option_and_then, Result, Ok, Err, OnOk, Bor, refl, ap, sym, ◌∙◌, subst, arith}
use Rattle.std.proofs.Math.Seq.{drop-cons}
use Rattle.std.proofs.lemmas.List.{get_or-map, length-map}
use Rattle.std.specs.Int.{abs_diff}
use Rattle.std.specs.List.{position}
use Rattle.std.specs.Option.{option_or}
use Rattle.std.specs.Path.{rfind_below}
use Rattle.std.specs.Str.{bytes_eq}
use Rattle.gate_vcd.specs.declared.runs.Kept.{Kept}
use Rattle.gate_vcd.specs.declared.fault.StimFault.{StimFault}
use Rattle.gate_vcd.specs.declared.variable.Variable.{Variable as Held}
use Rattle.gate_vcd.specs.declared.vectors.Vectors.{Vectors}
use Rattle.gate_vcd.specs.Changes.{Source}
use Rattle.gate_vcd.specs.Declarations.{Variable}
use Rattle.gate_vcd.specs.Shown.Commands.{variable, variables}
use Rattle.gate_vcd.specs.Inner.Runs.{is_in, kept_at}
use Rattle.gate_vcd.specs.Inner.Scalars.{AreVectors, kept_source, source_from}
use Rattle.gate_vcd.specs.Inputs.{first_given, source_in}
use Rattle.gate_vcd.specs.Vectors.{Vector, Bit, is_between, vector_of}
use Rattle.net_waves.proofs.Compared.{eq_true, eq_false}
use Rattle.gate_vcd.proofs.Keeping.{same_bytes}
use Rattle.gate_vcd.proofs.Numbered.{grown, grown-more, is_text, number, number-apart, number-known, number-new, number-other, number-own, number-within}

-- the last place of a byte, looked for from the end
pub rfind-here : (b : ℕ) (text : List ℕ) (k : ℕ) → 0 < k → slice_index text (k - 1) ≡ b → rfind_below b text k ≡ Some (k - 1)
rfind-here b text zero h e = absurd (omega arith)
rfind-here b text (suc n) h e =
    let at : suc n - 1 ≡ n = omega arith in
    let here : slice_index text n ≡ b = ap (slice_index text) (sym at) ∙ e in
    rw (eq_true (slice_index text n) b here, at) refl

pub rfind-before : (b : ℕ) (text : List ℕ) (k : ℕ) → 0 < k → (slice_index text (k - 1) ≡ b → ⊥) → rfind_below b text k ≡ rfind_below b text (k - 1)
rfind-before b text zero h e = absurd (omega arith)
rfind-before b text (suc n) h e =
    let at : suc n - 1 ≡ n = omega arith in
    rw (eq_false (slice_index text n) b (λ i. e (ap (slice_index text) at ∙ i)), at) refl

drop-all : {X : Type 0} (xs : List X) → drop (length xs) xs ≡ []
drop-all [] = refl
drop-all (x ∷ xs) = drop-all xs

-- a vector is put before the others of its base
module _ (old new : Vectors) (x : Vector) (base : Bor (List ℕ)) (low high : ℕ) (kept : Kept) (v : Variable) (vs : List Variable) where
  abbrev at : ℕ
  at = number old.bases.keys base

  -- the bits from the lowest to the highest one are those of the vector, and are kept for it
  pub record IsPut : Type 0 where
    pub is : vector_of v ≡ Some x
    pub named : x.base ≡ base.now
    pub code : v.code ≡ kept.code.now
    pub right : kept.right ≡ x.right
    pub bits : (index : ℕ) → is_between x.left x.right index ≡ (nat_le low index && nat_le index high)
    pub bases : new.bases.keys ≡ grown old.bases.keys base
    pub runs : (other index : ℕ) → kept_at new.runs.starts other index ≡ cond (is_in at low high other index) (Some kept) (kept_at old.runs.starts other index)

  -- what is kept for a bit of a number, if it has one
  abbrev kept_of : Vectors → ℕ → Option ℕ → Option Source
  kept_of vectors index numbered = option_map (source_from index) (option_and_then (λ n. kept_at vectors.runs.starts n index) numbered)

  own_first : (bit : Bit) → bytes_eq bit.base x.base ≡ true → IsPut → source_in bit v ≡ cond (nat_le low bit.index && nat_le bit.index high) (Some (source_from bit.index kept)) None
  own_first bit e p = rw (p.is, e, p.bits bit.index) (go (nat_le low bit.index && nat_le bit.index high))
    where
      go : (b : Bool) → option_map (λ place. record { code = v.code; place = place }) (cond b (Some (abs_diff bit.index x.right)) None) ≡ cond b (Some (source_from bit.index kept)) None
      go true = rw (p.code, p.right) refl
      go false = refl

  own_kept : (bit : Bit) → bit.base ≡ base.now → AreVectors old vs → kept_of old bit.index (Some at) ≡ first_given (source_in bit) vs
  own_kept bit e law = go (position (is_text base.now) old.bases.keys) refl ∙ law.sources bit
    where
      go : (o : Option ℕ) → position (is_text base.now) old.bases.keys ≡ o → kept_of old bit.index (Some at) ≡ kept_source old bit
      go (Some k) t = rw (e, t, number-known old.bases.keys base k t) refl
      go None t = rw (e, t, law.fresh at bit.index (number-new old.bases.keys base t)) refl

  own_put : (bit : Bit) → bytes_eq bit.base x.base ≡ true → IsPut → AreVectors old vs → kept_source new bit ≡ first_given (source_in bit) (v ∷ vs)
  own_put bit e p law =
      let same : bit.base ≡ base.now = same_bytes bit.base x.base e ∙ p.named in
      rw (own_first bit e p, ← own_kept bit same law, same, p.bases, number-own old.bases.keys base, p.runs at bit.index, eq_true at at refl) (go (nat_le low bit.index && nat_le bit.index high))
    where
      go : (b : Bool) → option_map (source_from bit.index) (cond b (Some kept) (kept_at old.runs.starts at bit.index)) ≡ option_or (cond b (Some (source_from bit.index kept)) None) (option_map (source_from bit.index) (kept_at old.runs.starts at bit.index))
      go true = refl
      go false = refl

  other_put : (bit : Bit) → bytes_eq bit.base x.base ≡ false → IsPut → AreVectors old vs → kept_source new bit ≡ first_given (source_in bit) (v ∷ vs)
  other_put bit e p law =
      let apart : bytes_eq bit.base base.now ≡ false = rw p.named at e in
      rw (p.is, e, p.bases, number-other old.bases.keys base bit.base apart) (go (position (is_text bit.base) old.bases.keys) refl apart ∙ law.sources bit)
    where
      go : (o : Option ℕ) → position (is_text bit.base) old.bases.keys ≡ o → bytes_eq bit.base base.now ≡ false → kept_of new bit.index o ≡ kept_source old bit
      go None t apart = rw t refl
      go (Some k) t apart = rw (t, p.runs k bit.index, eq_false at k (number-apart old.bases.keys base bit.base k apart t)) refl

  pub put-before : IsPut → AreVectors old vs → AreVectors new (v ∷ vs)
  put-before p law = record {
    sources = λ bit. go bit (bytes_eq bit.base x.base) refl;
    fresh = λ n index h.
        (let many : length (grown old.bases.keys base) ≤ n = rw (← p.bases) h in
        let other : at ≢ n = omega (arith, number-within old.bases.keys base) in
        p.runs n index ∙ rw (eq_false at n other) (law.fresh n index (omega (arith, grown-more old.bases.keys base))));
  }
    where
      go : (bit : Bit) (b : Bool) → bytes_eq bit.base x.base ≡ b → kept_source new bit ≡ first_given (source_in bit) (v ∷ vs)
      go bit true e = own_put bit e p law
      go bit false e = other_put bit e p law

-- a variable that is no vector has no bits
pub put-none : (vectors : Vectors) (v : Variable) (vs : List Variable) → vector_of v ≡ None → AreVectors vectors vs → AreVectors vectors (v ∷ vs)
put-none vectors v vs is law = record { sources = λ bit. rw is (law.sources bit); fresh = law.fresh }

pub put-start : (vectors : Vectors) (all : List Held) (n : ℕ) → n ≡ length all → vectors.bases.keys ≡ [] → ((base bit : ℕ) → kept_at vectors.runs.starts base bit ≡ None) → AreVectors vectors (drop n (variables all))
put-start vectors all n e bases none =
    let past : drop n (variables all) ≡ [] = rw (e, ← length-map all variable) (drop-all (variables all)) in
    rw past (record { sources = λ bit. rw bases refl; fresh = λ number index h. none number index })

pub put-step : (vectors : Vectors) (all : List Held) (n : ℕ) (item : Held) → 0 < n → n ≤ length all → item ≡ get_or all (n - 1) item → AreVectors vectors (variable item ∷ drop n (variables all)) → AreVectors vectors (drop (n - 1) (variables all))
put-step vectors all n item pos within e law =
    let back : suc (n - 1) ≡ n = omega arith in
    let l : n - 1 < length all = omega arith in
    let lv : n - 1 < length (variables all) = omega (arith, length-map all variable) in
    let here : get_or (variables all) (n - 1) (variable item) ≡ variable item = get_or-map variable all (n - 1) item (variable item) l ∙ ap variable (sym e) in
    let next : get_or (variables all) (n - 1) (variable item) ∷ drop (suc (n - 1)) (variables all) ≡ variable item ∷ drop n (variables all) = rw (here, back) refl in
    let whole : drop (n - 1) (variables all) ≡ variable item ∷ drop n (variables all) = drop-cons (variables all) (n - 1) (variable item) lv ∙ next in
    subst (λ (vs : List Variable). AreVectors vectors vs) (sym whole) law

-- what holds at each bit where a call has succeeded
pub on_each : {P : ℕ → ℕ → Type 0} {Q : Type 0} (r : Result (Unit {0}) StimFault) → ((number index : ℕ) → OnOk r (P number index)) → (((number index : ℕ) → P number index) → Q) → OnOk r Q
on_each (Ok x) h f = f h
on_each (Err e) h f = tt

-- Times at which parts begin.
use Rattle.std.proofs.Common.{◌≡◌, ◌∙◌, ℕ, ◌+◌, ◌-◌, ◌<◌, ◌≤◌, inl, inr, List, [], ◌∷◌, ◌++◌, length, get_or, ap, arith}
use Rattle.std.proofs.lemmas.List.{get_or_append_left, length-append}
use Rattle.std.proofs.Math.Seq.{get_or-append_seam}
use Rattle.std.proofs.lemmas.Bool.{cases_lt}
use Rattle.history_waves.specs.Inner.Begins.{AreBegins}

-- one part begins at 0
pub begins_one : AreBegins (0 ∷ [])
begins_one = record { some = omega arith; first = omega arith; rising = λ k h. absurd (omega (arith, h)) }

module _ (begins : List ℕ) (n : ℕ) (are : AreBegins begins) (last : get_or begins (length begins - 1) 0 ≤ n) where
  abbrev more : List ℕ
  more = begins ++ n ∷ []

  long : length more ≡ length begins + 1
  long = length-append begins (n ∷ [])

  at-old : (k : ℕ) → k < length begins → get_or more k 0 ≡ get_or begins k 0
  at-old k h = get_or_append_left begins (n ∷ []) 0 k h

  at-end : get_or more (length begins) 0 ≡ n
  at-end = get_or-append_seam begins n [] 0

  -- one part more, where it begins
  pub begins_last : get_or more (length more - 1) 0 ≡ n
  begins_last = let e : length more - 1 ≡ length begins = omega (arith, long) in ap (λ (k : ℕ). get_or more k 0) e ∙ at-end

  -- it doesn't begin before the others
  pub begins_more : AreBegins more
  begins_more = record {
    some = omega (arith, long);
    first = at-old 0 are.some ∙ are.first;
    rising = λ k h. elim (cases_lt (k + 1) (length begins)) [
      | inl here ↦ omega (arith, at-old k (omega arith), at-old (k + 1) here, are.rising k here)
      | inr past ↦ (
          let e : k + 1 ≡ length begins = omega (arith, long, h, past) in
          let before : k ≡ length begins - 1 = omega (arith, e) in
          let low : get_or more k 0 ≡ get_or begins (length begins - 1) 0 = at-old k (omega (arith, e)) ∙ ap (λ (j : ℕ). get_or begins j 0) before in
          let high : get_or more (k + 1) 0 ≡ n = ap (λ (j : ℕ). get_or more j 0) e ∙ at-end in
          omega (arith, low, high, last)
          )
    ];
  }

-- Writes one behind another.
use Rattle.std.proofs.Common.{◌≡◌, ℕ, zero, suc, ◌+◌, ◌-◌, ◌<◌, ◌≤◌, ◌^◌, ◌∙◌, ◌==◌, Bool, true, false, List, [], ◌∷◌, ◌++◌, length, take, drop, Some, refl, ap, sym, arith, length-append, append_assoc, suc-add}
use Rattle.std.proofs.lemmas.List.{append-nil, take-append-le, take_rest, take_all}
use Rattle.std.proofs.lemmas.Bool.{ne_eqb}
use Rattle.std.proofs.Math.Seq.{take-append-add}
use Rattle.byte_sinks.specs.Sink.{Held, is_failure}
use Rattle.byte_sinks.specs.Sink.{Writes}

abbrev no_bytes : List ℕ
no_bytes = []

take_nil : (m : ℕ) → take m no_bytes ≡ no_bytes
take_nil zero = refl
take_nil (suc m) = refl

take_plus : (n m : ℕ) (xs : List ℕ) → take n xs ++ take m (drop n xs) ≡ take (n + m) xs
take_plus zero m xs = grind arith
take_plus (suc n) m [] = rw (suc-add n m) (take_nil m)
take_plus (suc n) m (x ∷ xs) = rw (suc-add n m) (ap (λ l. x ∷ l) (take_plus n m xs))

-- a part of the bytes, behind those before
pub took_more : (old held new bytes : List ℕ) (at n : ℕ) → held ≡ old ++ take at bytes → new ≡ held ++ take n (take (length bytes - at) (drop at bytes)) → new ≡ old ++ take (at + n) bytes
took_more old held new bytes at n before after = rw (take_rest bytes at) at after ∙ rw before (append_assoc old (take at bytes) (take n (drop at bytes)) ∙ ap (λ l. old ++ l) (take_plus at n bytes))

-- some bytes are no failure
pub still_sound : (n : ℕ) (bytes : List ℕ) → 0 < n → is_failure (Some n) bytes ≡ false
still_sound n bytes h =
    let some : (n == 0) ≡ false = ne_eqb n 0 (λ e. omega arith) in
    rw some refl

apart : (b : Bool) {P : Type 0} → b ≡ true → b ≡ false → P
apart b h g = absurd (differ b h g)
  where
    differ : (b : Bool) → b ≡ true → b ≡ false → ⊥
    differ b h g = cc

-- a sink that has failed
pub writes_skipped : (a : Held) (n : ℕ) (s : List ℕ) → a.failed ≡ true → Writes a a n s n
writes_skipped a n s h = record {
  skipped = λ _. (refl, refl);
  whole = λ sound. apart a.failed h sound;
  part = λ sound _. apart a.failed h sound;
}

-- a first part went in, all of it where the sink hasn't failed
pub writes_part : (a b : Held) (n : ℕ) (s : List ℕ) (k m : ℕ) → a.failed ≡ false → k ≤ length s → b.bytes ≡ a.bytes ++ take k s → (n + length s < 2 ^ 128 → m ≡ n + k) → (b.failed ≡ false → k ≡ length s) → Writes a b n s m
writes_part a b n s k m sound le went counted full = record {
  skipped = λ h. apart a.failed h sound;
  whole = λ h.
      let all = full h in
      (sound, went ∙ ap (λ l. a.bytes ++ l) (take_all k s (omega (arith, all))), λ room. counted room ∙ ap (λ x. n + x) all);
  part = λ _ _. (k, le, went, counted);
}

-- a text, and then another
pub writes_then : {a b c : Held} {n m k : ℕ} {s t : List ℕ} → Writes a b n s m → Writes b c m t k → Writes a c n (s ++ t) k
writes_then {a} {b} {c} {n} {m} {k} {s} {t} x y = record {
  skipped = λ h.
      let (bb, mn) = x.skipped h in
      let (cb, km) = y.skipped (ap (λ (q : Held). q.failed) bb ∙ h) in
      (cb ∙ bb, km ∙ mn);
  whole = λ h.
      let (bf, ys, yk) = y.whole h in
      let (af, xs, xk) = x.whole bf in
      (af, ys ∙ rw xs (append_assoc a.bytes s t), λ room. then_count n m k s t xk yk room);
  part = λ af cf. by_middle b.failed refl af cf;
}
  where
    then_count : (n m k : ℕ) (s t : List ℕ) → (n + length s < 2 ^ 128 → m ≡ n + length s) → (m + length t < 2 ^ 128 → k ≡ m + length t) → n + length (s ++ t) < 2 ^ 128 → k ≡ n + length (s ++ t)
    then_count n m k s t xk yk room =
        let l = length-append s t in
        let first : m ≡ n + length s = xk (omega (arith, l)) in
        let second : k ≡ m + length t = yk (omega (arith, l, first)) in
        omega (arith, l, first, second)

    by_middle : (f : Bool) → b.failed ≡ f → a.failed ≡ false → c.failed ≡ true → (j : ℕ) × (j ≤ length (s ++ t)) × (c.bytes ≡ a.bytes ++ take j (s ++ t)) × (n + length (s ++ t) < 2 ^ 128 → k ≡ n + j)
    by_middle true bf af cf =
        let (cb, km) = y.skipped bf in
        let (j, le, went, count) = x.part af bf in
        let l = length-append s t in
        (j, omega (arith, l), ap (λ (q : Held). q.bytes) cb ∙ went ∙ ap (λ w. a.bytes ++ w) (sym (take-append-le j s t le)), λ room. km ∙ count (omega (arith, l)))
    by_middle false bf af cf =
        let (_, xs, xk) = x.whole bf in
        let (j, le, went, count) = y.part bf cf in
        let l = length-append s t in (
          length s + j,
          omega (arith, l),
          went ∙ rw xs (append_assoc a.bytes s (take j t)) ∙ ap (λ w. a.bytes ++ w) (sym (take-append-add s t j)),
          λ room.
              let first : m ≡ n + length s = xk (omega (arith, l)) in
              let second : k ≡ m + j = count (omega (arith, l, first)) in
              omega (arith, first, second),
        )

-- nothing went in
pub writes_none : (a : Held) (n : ℕ) → Writes a a n [] n
writes_none a n = record {
  skipped = λ _. (refl, refl);
  whole = λ h. (h, sym (append-nil a.bytes), λ _. omega arith);
  part = λ sound failed. apart a.failed failed sound;
}

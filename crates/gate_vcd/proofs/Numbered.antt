-- The numbers of texts in a set that takes one more.
use Rattle.std.proofs.Common.{◌≡◌, ◌≢◌, ℕ, suc, ◌+◌, ◌<◌, ◌≤◌, Bool, true, false, cond, not, ◌||◌, nat_lt, List, [], ◌∷◌, ◌++◌, length, get_or, Some, None, Bor, refl, ap, sym, ◌∙◌, arith, length-append}
use Rattle.std.proofs.lemmas.Bool.Decides.{nat_tests}
use Rattle.std.proofs.lemmas.Slice.Eq.{bytes_eq-Decides}
use Rattle.std.specs.List.{list_any, position, position_or_len}
use Rattle.std.specs.Str.{bytes_eq}
use Rattle.net_waves.proofs.Compared.{lt_true}
use Rattle.gate_vcd.proofs.InputLaws.{any-more}
use Rattle.gate_vcd.proofs.Keeping.{position-some, same_bytes}

some_above : (n : ℕ) → nat_lt 0 (suc n) ≡ true
some_above n = grind (arith, nat_tests)

none_below : (n : ℕ) → nat_lt n 0 ≡ false
none_below n = grind (arith, nat_tests)

one_above : (m n : ℕ) → nat_lt (1 + m) (suc n) ≡ nat_lt m n
one_above m n = grind (arith, nat_tests)

module _ {X : Type 0} (p : X → Bool) where
  -- some one passes where the first place that does is one of the list
  any-place : (xs : List X) → nat_lt (position_or_len p xs) (length xs) ≡ list_any p xs
  any-place [] = none_below 0
  any-place (x ∷ xs) = elim (p x) as (λ b. nat_lt (cond (not b) (1 + position_or_len p xs) 0) (suc (length xs)) ≡ (b || list_any p xs)) [
    | true ↦ some_above (length xs)
    | false ↦ one_above (position_or_len p xs) (length xs) ∙ any-place xs
  ]

  position-any : (xs : List X) → position p xs ≡ cond (list_any p xs) (Some (position_or_len p xs)) None
  position-any xs = rw (any-place xs) refl

  -- one more that fails, or is behind one that passes, is not the first
  place-front : (xs : List X) (y : X) → list_any p xs ≡ true → position_or_len p (xs ++ y ∷ []) ≡ position_or_len p xs
  place-front [] y e = cc
  place-front (x ∷ xs) y e = go (p x) e (place-front xs y)
    where
      go : (b : Bool) → (b || list_any p xs) ≡ true → (list_any p xs ≡ true → position_or_len p (xs ++ y ∷ []) ≡ position_or_len p xs)
          → cond (not b) (1 + position_or_len p (xs ++ y ∷ [])) 0 ≡ cond (not b) (1 + position_or_len p xs) 0
      go true h ih = refl
      go false h ih = ap (λ n. 1 + n) (ih h)

  place-end : (xs : List X) (y : X) → p y ≡ true → position_or_len p (xs ++ y ∷ []) ≡ position_or_len p xs
  place-end [] y e = rw e refl
  place-end (x ∷ xs) y e = elim (p x) as (λ b. cond (not b) (1 + position_or_len p (xs ++ y ∷ [])) 0 ≡ cond (not b) (1 + position_or_len p xs) 0) [ true ↦ refl | false ↦ ap (λ n. 1 + n) (place-end xs y e) ]

  place-fails : (xs : List X) (y : X) → p y ≡ false → position p (xs ++ y ∷ []) ≡ position p xs
  place-fails xs y e = position-any (xs ++ y ∷ []) ∙ rw (any-more p xs y, e) (go (list_any p xs) refl) ∙ sym (position-any xs)
    where
      go : (b : Bool) → list_any p xs ≡ b → cond (b || false) (Some (position_or_len p (xs ++ y ∷ []))) None ≡ cond b (Some (position_or_len p xs)) None
      go false t = refl
      go true t = ap (λ n. Some n) (place-front xs y t)

-- a text of the set, or one that is added
abbrev pub is_text : List ℕ → Bor (List ℕ) → Bool
is_text text k = bytes_eq text k.now

module _ (texts : List (Bor (List ℕ))) (text : Bor (List ℕ)) where
  abbrev pub number : ℕ
  number = position_or_len (is_text text.now) texts

  abbrev pub grown : List (Bor (List ℕ))
  grown = cond (list_any (is_text text.now) texts) texts (texts ++ text ∷ [])

  own : is_text text.now text ≡ true
  own = (bytes_eq-Decides text.now text.now).1 refl

  pub number-own : position (is_text text.now) grown ≡ Some number
  number-own = go (list_any (is_text text.now) texts) refl
    where
      any : (b : Bool) → (b || true) ≡ true
      any true = refl
      any false = refl

      go : (b : Bool) → list_any (is_text text.now) texts ≡ b → position (is_text text.now) (cond b texts (texts ++ text ∷ [])) ≡ Some number
      go true e = position-any (is_text text.now) texts ∙ rw e refl
      go false e =
          position-any (is_text text.now) (texts ++ text ∷ [])
          ∙ rw (any-more (is_text text.now) texts text, own, any (list_any (is_text text.now) texts), place-end (is_text text.now) texts text own) refl

  pub number-other : (other : List ℕ) → bytes_eq other text.now ≡ false → position (is_text other) grown ≡ position (is_text other) texts
  number-other other e = elim (list_any (is_text text.now) texts) as (λ b. position (is_text other) (cond b texts (texts ++ text ∷ [])) ≡ position (is_text other) texts) [ true ↦ refl | false ↦ place-fails (is_text other) texts text e ]

  -- the number was that of the text, or of none
  pub number-known : (k : ℕ) → position (is_text text.now) texts ≡ Some k → k ≡ number
  number-known k e = go (nat_lt number (length texts)) e
    where
      go : (b : Bool) → cond b (Some number) None ≡ Some k → k ≡ number
      go true h = cc
      go false h = cc

  pub number-new : position (is_text text.now) texts ≡ None → length texts ≤ number
  number-new e = go (nat_lt number (length texts)) refl e
    where
      go : (b : Bool) → nat_lt number (length texts) ≡ b → cond b (Some number) None ≡ None → length texts ≤ number
      go true t h = cc
      go false t h = grind (arith, nat_tests, t)

  -- no other text has it
  pub number-apart : (other : List ℕ) (k : ℕ) → bytes_eq other text.now ≡ false → position (is_text other) texts ≡ Some k → number ≢ k
  number-apart other k e at same =
      let (within, here) = position-some (is_text other) texts k text at in
      let found : position (is_text text.now) texts ≡ Some k = rw (same, lt_true k (length texts) within) refl in
      let there : is_text text.now (get_or texts k text) ≡ true = (position-some (is_text text.now) texts k text found).1 in
      let both : other ≡ text.now = same_bytes other (get_or texts k text).now here ∙ sym (same_bytes text.now (get_or texts k text).now there) in
      two e ((bytes_eq-Decides other text.now).1 both)
    where
      two : {b : Bool} → b ≡ false → b ≡ true → ⊥
      two n y = cc

  pub grown-more : length texts ≤ length grown
  grown-more = elim (list_any (is_text text.now) texts) as (λ b. length texts ≤ length (cond b texts (texts ++ text ∷ []))) [ true ↦ omega arith | false ↦ omega (arith, length-append texts (text ∷ [])) ]

  pub number-within : number < length grown
  number-within = go (list_any (is_text text.now) texts) refl
    where
      go : (b : Bool) → list_any (is_text text.now) texts ≡ b → number < length (cond b texts (texts ++ text ∷ []))
      go true e = let l : nat_lt number (length texts) ≡ true = any-place (is_text text.now) texts ∙ e in grind (arith, nat_tests, l)
      go false e =
          let f : nat_lt (position_or_len (is_text text.now) (texts ++ text ∷ [])) (length (texts ++ text ∷ [])) ≡ true = any-place (is_text text.now) (texts ++ text ∷ []) ∙ any-more (is_text text.now) texts text ∙ rw (own, e) refl in
          let l : nat_lt number (length (texts ++ text ∷ [])) ≡ true = rw (place-end (is_text text.now) texts text own) at f in
          grind (arith, nat_tests, l)

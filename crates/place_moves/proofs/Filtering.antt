-- Laws of what filters keep.
use Rattle.std.proofs.Common.{◌≡◌, ◌≢◌, ◌∙◌, ℕ, zero, suc, Bool, true, false, ◌&&◌, cond, List, [], ◌∷◌, ◌++◌, map, get_or, refl, ap, sym, arith}
use Rattle.std.specs.List.{filter, flat_map, AllByRecursion}
use Rattle.std.proofs.lemmas.List.{append-nil}
use Rattle.std.proofs.lemmas.List.Elements.{filter-append}

module _ {X : Type 0} where
  pub filter-comm : (p q : X → Bool) (xs : List X) → filter p (filter q xs) ≡ filter q (filter p xs)
  filter-comm p q [] = refl
  filter-comm p q (x ∷ xs) = go (p x) (q x) refl refl (filter-comm p q xs)
    where
      go : (a b : Bool) → p x ≡ a → q x ≡ b → filter p (filter q xs) ≡ filter q (filter p xs) → filter p (cond b (x ∷ filter q xs) (filter q xs)) ≡ filter q (cond a (x ∷ filter p xs) (filter p xs))
      go true true e f h = rw (e, f) (ap (λ (ys : List X). x ∷ ys) h)
      go true false e f h = rw f h
      go false true e f h = rw e h
      go false false e f h = h

  -- what passes one test passes another one too
  pub filter-absorb : (p q : X → Bool) (xs : List X) → ((x : X) → p x ≡ true → q x ≡ true) → filter p (filter q xs) ≡ filter p xs
  filter-absorb p q [] h = refl
  filter-absorb p q (x ∷ xs) h = go (q x) (p x) refl refl (filter-absorb p q xs h)
    where
      go : (b c : Bool) → q x ≡ b → p x ≡ c → filter p (filter q xs) ≡ filter p xs → filter p (cond b (x ∷ filter q xs) (filter q xs)) ≡ cond c (x ∷ filter p xs) (filter p xs)
      go true true e f k = rw f (ap (λ (ys : List X). x ∷ ys) k)
      go true false e f k = rw f k
      go false true e f k = let g : q x ≡ true = h x f in cc
      go false false e f k = k

  pub filter-filter : (p q : X → Bool) (xs : List X) → filter p (filter q xs) ≡ filter (λ x. q x && p x) xs
  filter-filter p q [] = refl
  filter-filter p q (x ∷ xs) = go (q x) (p x) refl (filter-filter p q xs)
    where
      go : (b c : Bool) → p x ≡ c → filter p (filter q xs) ≡ filter (λ x. q x && p x) xs → filter p (cond b (x ∷ filter q xs) (filter q xs)) ≡ cond (b && c) (x ∷ filter (λ x. q x && p x) xs) (filter (λ x. q x && p x) xs)
      go true true f k = rw f (ap (λ (ys : List X). x ∷ ys) k)
      go true false f k = rw f k
      go false c f k = k

  pub filter-all : (p : X → Bool) (xs : List X) → AllByRecursion (λ x. p x ≡ true) xs → filter p xs ≡ xs
  filter-all p [] h = refl
  filter-all p (x ∷ xs) h = rw h.0 (ap (λ (ys : List X). x ∷ ys) (filter-all p xs h.1))

  pub filter-none : (p : X → Bool) (xs : List X) → AllByRecursion (λ x. p x ≡ false) xs → filter p xs ≡ []
  filter-none p [] h = refl
  filter-none p (x ∷ xs) h = rw h.0 (filter-none p xs h.1)

  pub every-append : (P : X → Type 0) (xs ys : List X) → AllByRecursion P xs → AllByRecursion P ys → AllByRecursion P (xs ++ ys)
  every-append P [] ys h k = k
  every-append P (x ∷ xs) ys h k = (h.0, every-append P xs ys h.1 k)

  pub every-left : (P : X → Type 0) (xs ys : List X) → AllByRecursion P (xs ++ ys) → AllByRecursion P xs
  every-left P [] ys h = tt
  every-left P (x ∷ xs) ys h = (h.0, every-left P xs ys h.1)

  pub every-right : (P : X → Type 0) (xs ys : List X) → AllByRecursion P (xs ++ ys) → AllByRecursion P ys
  every-right P [] ys h = h
  every-right P (x ∷ xs) ys h = every-right P xs ys h.1

  pub every-weaker : (P Q : X → Type 0) (xs : List X) → ((x : X) → P x → Q x) → AllByRecursion P xs → AllByRecursion Q xs
  every-weaker P Q [] f h = tt
  every-weaker P Q (x ∷ xs) f h = (f x h.0, every-weaker P Q xs f h.1)

  pub every-both : (P Q R : X → Type 0) (xs : List X) → ((x : X) → P x → Q x → R x) → AllByRecursion P xs → AllByRecursion Q xs → AllByRecursion R xs
  every-both P Q R [] f h k = tt
  every-both P Q R (x ∷ xs) f h k = (f x h.0 k.0, every-both P Q R xs f h.1 k.1)

  -- what a filter keeps passes, and is true of what all is
  pub every-kept : (p : X → Bool) (P Q : X → Type 0) (xs : List X) → ((x : X) → p x ≡ true → P x → Q x) → AllByRecursion P xs → AllByRecursion Q (filter p xs)
  every-kept p P Q [] f h = tt
  every-kept p P Q (x ∷ xs) f h = go (p x) refl (every-kept p P Q xs f h.1)
    where
      go : (b : Bool) → p x ≡ b → AllByRecursion Q (filter p xs) → AllByRecursion Q (cond b (x ∷ filter p xs) (filter p xs))
      go true e rest = (f x e h.0, rest)
      go false e rest = rest

  pub every-any : (P : X → Type 0) (xs : List X) → ((x : X) → P x) → AllByRecursion P xs
  every-any P [] f = tt
  every-any P (x ∷ xs) f = (f x, every-any P xs f)

  pub every-filter : (p : X → Bool) (P : X → Type 0) (xs : List X) → AllByRecursion P xs → AllByRecursion P (filter p xs)
  every-filter p P xs h = every-kept p P P xs (λ x e k. k) h

  pub every-at : (P : X → Type 0) (xs : List X) (i : ℕ) (d : X) → P d → AllByRecursion P xs → P (get_or xs i d)
  every-at P [] i d z h = z
  every-at P (x ∷ xs) zero d z h = h.0
  every-at P (x ∷ xs) (suc i) d z h = every-at P xs i d z h.1

-- what is true of each of some items is true of each of what they are made into
pub every-map : {X Y : Type 0} (P : Y → Type 0) (f : X → Y) (xs : List X) → AllByRecursion (λ x. P (f x)) xs → AllByRecursion P (map f xs)
every-map P f [] h = tt
every-map P f (x ∷ xs) h = (h.0, every-map P f xs h.1)

pub filter-map : {X Y : Type 0} (p : Y → Bool) (f : X → Y) (xs : List X) → filter p (map f xs) ≡ map f (filter (λ x. p (f x)) xs)
filter-map p f [] = refl
filter-map {X} {Y} p f (x ∷ xs) = go (p (f x)) (filter-map p f xs)
  where
    go : (b : Bool) → filter p (map f xs) ≡ map f (filter (λ x. p (f x)) xs) → cond b (f x ∷ filter p (map f xs)) (filter p (map f xs)) ≡ map f (cond b (x ∷ filter (λ x. p (f x)) xs) (filter (λ x. p (f x)) xs))
    go true h = ap (λ (ys : List Y). f x ∷ ys) h
    go false h = h

pub filter-flat_map : {X Y : Type 0} (p : Y → Bool) (f : X → List Y) (xs : List X) → filter p (flat_map f xs) ≡ flat_map (λ x. filter p (f x)) xs
filter-flat_map p f [] = refl
filter-flat_map {X} {Y} p f (x ∷ xs) = filter-append p (f x) (flat_map f xs) ∙ ap (λ (ys : List Y). filter p (f x) ++ ys) (filter-flat_map p f xs)

pub flat_map-none : {X Y : Type 0} (f : X → List Y) (d : X) (xs : List X) → ((i : ℕ) → f (get_or xs i d) ≡ []) → flat_map f xs ≡ []
flat_map-none f d [] h = refl
flat_map-none {X} {Y} f d (x ∷ xs) h = ap (λ (ys : List Y). ys ++ flat_map f xs) (h 0) ∙ flat_map-none f d xs (λ i. h (suc i))

-- where all but one give nothing, all give what that one does
pub flat_map-only : {X Y : Type 0} (f : X → List Y) (d : X) (xs : List X) (k : ℕ) → f d ≡ [] → ((i : ℕ) → i ≢ k → f (get_or xs i d) ≡ []) → flat_map f xs ≡ f (get_or xs k d)
flat_map-only f d [] k none other = sym none
flat_map-only {X} {Y} f d (x ∷ xs) zero none other = ap (λ (ys : List Y). f x ++ ys) (flat_map-none f d xs (λ i. other (suc i) (omega arith))) ∙ append-nil (f x)
flat_map-only {X} {Y} f d (x ∷ xs) (suc k) none other =
    ap (λ (ys : List Y). ys ++ flat_map f xs) (other 0 (omega arith)) ∙ flat_map-only f d xs k none (λ i n. other (suc i) (omega arith))

-- a function of a choice is a choice
pub through : {X Y : Type 0} (f : X → Y) (b : Bool) (x y : X) → f (cond b x y) ≡ cond b (f x) (f y)
through f true x y = refl
through f false x y = refl

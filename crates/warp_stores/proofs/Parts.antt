-- Parts of lists.
use Rattle.std.proofs.Common.{◌≡◌, ℕ, ◌+◌, ◌-◌, ◌<◌, ◌≤◌, List, [], ◌∷◌, ◌++◌, length, get_or, take, drop, refl, ap, sym, ◌∙◌, subst, arith, length-append}
use Rattle.std.specs.List.{All, between}
use Rattle.std.proofs.lemmas.List.{take-append-drop, take-take, drop-append-le, length-take-le, get_or_append_left, get_or-append-add, drop-drop}
use Rattle.std.proofs.lemmas.Slice.{between_is, between_to_end}
use Rattle.std.proofs.lemmas.List.Edits.{between_none, between_more}

-- what is ahead of a place, and then what is up to another
pub take_between : {X : Type 0} (xs : List X) (i j : ℕ) → i ≤ j → take j xs ≡ take i xs ++ between i j xs
take_between xs i j h =
    sym (take-append-drop i (take j xs)) ∙ rw (take-take i j xs h, between_is xs i j) refl

-- what is between two places, by one between them
pub between_append : {X : Type 0} (xs : List X) (i j k : ℕ) → i ≤ j → j ≤ k → j ≤ length xs → between i k xs ≡ between i j xs ++ between j k xs
between_append {X} xs i j k h g l =
    let le : i ≤ length (take j xs) = omega (arith, length-take-le j xs l) in
    between_is xs i k
    ∙ ap (drop i) (take_between xs j k g)
    ∙ drop-append-le i (take j xs) (between j k xs) le
    ∙ ap (λ (ys : List X). ys ++ between j k xs) (sym (between_is xs i j))

-- a part of what is ahead of a place
pub between-take : {X : Type 0} (xs : List X) (i j k : ℕ) → j ≤ k → between i j (take k xs) ≡ between i j xs
between-take xs i j k h = rw (between_is (take k xs) i j, take-take j k xs h, between_is xs i j) refl

-- a part of what is behind a place
pub between-drop : {X : Type 0} (xs : List X) (n i j : ℕ) → between i j (drop n xs) ≡ between (n + i) (n + j) xs
between-drop xs n i j =
    let e : (n + j) - (n + i) ≡ j - i = omega arith in
    rw (drop-drop i n xs, e) refl

pub All-left : {X : Type 0} (P : X → Type 0) (a b : List X) → All P (a ++ b) → All P a
All-left P a b all = λ k d h. subst P (get_or_append_left a b d k h) (all k d (omega (arith, length-append a b)))

pub All-right : {X : Type 0} (P : X → Type 0) (a b : List X) → All P (a ++ b) → All P b
All-right P a b all = λ k d h. subst P (get_or-append-add a b k d) (all (length a + k) d (omega (arith, length-append a b)))

-- what holds of all between two places holds between nearer ones
pub All-between : {X : Type 0} (P : X → Type 0) (xs : List X) (i j k l : ℕ) → i ≤ j → j ≤ k → k ≤ l → l ≤ length xs → All P (between i l xs) → All P (between j k xs)
All-between {X} P xs i j k l h g m n all =
    let whole : All P (between i j xs ++ between j l xs) = subst (λ (ys : List X). All P ys) (between_append xs i j l h (omega arith) (omega arith)) all in
    let rest : All P (between j k xs ++ between k l xs) = subst (λ (ys : List X). All P ys) (between_append xs j k l g m (omega arith)) (All-right P (between i j xs) (between j l xs) whole) in
    All-left P (between j k xs) (between k l xs) rest

-- the first between two places, and the others
pub between_cons : {X : Type 0} (xs : List X) (i j : ℕ) (d : X) → i < j → j ≤ length xs → between i j xs ≡ get_or xs i d ∷ between (i + 1) j xs
between_cons xs i j d h l =
    let one : between i (i + 1) xs ≡ get_or xs i d ∷ [] = between_more xs i i d (omega arith) (omega arith) ∙ rw (between_none xs i) refl in
    between_append xs i (i + 1) j (omega arith) (omega arith) (omega arith) ∙ rw one refl

-- all from a place on
pub between_end : {X : Type 0} (xs : List X) (i : ℕ) → between i (length xs) xs ≡ drop i xs
between_end xs i = between_to_end xs i (length xs) (omega arith)

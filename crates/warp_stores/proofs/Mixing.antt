-- Lists whose first elements are made from those of another list.
use Rattle.std.proofs.Common.{◌≡◌, ℕ, zero, suc, ◌+◌, ◌<◌, ◌≤◌, List, [], ◌∷◌, ◌++◌, length, get_or, set, take, drop, map, refl, ap, arith, add-one}
use Rattle.std.specs.List.{flat_map}

-- the first elements are made from those of a list, the others are as in another
abbrev pub mixed : {X Y : Type 0} → (X → Y) → ℕ → List X → List Y → List Y
mixed f i xs ys = map f (take i xs) ++ drop i ys

-- all are made
pub mixed-all : {X Y : Type 0} (f : X → Y) (i : ℕ) (xs : List X) (ys : List Y) → length ys ≡ length xs → length xs ≤ i → mixed f i xs ys ≡ map f xs
mixed-all f zero [] [] e l = refl
mixed-all f (suc i) [] [] e l = refl
mixed-all f i [] (y ∷ ys) e l = absurd (omega arith)
mixed-all f i (x ∷ xs) [] e l = absurd (omega arith)
mixed-all f zero (x ∷ xs) (y ∷ ys) e l = absurd (omega arith)
mixed-all {X} {Y} f (suc i) (x ∷ xs) (y ∷ ys) e l = ap (λ (zs : List Y). f x ∷ zs) (mixed-all f i xs ys (omega arith) (omega arith))

mixed-set_suc : {X Y : Type 0} (f : X → Y) (i : ℕ) (xs : List X) (ys : List Y) (d : X) → length ys ≡ length xs → i < length xs → set (mixed f i xs ys) i (f (get_or xs i d)) ≡ mixed f (suc i) xs ys
mixed-set_suc f i [] ys d e l = absurd (omega arith)
mixed-set_suc f i (x ∷ xs) [] d e l = absurd (omega arith)
mixed-set_suc f zero (x ∷ xs) (y ∷ ys) d e l = refl
mixed-set_suc {X} {Y} f (suc i) (x ∷ xs) (y ∷ ys) d e l = ap (λ (zs : List Y). f x ∷ zs) (mixed-set_suc f i xs ys d (omega arith) (omega arith))

-- one more is made
pub mixed-set : {X Y : Type 0} (f : X → Y) (i : ℕ) (xs : List X) (ys : List Y) (d : X) → length ys ≡ length xs → i < length xs → set (mixed f i xs ys) i (f (get_or xs i d)) ≡ mixed f (i + 1) xs ys
mixed-set f i xs ys d e l = rw add-one (mixed-set_suc f i xs ys d e l)

-- what is made is what was there
pub mixed-skip : {X Y : Type 0} (f : X → Y) (i j : ℕ) (xs : List X) (ys : List Y) (d : X) (b : Y) → length ys ≡ length xs → i ≤ j → j ≤ length xs → ((k : ℕ) → i ≤ k → k < j → f (get_or xs k d) ≡ get_or ys k b) → mixed f j xs ys ≡ mixed f i xs ys
mixed-skip f zero zero xs ys d b e l m h = refl
mixed-skip f (suc i) zero xs ys d b e l m h = absurd (omega arith)
mixed-skip f i (suc j) [] ys d b e l m h = absurd (omega arith)
mixed-skip f i (suc j) (x ∷ xs) [] d b e l m h = absurd (omega arith)
mixed-skip {X} {Y} f zero (suc j) (x ∷ xs) (y ∷ ys) d b e l m h =
    let rest : mixed f j xs ys ≡ mixed f 0 xs ys = mixed-skip f zero j xs ys d b (omega arith) (omega arith) (omega arith) (λ k p q. h (suc k) (omega arith) (omega arith)) in
    rw (h 0 (omega arith) (omega arith), rest) refl
mixed-skip {X} {Y} f (suc i) (suc j) (x ∷ xs) (y ∷ ys) d b e l m h =
    ap (λ (zs : List Y). f x ∷ zs) (mixed-skip f i j xs ys d b (omega arith) (omega arith) (omega arith) (λ k p q. h (suc k) (omega arith) (omega arith)))

-- an element that isn't made yet
pub get_or-mixed : {X Y : Type 0} (f : X → Y) (i k : ℕ) (xs : List X) (ys : List Y) (b : Y) → length ys ≡ length xs → i ≤ k → i ≤ length xs → get_or (mixed f i xs ys) k b ≡ get_or ys k b
get_or-mixed f zero k xs ys b e l m = refl
get_or-mixed f (suc i) k [] ys b e l m = absurd (omega arith)
get_or-mixed f (suc i) zero (x ∷ xs) ys b e l m = absurd (omega arith)
get_or-mixed f (suc i) (suc k) (x ∷ xs) [] b e l m = absurd (omega arith)
get_or-mixed f (suc i) (suc k) (x ∷ xs) (y ∷ ys) b e l m = get_or-mixed f i k xs ys b (omega arith) (omega arith) (omega arith)

pub length-mixed : {X Y : Type 0} (f : X → Y) (i : ℕ) (xs : List X) (ys : List Y) → length ys ≡ length xs → i ≤ length xs → length (mixed f i xs ys) ≡ length xs
length-mixed f zero xs ys e l = e
length-mixed f (suc i) [] ys e l = absurd (omega arith)
length-mixed f (suc i) (x ∷ xs) [] e l = absurd (omega arith)
length-mixed f (suc i) (x ∷ xs) (y ∷ ys) e l = ap suc (length-mixed f i xs ys (omega arith) (omega arith))

-- elements of which nothing comes
pub flat_map-skip : {X A : Type 0} (f : X → List A) (i j : ℕ) (xs : List X) (d : X) → i ≤ j → j ≤ length xs → ((k : ℕ) → i ≤ k → k < j → f (get_or xs k d) ≡ []) → flat_map f (take j xs) ≡ flat_map f (take i xs)
flat_map-skip f zero zero xs d l m h = refl
flat_map-skip f (suc i) zero xs d l m h = absurd (omega arith)
flat_map-skip f i (suc j) [] d l m h = absurd (omega arith)
flat_map-skip f zero (suc j) (x ∷ xs) d l m h =
    rw (h 0 (omega arith) (omega arith)) (flat_map-skip f zero j xs d (omega arith) (omega arith) (λ k p q. h (suc k) (omega arith) (omega arith)))
flat_map-skip {X} {A} f (suc i) (suc j) (x ∷ xs) d l m h =
    ap (λ (ys : List A). f x ++ ys) (flat_map-skip f i j xs d (omega arith) (omega arith) (λ k p q. h (suc k) (omega arith) (omega arith)))

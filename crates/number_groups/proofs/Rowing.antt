-- Lists that lie in one.
use Rattle.std.proofs.Common.{◌≡◌, ◌∙◌, ℕ, zero, suc, ◌+◌, ◌<◌, ◌≤◌, List, [], ◌∷◌, ◌++◌, length, get_or, refl, ap, arith}
use Rattle.std.specs.List.{between}
use Rattle.std.proofs.lemmas.Grind.{common_steps}
use Rattle.number_groups.specs.Rows.{rows_from, AreEnds}
use Rattle.number_groups.specs.Inner.Rows.{start_at}

pub length-rows_from : (start : ℕ) (es ns : List ℕ) → length (rows_from start es ns) ≡ length es
length-rows_from start [] ns = refl
length-rows_from start (e ∷ es) ns = ap suc (length-rows_from e es ns)

-- the first end isn't past all
pub start-within : (start : ℕ) (es : List ℕ) (count : ℕ) → AreEnds start es count → start ≤ count
start-within start [] count h = omega arith
start-within start (e ∷ es) count h = let rest : e ≤ count = start-within e es count h.1 in let first : start ≤ e = h.0 in omega arith

between-append : (i j : ℕ) (xs ys : List ℕ) → i ≤ j → j ≤ length xs → between i j (xs ++ ys) ≡ between i j xs
between-append i j xs ys h k = grind (arith, common_steps)

pub rows_from-append : (start : ℕ) (es ns more : List ℕ) (count : ℕ) → AreEnds start es count → count ≡ length ns → rows_from start es (ns ++ more) ≡ rows_from start es ns
rows_from-append start [] ns more count h k = refl
rows_from-append start (e ∷ es) ns more count h k =
    let within : e ≤ count = start-within e es count h.1 in
    let first : start ≤ e = h.0 in
    let here : between start e (ns ++ more) ≡ between start e ns = between-append start e ns more first (omega arith) in
    let rest : rows_from e es (ns ++ more) ≡ rows_from e es ns = rows_from-append e es ns more count h.1 k in
    cc

pub rows_from-push : (start : ℕ) (es : List ℕ) (e : ℕ) (ns : List ℕ) → (from : ℕ) → AreEnds start es from → rows_from start (es ++ e ∷ []) ns ≡ rows_from start es ns ++ between from e ns ∷ []
rows_from-push start [] e ns from h = let same : start ≡ from = h in cc
rows_from-push start (f ∷ es) e ns from h = let rest : rows_from f (es ++ e ∷ []) ns ≡ rows_from f es ns ++ between from e ns ∷ [] = rows_from-push f es e ns from h.1 in cc

pub AreEnds-push : (start : ℕ) (es : List ℕ) (e from : ℕ) → AreEnds start es from → from ≤ e → AreEnds start (es ++ e ∷ []) e
AreEnds-push start [] e from h k = let same : start ≡ from = h in (omega arith, refl)
AreEnds-push start (f ∷ es) e from h k = (h.0, AreEnds-push f es e from h.1 k)

between-rest : (xs ys : List ℕ) (n : ℕ) → n ≡ length xs + length ys → between (length xs) n (xs ++ ys) ≡ ys
between-rest xs ys n h = grind (arith, common_steps)

-- one list more
pub rows_more : (es ns row : List ℕ) (e : ℕ) → AreEnds 0 es (length ns) → e ≡ length ns + length row → rows_from 0 (es ++ e ∷ []) (ns ++ row) ≡ rows_from 0 es ns ++ row ∷ []
rows_more es ns row e h k =
    rows_from-push 0 es e (ns ++ row) (length ns) h
    ∙ ap (λ (rs : List (List ℕ)). rs ++ between (length ns) e (ns ++ row) ∷ []) (rows_from-append 0 es ns row (length ns) h refl)
    ∙ ap (λ (r : List ℕ). rows_from 0 es ns ++ r ∷ []) (between-rest ns row e k)

pub get_or-rows_from : (start : ℕ) (es ns : List ℕ) (place : ℕ) → place < length es → get_or (rows_from start es ns) place [] ≡ between (start_at start es place) (get_or es place 0) ns
get_or-rows_from start [] ns place h = absurd (omega arith)
get_or-rows_from start (e ∷ es) ns zero h = refl
get_or-rows_from start (e ∷ es) ns (suc place) h = get_or-rows_from e es ns place (omega arith)

pub end-within : (start : ℕ) (es : List ℕ) (count place : ℕ) → AreEnds start es count → place < length es → get_or es place 0 ≤ count
end-within start [] count place h k = absurd (omega arith)
end-within start (e ∷ es) count zero h k = start-within e es count h.1
end-within start (e ∷ es) count (suc place) h k = end-within e es count place h.1 (omega arith)

pub start-end : (start : ℕ) (es : List ℕ) (count place : ℕ) → AreEnds start es count → place < length es → start_at start es place ≤ get_or es place 0
start-end start [] count place h k = absurd (omega arith)
start-end start (e ∷ es) count zero h k = h.0
start-end start (e ∷ es) count (suc place) h k = start-end e es count place h.1 (omega arith)

pub start_at-zero : (start : ℕ) (es : List ℕ) → start_at start es 0 ≡ start
start_at-zero start [] = refl
start_at-zero start (e ∷ es) = refl

pub start_at-suc : (start : ℕ) (es : List ℕ) (place : ℕ) → place < length es → start_at start es (suc place) ≡ get_or es place 0
start_at-suc start [] place h = absurd (omega arith)
start_at-suc start (e ∷ []) zero h = refl
start_at-suc start (e ∷ f ∷ es) zero h = refl
start_at-suc start (e ∷ es) (suc place) h = start_at-suc e es place (omega arith)

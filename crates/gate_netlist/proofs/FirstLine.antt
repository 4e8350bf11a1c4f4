-- The first line of a text ends at the first LF.
use Rattle.std.proofs.Common.{◌≡◌, ℕ, suc, ◌+◌, ◌-◌, ◌<◌, ◌≤◌, Bool, true, false, ◌&&◌, cond, eqb, ltb, List, [], ◌∷◌, ◌++◌, length, take, drop, get_or, drop-cons, add-one, inl, inr, Some, None, refl, ap, sym, ◌∙◌, arith}
use Rattle.std.specs.List.{position, position_or_len}
use Rattle.std.proofs.lemmas.Bool.{eqb-true, cases_lt, lt-ltb}
use Rattle.std.proofs.lemmas.List.{take_rest, get_or-take, length-take, take-append-drop}
use Rattle.std.proofs.lemmas.List.Quantifiers.{position-Some}
use Rattle.std.proofs.lemmas.List.Sums.{fails_before_first}
use Rattle.gate_netlist.specs.Lines.{lines_of, at_front, begins_with_feed}
use Rattle.gate_netlist.specs.Inner.FirstLine.{first_of, others_of, first_line}
use Rattle.gate_netlist.specs.Inner.Passes.{without_return}

abbrev is_feed : ℕ → Bool
is_feed b = eqb b 10

abbrev pub HasNoFeed : List ℕ → Type 0
HasNoFeed bs = (k : ℕ) → k < length bs → is_feed (get_or bs k 0) ≡ false

begins-with_none : (bs : List ℕ) → HasNoFeed bs → begins_with_feed bs ≡ false
begins-with_none [] h = refl
begins-with_none (b ∷ bs) h = h 0 (omega arith)

and_false : {X : Type 0} (t : Bool) (x y : X) → cond (t && false) x y ≡ y
and_false true x y = refl
and_false false x y = refl

tail : (b : ℕ) (bs : List ℕ) → HasNoFeed (b ∷ bs) → HasNoFeed bs
tail b bs h = λ k lt. h (suc k) (omega arith)

head : (b : ℕ) (bs : List ℕ) → HasNoFeed (b ∷ bs) → is_feed b ≡ false
head b bs h = h 0 (omega arith)

-- a byte that ends no line
plain : (b : ℕ) (bs : List ℕ) → is_feed b ≡ false → begins_with_feed bs ≡ false → lines_of (b ∷ bs) ≡ at_front b (lines_of bs)
unfolding lines_of
plain b bs e f = rw (e, f, and_false (eqb b 13) (lines_of bs) (at_front b (lines_of bs))) refl

empty_line : lines_of [] ≡ [] ∷ []
unfolding lines_of
empty_line = refl

last_line : (bs : List ℕ) → HasNoFeed bs → lines_of bs ≡ bs ∷ []
last_line [] h = empty_line
last_line (b ∷ bs) h =
    plain b bs (head b bs h) (begins-with_none bs (tail b bs h)) ∙ ap (at_front b) (last_line bs (tail b bs h))

without_return-cons : (b c : ℕ) (bs : List ℕ) → without_return (b ∷ c ∷ bs) ≡ b ∷ without_return (c ∷ bs)
without_return-cons b c bs =
    let k : suc (suc (length bs)) - 1 ≡ suc (length bs) = omega arith in
    let j : suc (length bs) - 1 ≡ length bs = omega arith in
    rw (k, j) (elim (eqb (get_or (c ∷ bs) (length bs) 0) 13) as (λ t. cond t (b ∷ take (length bs) (c ∷ bs)) (b ∷ c ∷ bs) ≡ b ∷ cond t (take (length bs) (c ∷ bs)) (c ∷ bs)) [ true ↦ refl | false ↦ refl ])

at_feed : (rest : List ℕ) → lines_of (10 ∷ rest) ≡ [] ∷ lines_of rest
unfolding lines_of
at_feed rest = refl

one_byte : (b : ℕ) (rest : List ℕ) → is_feed b ≡ false → lines_of (b ∷ 10 ∷ rest) ≡ without_return (b ∷ []) ∷ lines_of rest
unfolding lines_of
one_byte b rest e =
    rw e (elim (eqb b 13) as (λ t. cond (t && true) ([] ∷ lines_of rest) ((b ∷ []) ∷ lines_of rest) ≡ cond t [] (b ∷ []) ∷ lines_of rest) [ true ↦ refl | false ↦ refl ])

pub before_feed : (front rest : List ℕ) → HasNoFeed front → lines_of (front ++ 10 ∷ rest) ≡ without_return front ∷ lines_of rest
before_feed [] rest h = at_feed rest
before_feed (b ∷ []) rest h = one_byte b rest (head b [] h)
before_feed (b ∷ c ∷ bs) rest h =
    plain b ((c ∷ bs) ++ 10 ∷ rest) (head b (c ∷ bs) h) (head c bs (tail b (c ∷ bs) h)) ∙ ap (at_front b) (before_feed (c ∷ bs) rest (tail b (c ∷ bs) h)) ∙ ap (λ (l : List ℕ). l ∷ lines_of rest) (sym (without_return-cons b c bs))

none_below : (n len : ℕ) → cond (ltb n len) (Some n) None ≡ None → len ≤ n
none_below n len e = elim (cases_lt n len) [ inl less ↦ (let some : cond (ltb n len) (Some n) None ≡ Some n = rw (lt-ltb _ _ less) refl in absurd cc) | inr more ↦ more ]

pub line_without_end : (bs : List ℕ) → position is_feed bs ≡ None → lines_of bs ≡ bs ∷ []
line_without_end bs e = last_line bs (λ k lt. fails_before_first is_feed bs k 0 (let h = none_below (position_or_len is_feed bs) (length bs) e in omega arith))

pub line_with_end : (bs : List ℕ) (i : ℕ) → position is_feed bs ≡ Some i → lines_of bs ≡ without_return (take i bs) ∷ lines_of (take (length bs - (i + 1)) (drop (i + 1) bs))
line_with_end bs i e =
    let found = position-Some is_feed bs i 0 e in
    let in_bs : i < length bs = found.0 in
    let rest : drop i bs ≡ 10 ∷ drop (i + 1) bs = rw (add-one, drop-cons bs i 0) (ap (λ b. b ∷ drop (suc i) bs) (eqb-true _ _ found.1)) in
    let whole : bs ≡ take i bs ++ 10 ∷ drop (i + 1) bs = sym (take-append-drop i bs) ∙ ap (λ (r : List ℕ). take i bs ++ r) rest in
    rw take_rest (ap lines_of whole ∙ before_feed (take i bs) (drop (i + 1) bs) (λ k lt. let below : k < i = omega (arith, length-take i bs) in rw get_or-take (found.2 k below)))

-- a text has a first line
at_front-some : (b : ℕ) (ls : List (List ℕ)) → at_front b ls ≡ first_of (at_front b ls) ∷ others_of (at_front b ls)
at_front-some b [] = refl
at_front-some b (l ∷ ls) = refl

some-lines : (t u : Bool) (b : ℕ) (ls : List (List ℕ)) → ls ≡ first_of ls ∷ others_of ls
    → cond t ([] ∷ ls) (cond u ls (at_front b ls)) ≡ first_of (cond t ([] ∷ ls) (cond u ls (at_front b ls))) ∷ others_of (cond t ([] ∷ ls) (cond u ls (at_front b ls)))
some-lines true u b ls h = refl
some-lines false true b ls h = h
some-lines false false b ls h = at_front-some b ls

pub some_line : (text : List ℕ) → lines_of text ≡ first_line text ∷ others_of (lines_of text)
unfolding lines_of
some_line [] = refl
some_line (b ∷ bs) = some-lines (eqb b 10) (eqb b 13 && begins_with_feed bs) b (lines_of bs) (some_line bs)

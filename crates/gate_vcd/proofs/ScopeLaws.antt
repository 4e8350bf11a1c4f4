-- Laws of the paths of open scopes.
use Rattle.std.proofs.Common.{◌≡◌, ℕ, zero, suc, ◌+◌, ◌-◌, ◌<◌, ◌≤◌, Bool, true, false, cond, ◌&&◌, nat_eq, nat_lt, List, [], ◌∷◌, ◌++◌, map, length, drop, get_or, slice_get, Option, Some, None, unwrap_or, refl, ap, sym, ◌∙◌, arith, add-one, length-append}
use Rattle.std.proofs.lemmas.Bool.Decides.{nat_tests}
use Rattle.std.proofs.lemmas.List.{map-append, length-map}
use Rattle.std.specs.List.{starts_with}
use Rattle.std.specs.Str.{bytes_eq}
use Rattle.gate_vcd.specs.Declarations.{path_of, inner_path, is_counted}
use Rattle.gate_vcd.specs.Inner.Scopes.{end_in, next_end, is_asked}
use Rattle.gate_vcd.specs.Shown.Scopes.{along, AreAlong}

-- a text that begins with two texts in a row
pub starts-append : (p q t : List ℕ) → starts_with nat_eq t (p ++ q) ≡ (starts_with nat_eq t p && starts_with nat_eq (drop (length p) t) q)
starts-append [] q t = refl
starts-append (a ∷ p) q [] = refl
starts-append (a ∷ p) q (b ∷ t) = elim (nat_eq a b) as (λ s. (s && starts_with nat_eq t (p ++ q)) ≡ ((s && starts_with nat_eq t p) && starts_with nat_eq (drop (length p) t) q)) [ true ↦ starts-append p q t | false ↦ refl ]

lt_same : (x y a b : ℕ) → (x < y → a < b) → (a < b → x < y) → nat_lt x y ≡ nat_lt a b
lt_same x y a b f g = go (nat_lt x y) (nat_lt a b) refl refl
  where
    go : (s r : Bool) → nat_lt x y ≡ s → nat_lt a b ≡ r → s ≡ r
    go true true e d = refl
    go false false e d = refl
    go true false e d = let l : x < y = grind (arith, nat_tests, e) in let m : b ≤ a = grind (arith, nat_tests, d) in let k : a < b = f l in absurd (omega arith)
    go false true e d = let l : y ≤ x = grind (arith, nat_tests, e) in let m : a < b = grind (arith, nat_tests, d) in let k : x < y = g m in absurd (omega arith)

none_below : (n : ℕ) → nat_lt n 0 ≡ false
none_below n = grind (arith, nat_tests)

some_above : (n : ℕ) → nat_lt 0 (suc n) ≡ true
some_above n = grind (arith, nat_tests)

suc_below : (m n : ℕ) → nat_lt (suc m) (suc n) ≡ nat_lt m n
suc_below m n = lt_same (suc m) (suc n) m n (λ h. omega arith) (λ h. omega arith)

-- and with a byte and a text after a place
starts-cons : (a at : ℕ) (q t : List ℕ) → starts_with nat_eq (drop at t) (a ∷ q) ≡ ((nat_lt at (length t) && nat_eq a (get_or t at 0)) && starts_with nat_eq (drop (at + 1) t) q)
starts-cons a zero q [] = rw (none_below 0) refl
starts-cons a (suc at) q [] = rw (none_below (suc at)) refl
starts-cons a zero q (b ∷ t) = rw (some_above (length t)) refl
starts-cons a (suc at) q (b ∷ t) = rw (suc_below at (length t), add-one (suc at)) (starts-cons a at q t ∙ rw (add-one at) refl)

eq_turned : (a b : ℕ) → nat_eq a b ≡ nat_eq b a
eq_turned a b = grind (arith, nat_tests)

drop-zero-plus : (n : ℕ) → 0 + n ≡ n
drop-zero-plus n = omega arith

length-dotted : (s name : List ℕ) → length (s ++ 46 ∷ name) ≡ length s + 1 + length name
length-dotted s name = omega (arith, length-append s (46 ∷ name))

-- where the path of a new scope ends, by the end of the one that it stands in
along-inner : (asked s name : List ℕ) → along asked (s ++ 46 ∷ name) ≡ next_end asked (Some (along asked s)) name
along-inner asked s name = go (starts_with nat_eq asked s) refl
  where
    go : (b : Bool) → starts_with nat_eq asked s ≡ b → along asked (s ++ 46 ∷ name) ≡ next_end asked (Some (cond b (Some (length s)) None)) name
    go false e = rw (starts-append s (46 ∷ name) asked, e) refl
    go true e = rw (starts-append s (46 ∷ name) asked, e, starts-cons 46 (length s) name asked, eq_turned 46 (get_or asked (length s) 0)) (by_dot (nat_lt (length s) (length asked) && nat_eq (get_or asked (length s) 0) 46))
      where
        by_dot : (d : Bool) → cond (d && starts_with nat_eq (drop (length s + 1) asked) name) (Some (length (s ++ 46 ∷ name))) None ≡ cond d (end_in asked (length s + 1) name) None
        by_dot false = refl
        by_dot true = ap (λ n. cond (starts_with nat_eq (drop (length s + 1) asked) name) (Some n) None) (length-dotted s name)

slice_get-map : {X Y : Type 0} (f : X → Y) (xs : List X) (i : ℕ) (d : X) → i < length xs → slice_get (map f xs) i ≡ Some (f (get_or xs i d))
slice_get-map f [] i d h = absurd (omega arith)
slice_get-map f (x ∷ xs) zero d h = refl
slice_get-map f (x ∷ xs) (suc i) d h = slice_get-map f xs i d (omega arith)

-- the innermost of the ends
abbrev inner : List (Option ℕ) → Option (Option ℕ)
inner ends = slice_get ends (length ends - 1)

inner-along : (asked : List ℕ) (s : List ℕ) (ss : List (List ℕ)) → inner (map (along asked) (s ∷ ss)) ≡ Some (along asked (path_of (s ∷ ss)))
inner-along asked s ss =
    let e : length (map (along asked) (s ∷ ss)) ≡ length (s ∷ ss) = length-map (s ∷ ss) (along asked) in
    rw e (slice_get-map (along asked) (s ∷ ss) (length (s ∷ ss) - 1) [] (omega arith))

next_end-is : (asked name : List ℕ) (scopes : List (List ℕ)) → next_end asked (inner (map (along asked) scopes)) name ≡ along asked (inner_path scopes name)
next_end-is asked name [] = rw (drop-zero-plus (length name)) refl
next_end-is asked name (s ∷ ss) = rw (inner-along asked s ss) (sym (along-inner asked (path_of (s ∷ ss)) name))

-- a scope that opens
pub opened : (asked : Option (List ℕ)) (text name : List ℕ) (ends new : List (Option ℕ)) (end : Option ℕ) (scopes : List (List ℕ)) → text ≡ unwrap_or asked [] → end ≡ next_end text (inner ends) name
    → new ≡ ends ++ end ∷ [] → AreAlong asked ends scopes → AreAlong asked new (scopes ++ inner_path scopes name ∷ [])
opened asked text name ends new end scopes et ee en h =
    let here : end ≡ along (unwrap_or asked []) (inner_path scopes name) = ee ∙ rw (et, h) (next_end-is (unwrap_or asked []) name scopes) in
    rw (en, here, h) (sym (map-append (along (unwrap_or asked [])) scopes (inner_path scopes name ∷ [])))

eq_suc : (a b : ℕ) → nat_eq (suc a) (suc b) ≡ nat_eq a b
eq_suc a b = grind (arith, nat_tests)

not_zero : (a : ℕ) → nat_eq (suc a) 0 ≡ false
not_zero a = grind (arith, nat_tests)

zero_not : (a : ℕ) → nat_eq 0 (suc a) ≡ false
zero_not a = grind (arith, nat_tests)

-- a text that begins with another as long is that one
starts-whole : (p t : List ℕ) → (starts_with nat_eq t p && nat_eq (length p) (length t)) ≡ bytes_eq p t
starts-whole [] [] = refl
starts-whole [] (b ∷ t) = zero_not (length t)
starts-whole (a ∷ p) [] = refl
starts-whole (a ∷ p) (b ∷ t) = rw (eq_suc (length p) (length t))
    (elim (nat_eq a b) as (λ s. ((s && starts_with nat_eq t p) && nat_eq (length p) (length t)) ≡ (s && bytes_eq p t)) [ true ↦ starts-whole p t | false ↦ refl ])

-- a path is the text that is asked for where it ends with it
is_asked-path : (asked path : List ℕ) → is_asked asked (Some (along asked path)) ≡ bytes_eq path asked
is_asked-path asked path = go (starts_with nat_eq asked path) ∙ starts-whole path asked
  where
    go : (b : Bool) → is_asked asked (Some (cond b (Some (length path)) None)) ≡ (b && nat_eq (length path) (length asked))
    go true = refl
    go false = refl

pub counted : (text : List ℕ) (ends : List (Option ℕ)) (scopes : List (List ℕ)) (r : Bool) → r ≡ is_asked text (inner ends) → AreAlong (Some text) ends scopes → r ≡ is_counted (Some text) scopes
counted text ends scopes r e h = e ∙ rw h (go scopes)
  where
    go : (scopes : List (List ℕ)) → is_asked text (inner (map (along text) scopes)) ≡ bytes_eq (path_of scopes) text
    go [] = none text
      where
        none : (t : List ℕ) → nat_eq (length t) 0 ≡ bytes_eq [] t
        none [] = refl
        none (b ∷ t) = not_zero (length t)
    go (s ∷ ss) = rw (inner-along text s ss) (is_asked-path text (path_of (s ∷ ss)))

-- The open scopes as a text, a scope more or less.
use Rattle.std.proofs.Common.{◌≡◌, ◌⊎◌, inl, inr, ℕ, zero, suc, ◌+◌, ◌-◌, ◌<◌, ◌≤◌, List, [], ◌∷◌, ◌++◌, length, take, get_or, refl, ap, sym, subst, ◌∙◌, arith, length-append}
use Rattle.std.proofs.Math.Seq.{take-length, get_or-append_seam}
use Rattle.std.proofs.lemmas.List.{get_or_append_left, get_or_default, get_or-map, get_or-take, length-map, length-take, length-take-le, map-append, take-append-le, take-map}
use Rattle.gate_vcd.specs.Declarations.{inner_path, path_of}
use Rattle.vcd_bits.specs.declared.path.Path.{Path}
use Rattle.vcd_bits.specs.Inner.Paths.{IsOpen, further, last_end, paths_in}

le_or_lt : (n m : ℕ) → (n ≤ m) ⊎ (m < n)
le_or_lt n m = grind arith

-- ends within a text end there also in a longer one
same-paths : (text more : List ℕ) (ends : List ℕ) → ((i : ℕ) → i < length ends → get_or ends i 0 ≤ length text) → paths_in (text ++ more) ends ≡ paths_in text ends
same-paths text more [] h = refl
same-paths text more (e ∷ ends) h = rw (take-append-le e text more (h 0 (omega arith)), same-paths text more ends (λ i l. h (suc i) (omega arith))) refl

abbrev AreRising : List ℕ → Type 0
AreRising ends = (i j d : ℕ) → i ≤ j → j < length ends → get_or ends i d ≤ get_or ends j d

-- no path ends after the last one
last-most : (ends : List ℕ) → AreRising ends → (i : ℕ) → i < length ends → get_or ends i 0 ≤ last_end ends
last-most ends rising i l = rising i (length ends - 1) 0 (omega arith) (omega arith)

-- the innermost path is the text up to the last end
path-last : (text : List ℕ) (e : ℕ) (ends : List ℕ) → path_of (paths_in text (e ∷ ends)) ≡ take (last_end (e ∷ ends)) text
path-last text e ends =
    let count : length (paths_in text (e ∷ ends)) ≡ length (e ∷ ends) = length-map (e ∷ ends) (λ end. take end text) in
    ap (λ n. get_or (paths_in text (e ∷ ends)) (n - 1) []) count ∙ get_or-map (λ end. take end text) (e ∷ ends) (length (e ∷ ends) - 1) 0 [] (omega arith)

empty-text : (text : List ℕ) → 0 ≡ length text → text ≡ []
empty-text [] e = refl
empty-text (b ∷ bs) e = absurd (omega arith)

pub path-whole : (p : Path) (scopes : List (List ℕ)) → IsOpen p scopes → p.text.items ≡ path_of scopes
path-whole p scopes is = is_path p.text.items p.ends.items scopes is.paths is.whole
  where
    is_path : (text ends : List ℕ) (scopes : List (List ℕ)) → scopes ≡ paths_in text ends → last_end ends ≡ length text → text ≡ path_of scopes
    is_path text [] scopes e w = rw e (empty-text text w)
    is_path text (x ∷ ends) scopes e w = rw e (sym (path-last text x ends ∙ rw w (take-length text)))

-- the path of a scope in the innermost one
further-path : (text ends : List ℕ) (name : List ℕ) → last_end ends ≡ length text → text ++ further ends name ≡ inner_path (paths_in text ends) name
further-path text [] name w = ap (λ t. t ++ name) (empty-text text w)
further-path text (e ∷ ends) name w = ap (λ t. t ++ 46 ∷ name) (sym (path-last text e ends ∙ rw w (take-length text)))

last-behind : (ends : List ℕ) (n : ℕ) → last_end (ends ++ n ∷ []) ≡ n
last-behind ends n = let one : length (ends ++ n ∷ []) - 1 ≡ length ends = omega (arith, length-append ends (n ∷ [])) in ap (λ k. get_or (ends ++ n ∷ []) k 0) one ∙ get_or-append_seam ends n [] 0

-- one end more, which is no less than the others
rising-more : (ends : List ℕ) (n : ℕ) → AreRising ends → ((i d : ℕ) → i < length ends → get_or ends i d ≤ n) → AreRising (ends ++ n ∷ [])
rising-more ends n rising most i j d h l = by (le_or_lt (length ends) i) (le_or_lt (length ends) j)
  where
    whole : length (ends ++ n ∷ []) ≡ length ends + 1
    whole = omega (arith, length-append ends (n ∷ []))

    end : (k : ℕ) → length ends ≤ k → k < length (ends ++ n ∷ []) → get_or (ends ++ n ∷ []) k d ≡ n
    end k a b = let one : k ≡ length ends = omega (arith, whole) in rw one (get_or-append_seam ends n [] d)

    by : (length ends ≤ i) ⊎ (i < length ends) → (length ends ≤ j) ⊎ (j < length ends) → get_or (ends ++ n ∷ []) i d ≤ get_or (ends ++ n ∷ []) j d
    by (inl a) (inl b) = omega (arith, end i a (omega arith), end j b l)
    by (inl a) (inr b) = absurd (omega arith)
    by (inr a) (inl b) = omega (arith, end j b l, get_or_append_left ends (n ∷ []) d i a, most i d a)
    by (inr a) (inr b) = omega (arith, get_or_append_left ends (n ∷ []) d i a, get_or_append_left ends (n ∷ []) d j b, rising i j d h b)

within : (text ends : List ℕ) → AreRising ends → last_end ends ≡ length text → (i d : ℕ) → i < length ends → get_or ends i d ≤ length text
within text ends rising w i d l = omega (arith, last-most ends rising i l, w, get_or_default ends i d 0 l)

-- a scope is opened
pub opened : (old new : Path) (scopes : List (List ℕ)) (name : List ℕ) → new.text.items ≡ old.text.items ++ further old.ends.items name → new.ends.items ≡ old.ends.items ++ length new.text.items ∷ [] → IsOpen old scopes
    → IsOpen new (scopes ++ inner_path scopes name ∷ [])
opened old new scopes name et ee is =
    let text = old.text.items in
    let ends = old.ends.items in
    let all = within text ends is.rising is.whole in
    let longer : length text ≤ length new.text.items = omega (arith, ap length et, length-append text (further ends name)) in
    let front : paths_in new.text.items ends ≡ scopes = ap (λ t. paths_in t ends) et ∙ same-paths text (further ends name) ends (λ i l. all i 0 l) ∙ sym is.paths in
    let last : take (length new.text.items) new.text.items ≡ inner_path scopes name = take-length new.text.items ∙ et ∙ further-path text ends name is.whole ∙ ap (λ s. inner_path s name) (sym is.paths) in
    record {
      paths = sym (ap (paths_in new.text.items) ee ∙ map-append (λ end. take end new.text.items) ends (length new.text.items ∷ []) ∙ ap (λ ps. ps ++ take (length new.text.items) new.text.items ∷ []) front ∙ ap (λ t. scopes ++ t ∷ []) last);
      rising = subst AreRising (sym ee) (rising-more ends (length new.text.items) is.rising (λ i d l. (let a = all i d l in omega (arith, a, longer))));
      whole = ap last_end ee ∙ last-behind ends (length new.text.items);
    }

take-twice : (n m : ℕ) (xs : List ℕ) → n ≤ m → take n (take m xs) ≡ take n xs
take-twice zero m xs h = refl
take-twice (suc n) zero xs h = absurd (omega arith)
take-twice (suc n) (suc m) [] h = refl
take-twice (suc n) (suc m) (x ∷ xs) h = ap (λ ys. x ∷ ys) (take-twice n m xs (omega arith))

shorter-paths : (text ends : List ℕ) (m : ℕ) → ((i : ℕ) → i < length ends → get_or ends i 0 ≤ m) → paths_in (take m text) ends ≡ paths_in text ends
shorter-paths text [] m h = refl
shorter-paths text (e ∷ ends) m h = rw (take-twice e m text (h 0 (omega arith)), shorter-paths text ends m (λ i l. h (suc i) (omega arith))) refl

rising-front : (ends : List ℕ) (n : ℕ) → AreRising ends → AreRising (take n ends)
rising-front ends n rising i j d h l =
    let few : j < n = omega (arith, length-take n ends) in
    let there : j < length ends = omega (arith, length-take n ends) in
    let a = get_or-take n ends i d (omega arith) in
    let b = get_or-take n ends j d few in
    let r = rising i j d h there in
    omega (arith, a, b, r)

-- the innermost scope is closed
pub closed : (old new : Path) (scopes : List (List ℕ)) → new.ends.items ≡ take (length old.ends.items - 1) old.ends.items → new.text.items ≡ take (last_end new.ends.items) old.text.items → IsOpen old scopes → IsOpen new (take (length scopes - 1) scopes)
closed old new scopes ee et is =
    let ends = new.ends.items in
    let rising : AreRising ends = subst AreRising (sym ee) (rising-front old.ends.items (length old.ends.items - 1) is.rising) in
    let count : length scopes ≡ length old.ends.items = ap length is.paths ∙ length-map old.ends.items (λ end. take end old.text.items) in
    record {
      paths = ap (λ n. take (n - 1) scopes) count ∙ ap (take (length old.ends.items - 1)) is.paths ∙ take-map (λ end. take end old.text.items) (length old.ends.items - 1) old.ends.items ∙ ap (paths_in old.text.items) (sym ee)
          ∙ sym (ap (λ t. paths_in t ends) et ∙ shorter-paths old.text.items ends (last_end ends) (last-most ends rising));
      rising = rising;
      whole = sym (ap length et ∙ length-take-le (last_end ends) old.text.items inside);
    }
  where
    last_there : (i : ℕ) → i < length new.ends.items → get_or new.ends.items i 0 ≤ length old.text.items
    last_there i l =
        let few : i < length (take (length old.ends.items - 1) old.ends.items) = omega (arith, ap length ee) in
        let there : i < length old.ends.items = omega (arith, length-take (length old.ends.items - 1) old.ends.items) in
        let a = ap (λ xs. get_or xs i 0) ee in
        let b = get_or-take (length old.ends.items - 1) old.ends.items i 0 (omega (arith, length-take (length old.ends.items - 1) old.ends.items)) in
        let w = within old.text.items old.ends.items is.rising is.whole i 0 there in
        omega (arith, a, b, w)

    fits : (ends : List ℕ) → (ends ≡ []) ⊎ (0 < length ends)
    fits [] = inl refl
    fits (e ∷ ends) = inr (omega arith)

    inside : last_end new.ends.items ≤ length old.text.items
    inside = by (fits new.ends.items)
      where
        by : (new.ends.items ≡ []) ⊎ (0 < length new.ends.items) → last_end new.ends.items ≤ length old.text.items
        by (inl e) = let none : last_end new.ends.items ≡ 0 = ap last_end e in omega (arith, none)
        by (inr l) = last_there (length new.ends.items - 1) (omega arith)

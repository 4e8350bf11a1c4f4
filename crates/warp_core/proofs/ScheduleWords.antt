-- The first word of a line goes from the first byte that is no blank to the next blank.
use Rattle.std.proofs.Common.{◌≡◌, ℕ, suc, ◌+◌, ◌<◌, Bool, true, false, not, cond, eqb, List, [], ◌∷◌, ◌++◌, length, take, drop, get_or, refl, ap, sym, ◌∙◌, arith}
use Rattle.std.specs.List.{prefix_len}
use Rattle.std.proofs.lemmas.Bool.{eqb-true}
use Rattle.std.proofs.lemmas.List.{get_or-take, get_or-drop, length-take, length-drop, take-append-drop}
use Rattle.std.proofs.lemmas.List.Sums.{prefix_len_passes, prefix_len_stops, prefix_len-le-length}
use Rattle.warp_core.specs.Schedule.{is_blank, begins_with_word, with_byte, words_of}

abbrev is_letter : ℕ → Bool
is_letter b = not (is_blank b)

one_more : (n : ℕ) → 1 + n ≡ suc n
one_more n = omega arith

-- what stands after the blanks in front
abbrev pub after_blanks : List ℕ → List ℕ
after_blanks bs = drop (prefix_len is_blank bs) bs

words-skip : (bs : List ℕ) → words_of bs ≡ words_of (after_blanks bs)
unfolding words_of
words-skip [] = refl
words-skip (b ∷ bs) = go (is_blank b) refl (words-skip bs)
  where
    go : (s : Bool) → is_blank b ≡ s → words_of bs ≡ words_of (after_blanks bs)
        → cond s (words_of bs) (with_byte b (begins_with_word bs) (words_of bs)) ≡ words_of (drop (cond s (1 + prefix_len is_blank bs) 0) (b ∷ bs))
    go true e ih = rw (one_more (prefix_len is_blank bs)) ih
    go false e ih = rw e refl

no_words : (bs : List ℕ) → length bs ≡ 0 → words_of bs ≡ []
unfolding words_of
no_words [] e = refl
no_words (b ∷ bs) e = absurd (omega arith)

-- where nothing stands after the blanks, there are no words
pub words-none : (bs rest : List ℕ) → rest ≡ after_blanks bs → eqb (length rest) 0 ≡ true → words_of bs ≡ []
words-none bs rest e none = words-skip bs ∙ ap words_of (sym e) ∙ no_words rest (eqb-true _ _ none)

abbrev AreLetters : List ℕ → Type 0
AreLetters bs = (k : ℕ) → k < length bs → is_letter (get_or bs k 0) ≡ true

not-true : (t : Bool) → not t ≡ true → t ≡ false
not-true true e = absurd cc
not-true false e = refl

at_letter : (b : ℕ) (bs : List ℕ) (t : Bool) → is_letter b ≡ true → begins_with_word bs ≡ t → words_of (b ∷ bs) ≡ with_byte b t (words_of bs)
unfolding words_of
at_letter b bs t e f = rw (not-true (is_blank b) e, f) refl

first_word : (word rest : List ℕ) → 0 < length word → AreLetters word → begins_with_word rest ≡ false → words_of (word ++ rest) ≡ word ∷ words_of rest
first_word [] rest some letters e = absurd (omega arith)
first_word (b ∷ []) rest some letters e = at_letter b rest false (letters 0 (omega arith)) e
first_word (b ∷ c ∷ bs) rest some letters e =
    at_letter b ((c ∷ bs) ++ rest) true (letters 0 (omega arith)) (letters 1 (omega arith)) ∙ ap (with_byte b true) (first_word (c ∷ bs) rest (omega arith) (λ k lt. letters (suc k) (omega arith)) e)

begins-not : (bs : List ℕ) → (0 < length bs → is_letter (get_or bs 0 0) ≡ false) → begins_with_word bs ≡ false
begins-not [] h = refl
begins-not (b ∷ bs) h = h (omega arith)

word-some : (bs : List ℕ) → 0 < length bs → is_letter (get_or bs 0 0) ≡ true → 0 < prefix_len is_letter bs
word-some [] some e = absurd (omega arith)
word-some (b ∷ bs) some e = rw e (omega arith)

-- the bytes up to the first blank are a word
words-word : (bs : List ℕ) → 0 < length bs → is_letter (get_or bs 0 0) ≡ true → words_of bs ≡ take (prefix_len is_letter bs) bs ∷ words_of (drop (prefix_len is_letter bs) bs)
words-word bs some e =
    let n = prefix_len is_letter bs in
    let word = word-some bs some e in
    let within = prefix_len-le-length is_letter bs in
    let letters : AreLetters (take n bs) = λ k lt. (let below : k < n = omega (arith, length-take n bs) in rw get_or-take (prefix_len_passes is_letter bs k 0 below)) in
    let stops : begins_with_word (drop n bs) ≡ false = begins-not (drop n bs) (λ lt. let z : n + 0 ≡ n = omega arith in ap is_letter (get_or-drop n bs 0 0 ∙ ap (λ k. get_or bs k 0) z) ∙ prefix_len_stops is_letter bs 0 (omega (arith, length-drop n bs))) in
    ap words_of (sym (take-append-drop n bs)) ∙ first_word (take n bs) (drop n bs) (omega (arith, length-take n bs)) letters stops

begins-letter : (bs : List ℕ) → 0 < length (after_blanks bs) → is_letter (get_or (after_blanks bs) 0 0) ≡ true
begins-letter bs some =
    let n = prefix_len is_blank bs in
    let z : n + 0 ≡ n = omega arith in
    ap is_letter (get_or-drop n bs 0 0 ∙ ap (λ k. get_or bs k 0) z) ∙ ap not (prefix_len_stops is_blank bs 0 (omega (arith, length-drop n bs)))

some_left : (rest : List ℕ) → eqb (length rest) 0 ≡ false → 0 < length rest
some_left [] e = absurd cc
some_left (b ∷ bs) e = omega arith

-- else the first word stands there
pub words-first : (bs rest : List ℕ) → rest ≡ after_blanks bs → eqb (length rest) 0 ≡ false
    → words_of bs ≡ take (prefix_len is_letter rest) rest ∷ words_of (drop (prefix_len is_letter rest) rest)
words-first bs rest e some =
    let left = some_left rest some in
    let letter : is_letter (get_or rest 0 0) ≡ true = rw e (begins-letter bs (rw e at left)) in
    words-skip bs ∙ ap words_of (sym e) ∙ words-word rest left letter

-- The longest run of letters in front is the first word.
use Rattle.std.proofs.Common.{◌≡◌, ℕ, suc, ◌+◌, ◌<◌, ◌≤◌, Bool, true, false, not, ◌&&◌, List, [], ◌∷◌, ◌++◌, length, take, drop, get_or, refl, ap, sym, ◌∙◌, is_some, leb, eqb, arith}
use Rattle.std.specs.List.{prefix_len}
use Rattle.std.specs.Str.{IsUtf8}
use Rattle.std.proofs.lemmas.Bool.{leb-true}
use Rattle.std.proofs.lemmas.List.{get_or-take, get_or-drop, length-take, length-drop, take-append-drop}
use Rattle.std.proofs.lemmas.List.Sums.{prefix_len_passes, prefix_len_stops, prefix_len-le-length}
use Rattle.std.proofs.lemmas.Str.{IsUtf8-from_ascii}
use Rattle.std.proofs.lemmas.Str.Ascii.{IsAscii-from_reads}
use Rattle.gate_netlist.specs.Symbols.{Word, mark_of, is_letter, begins_with_letter, with_letter, symbols}

abbrev AreLetters : List ℕ → Type 0
AreLetters bs = (k : ℕ) → k < length bs → is_letter (get_or bs k 0) ≡ true

at_letter : (b : ℕ) (bs : List ℕ) (t : Bool) → is_letter b ≡ true → begins_with_letter bs ≡ t → symbols (b ∷ bs) ≡ with_letter b t (symbols bs)
unfolding symbols
at_letter b bs t e f = rw (e, f) refl

first_word : (word rest : List ℕ) → 0 < length word → AreLetters word → begins_with_letter rest ≡ false → symbols (word ++ rest) ≡ Word word ∷ symbols rest
first_word [] rest some letters e = absurd (omega arith)
first_word (b ∷ []) rest some letters e = at_letter b rest false (letters 0 (omega arith)) e
first_word (b ∷ c ∷ bs) rest some letters e =
    at_letter b ((c ∷ bs) ++ rest) true (letters 0 (omega arith)) (letters 1 (omega arith)) ∙ ap (with_letter b true) (first_word (c ∷ bs) rest (omega arith) (λ k lt. letters (suc k) (omega arith)) e)

begins-not : (bs : List ℕ) → (0 < length bs → is_letter (get_or bs 0 0) ≡ false) → begins_with_letter bs ≡ false
begins-not [] h = refl
begins-not (b ∷ bs) h = h (omega arith)

second : (p q r s : Bool) → (p && q && r && s) ≡ true → q ≡ true
second p true r s e = refl
second true false r s e = absurd cc
second false false r s e = absurd cc

letter-ascii : (b : ℕ) → is_letter b ≡ true → b < 128
letter-ascii b e = let h : b ≤ 126 = leb-true b 126 (second (leb 33 b) (leb b 126) (not (is_some (mark_of b))) (not (eqb b 35)) e) in omega arith

-- the word in front of the text
abbrev pub word_of : List ℕ → List ℕ
word_of bs = take (prefix_len is_letter bs) bs

pub word-letters : (bs : List ℕ) → AreLetters (word_of bs)
word-letters bs k lt =
    let below : k < prefix_len is_letter bs = omega (arith, length-take (prefix_len is_letter bs) bs) in
    rw get_or-take (prefix_len_passes is_letter bs k 0 below)

pub word-utf8 : (bs : List ℕ) → IsUtf8 (word_of bs)
word-utf8 bs = IsUtf8-from_ascii (word_of bs) (IsAscii-from_reads (word_of bs) (length (word_of bs)) (omega arith) (λ k lt. letter-ascii _ (word-letters bs k lt)))

pub word-some : (bs : List ℕ) → begins_with_letter bs ≡ true → 0 < prefix_len is_letter bs
word-some [] e = absurd cc
word-some (b ∷ bs) e = rw e (omega arith)

pub symbols-word : (bs : List ℕ) → begins_with_letter bs ≡ true → symbols bs ≡ Word (word_of bs) ∷ symbols (drop (prefix_len is_letter bs) bs)
symbols-word bs e =
    let n = prefix_len is_letter bs in
    let some = word-some bs e in
    let within = prefix_len-le-length is_letter bs in
    let stops : begins_with_letter (drop n bs) ≡ false = begins-not (drop n bs) (λ lt. let z : n + 0 ≡ n = omega arith in ap is_letter (get_or-drop n bs 0 0 ∙ ap (λ k. get_or bs k 0) z) ∙ prefix_len_stops is_letter bs 0 (omega (arith, length-drop n bs))) in
    ap symbols (sym (take-append-drop n bs)) ∙ first_word (word_of bs) (drop n bs) (omega (arith, length-take n bs)) (word-letters bs) stops

-- The code in front of a text, read word by word.
use Rattle.std.proofs.Common.{◌≡◌, ◌∙◌, ℕ, suc, ◌-◌, ◌<◌, Bool, true, false, List, [], ◌∷◌, ◌++◌, length, take, drop, get_or, refl, ap, sym, arith, eqb, inl, inr, Some, None, option_map, append-nil}
use Rattle.std.specs.Prelude.{option_to_list}
use Rattle.std.specs.List.{prefix_len, list_all}
use Rattle.std.proofs.lemmas.Bool.{cases_Bool, eqb-true}
use Rattle.std.proofs.lemmas.List.{get_or-take, length-take, length-drop, take-append-drop}
use Rattle.std.proofs.lemmas.List.Sums.{prefix_len_passes}
use Rattle.gate_netlist.specs.Lines.{lines_of}
use Rattle.gate_netlist.specs.Symbols.{Symbol, Word, mark_of, is_letter, is_allowed, begins_with_letter, before_comment, symbols}
use Rattle.gate_netlist.specs.Inner.FirstLine.{after_feed}
use Rattle.gate_netlist.specs.Inner.Passes.{without_return}
use Rattle.gate_netlist.specs.Inner.Tokens.{code_of, after_code, begins_with_code, allowed_code}
use Rattle.gate_netlist.proofs.Allowing.{allowed_code-more, is_allowed_code}
use Rattle.gate_netlist.proofs.FirstLine.{before_feed}
use Rattle.gate_netlist.proofs.Words.{word_of, symbols-word}

prefix-more : (p : ℕ → Bool) (b : ℕ) (bs : List ℕ) → p b ≡ true → prefix_len p (b ∷ bs) ≡ suc (prefix_len p bs)
prefix-more p b bs e = rw e (omega arith)

prefix-none : (p : ℕ → Bool) (b : ℕ) (bs : List ℕ) → p b ≡ false → prefix_len p (b ∷ bs) ≡ 0
prefix-none p b bs e = rw e refl

-- a byte of code in front
pub code_of-more : (b : ℕ) (bs : List ℕ) → is_allowed b ≡ true → code_of (b ∷ bs) ≡ b ∷ code_of bs
code_of-more b bs e = ap (λ n. take n (b ∷ bs)) (prefix-more is_allowed b bs e)

pub after_code-more : (b : ℕ) (bs : List ℕ) → is_allowed b ≡ true → after_code (b ∷ bs) ≡ after_code bs
after_code-more b bs e = ap (λ n. drop n (b ∷ bs)) (prefix-more is_allowed b bs e)

pub code_of-none : (b : ℕ) (bs : List ℕ) → is_allowed b ≡ false → code_of (b ∷ bs) ≡ []
code_of-none b bs e = ap (λ n. take n (b ∷ bs)) (prefix-none is_allowed b bs e)

pub after_code-none : (b : ℕ) (bs : List ℕ) → is_allowed b ≡ false → after_code (b ∷ bs) ≡ b ∷ bs
after_code-none b bs e = ap (λ n. drop n (b ∷ bs)) (prefix-none is_allowed b bs e)

letter-allowed : (b : ℕ) → is_letter b ≡ true → is_allowed b ≡ true
letter-allowed b e = rw e refl

-- what is true of the word in front of a text, and of that in front of its code
record IsWord (bs : List ℕ) : Type 0 where
  len : prefix_len is_letter (code_of bs) ≡ prefix_len is_letter bs
  word : take (prefix_len is_letter bs) (code_of bs) ≡ take (prefix_len is_letter bs) bs
  rest : drop (prefix_len is_letter bs) (code_of bs) ≡ code_of (drop (prefix_len is_letter bs) bs)
  after : after_code (drop (prefix_len is_letter bs) bs) ≡ after_code bs

word-more : (b : ℕ) (bs : List ℕ) → is_letter b ≡ true → IsWord bs → IsWord (b ∷ bs)
word-more b bs e w =
    let code = code_of-more b bs (letter-allowed b e) in
    let n = prefix-more is_letter b bs e in
    record {
      len = rw (code, n) (prefix-more is_letter b (code_of bs) e ∙ ap suc w.len);
      word = rw (code, n) (ap (λ (xs : List ℕ). b ∷ xs) w.word);
      rest = rw (code, n) w.rest;
      after = rw n (w.after ∙ sym (after_code-more b bs (letter-allowed b e)));
    }

no_word-in : (b : ℕ) (bs : List ℕ) → is_letter b ≡ false → prefix_len is_letter (code_of (b ∷ bs)) ≡ 0
no_word-in b bs e =
    elim (cases_Bool (is_allowed b)) [
      | inl allowed ↦ ap (λ xs. prefix_len is_letter xs) (code_of-more b bs allowed) ∙ prefix-none is_letter b (code_of bs) e
      | inr refused ↦ ap (λ xs. prefix_len is_letter xs) (code_of-none b bs refused)
    ]

no_word : (b : ℕ) (bs : List ℕ) → is_letter b ≡ false → IsWord (b ∷ bs)
no_word b bs e =
    let n = prefix-none is_letter b bs e in
    record {
      len = no_word-in b bs e ∙ sym n;
      word = rw n refl;
      rest = rw n refl;
      after = rw n refl;
    }

is_word : (bs : List ℕ) → IsWord bs
is_word [] = record { len = refl; word = refl; rest = refl; after = refl }
is_word (b ∷ bs) =
    elim (cases_Bool (is_letter b)) [
      | inl letter ↦ word-more b bs letter (is_word bs)
      | inr other ↦ no_word b bs other
    ]

begins-in-code : (bs : List ℕ) → begins_with_letter bs ≡ true → begins_with_letter (code_of bs) ≡ true
begins-in-code [] e = e
begins-in-code (b ∷ bs) e = ap begins_with_letter (code_of-more b bs (letter-allowed b e)) ∙ e

-- the word in front of a text is the first symbol of its code
pub code-word : (bs : List ℕ) → begins_with_letter bs ≡ true → symbols (code_of bs) ≡ Word (word_of bs) ∷ symbols (code_of (drop (prefix_len is_letter bs) bs))
code-word bs e =
    let w = is_word bs in
    symbols-word (code_of bs) (begins-in-code bs e)
    ∙ ap (λ n. Word (take n (code_of bs)) ∷ symbols (drop n (code_of bs))) w.len
    ∙ ap (λ (xs : List ℕ). Word xs ∷ symbols (drop (prefix_len is_letter bs) (code_of bs))) w.word
    ∙ ap (λ (xs : List ℕ). Word (word_of bs) ∷ symbols xs) w.rest

pub after-word : (bs : List ℕ) → after_code (drop (prefix_len is_letter bs) bs) ≡ after_code bs
after-word bs = (is_word bs).after

-- a mark, or a byte that parts words, in front
other_byte : (b : ℕ) (bs : List ℕ) → is_letter b ≡ false → symbols (b ∷ bs) ≡ option_to_list (mark_of b) ++ symbols bs
unfolding symbols
other_byte b bs e = rw e refl

pub code-mark : (b : ℕ) (bs : List ℕ) → is_allowed b ≡ true → is_letter b ≡ false → symbols (code_of (b ∷ bs)) ≡ option_to_list (mark_of b) ++ symbols (code_of bs)
code-mark b bs e f = ap symbols (code_of-more b bs e) ∙ other_byte b (code_of bs) f

pub code-mark-at : (bs : List ℕ) → begins_with_code bs ≡ true → is_letter (get_or bs 0 0) ≡ false → symbols (code_of bs) ≡ option_to_list (mark_of (get_or bs 0 0)) ++ symbols (code_of (drop 1 bs))
code-mark-at [] e f = absurd cc
code-mark-at (b ∷ bs) e f = code-mark b bs e f

pub after-mark : (bs : List ℕ) → begins_with_code bs ≡ true → after_code (drop 1 bs) ≡ after_code bs
after-mark [] e = absurd cc
after-mark (b ∷ bs) e = sym (after_code-more b bs e)

pub no_code : (bs : List ℕ) → begins_with_code bs ≡ false → code_of bs ≡ []
no_code [] e = refl
no_code (b ∷ bs) e = code_of-none b bs e

pub all_after : (bs : List ℕ) → begins_with_code bs ≡ false → after_code bs ≡ bs
all_after [] e = refl
all_after (b ∷ bs) e = after_code-none b bs e

-- where no code is left to read, all symbols stand before
symbols-none : symbols [] ≡ []
unfolding symbols
symbols-none = refl

pub code-end : (front total : List Symbol) (bs : List ℕ) → begins_with_code bs ≡ false → front ++ symbols (code_of bs) ≡ total → front ≡ total
code-end front total bs e h = sym (append-nil front) ∙ ap (λ (ss : List Symbol). front ++ ss) (sym (ap symbols (no_code bs e) ∙ symbols-none)) ∙ h

-- ---- a line that is code alone

pub all-code : (bs : List ℕ) → list_all is_allowed bs ≡ true → code_of bs ≡ bs
all-code [] e = refl
all-code (b ∷ bs) e =
    elim (cases_Bool (is_allowed b)) [
      | inl allowed ↦ (let rest : list_all is_allowed bs ≡ true = rw allowed at e in code_of-more b bs allowed ∙ ap (λ (xs : List ℕ). b ∷ xs) (all-code bs rest))
      | inr refused ↦ (let none : false ≡ true = rw refused at e in absurd cc)
    ]

code-allowed : (bs : List ℕ) → Some (code_of bs) ≡ allowed_code (code_of bs)
code-allowed [] = refl
code-allowed (b ∷ bs) =
    elim (cases_Bool (is_allowed b)) [
      | inl allowed ↦ rw (code_of-more b bs allowed) (ap (option_map (λ c. b ∷ c)) (code-allowed bs) ∙ sym (allowed_code-more b (code_of bs) allowed))
      | inr refused ↦ rw (code_of-none b bs refused) refl
    ]

is_code : (bs : List ℕ) (k : ℕ) → k < length (code_of bs) → is_allowed (get_or (code_of bs) k 0) ≡ true
is_code bs k lt =
    let below : k < prefix_len is_allowed bs = omega (arith, length-take (prefix_len is_allowed bs) bs) in
    rw get_or-take (prefix_len_passes is_allowed bs k 0 below)

differs : (b m : ℕ) → is_allowed m ≡ false → is_allowed b ≡ true → eqb b m ≡ false
differs b m e f =
    elim (cases_Bool (eqb b m)) [
      | inl same ↦ (let h : is_allowed m ≡ true = rw (eqb-true b m same) at f in absurd cc)
      | inr other ↦ other
    ]

last-differs : (xs : List ℕ) → ((k : ℕ) → k < length xs → is_allowed (get_or xs k 0) ≡ true) → eqb (get_or xs (length xs - 1) 0) 13 ≡ false
last-differs [] h = refl
last-differs (x ∷ xs) h = differs (get_or (x ∷ xs) (length (x ∷ xs) - 1) 0) 13 refl (h (length (x ∷ xs) - 1) (omega arith))

-- the first line, where an LF follows its code
pub plain_line : (text after : List ℕ) → after_code text ≡ 10 ∷ after → lines_of text ≡ code_of text ∷ lines_of after
plain_line text after e =
    let whole : text ≡ code_of text ++ 10 ∷ after = sym (take-append-drop (prefix_len is_allowed text) text) ∙ ap (λ (r : List ℕ). code_of text ++ r) e in
    let same : without_return (code_of text) ≡ code_of text = rw (last-differs (code_of text) (is_code text)) refl in
    ap lines_of whole
    ∙ before_feed (code_of text) after (λ k lt. differs (get_or (code_of text) k 0) 10 refl (is_code text k lt))
    ∙ ap (λ (l : List ℕ). l ∷ lines_of after) same

pub plain_allowed : (text : List ℕ) → (true ≡ list_all is_allowed (before_comment (code_of text))) × (code_of text ≡ before_comment (code_of text))
plain_allowed text = is_allowed_code (code_of text) (code_of text) (code-allowed text)

pub feed-first : (bs after : List ℕ) → Some after ≡ after_feed bs → bs ≡ 10 ∷ after
feed-first [] after e = absurd cc
feed-first (b ∷ bs) after e =
    elim (cases_Bool (eqb b 10)) [
      | inl feed ↦ (let same : Some after ≡ Some bs = rw feed at e in let is : after ≡ bs = cc in let ten : b ≡ 10 = eqb-true b 10 feed in rw (is, ten) refl)
      | inr other ↦ (let none : Some after ≡ None = rw other at e in absurd cc)
    ]

pub after-shorter : (text after : List ℕ) → after_code text ≡ 10 ∷ after → length after < length text
after-shorter text after e = omega (arith, ap length e, length-drop (prefix_len is_allowed text) text)

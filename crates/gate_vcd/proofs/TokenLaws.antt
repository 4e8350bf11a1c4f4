-- Laws of the tokens of a text.
use Rattle.std.proofs.Common.{◌≡◌, ℕ, suc, ◌+◌, ◌<◌, Bool, true, false, not, cond, List, [], ◌∷◌, take, drop, refl, ◌∙◌, arith}
use Rattle.std.specs.List.{prefix_len}
use Rattle.gate_vcd.specs.Tokens.{is_space, with_byte, begins_with_token, tokens_from}

one_more : (n : ℕ) → 1 + n ≡ suc n
one_more n = omega arith

past_one : (at n : ℕ) → at + 1 + n ≡ at + suc n
past_one at n = omega arith

-- white space is passed over
pub tokens-skip : (at : ℕ) (bs : List ℕ) → tokens_from at bs ≡ tokens_from (at + prefix_len is_space bs) (drop (prefix_len is_space bs) bs)
unfolding tokens_from
tokens-skip at [] = refl
tokens-skip at (b ∷ bs) = go (is_space b) refl (tokens-skip (at + 1) bs)
  where
    go : (s : Bool) → is_space b ≡ s → tokens_from (at + 1) bs ≡ tokens_from (at + 1 + prefix_len is_space bs) (drop (prefix_len is_space bs) bs)
        → cond s (tokens_from (at + 1) bs) (with_byte at b (begins_with_token bs) (tokens_from (at + 1) bs)) ≡ tokens_from (at + cond s (1 + prefix_len is_space bs) 0) (drop (cond s (1 + prefix_len is_space bs) 0) (b ∷ bs))
    go true e ih = rw (one_more (prefix_len is_space bs), ← past_one at (prefix_len is_space bs)) ih
    go false e ih = let z : at + 0 ≡ at = omega arith in rw (z, e) refl

-- after white space a token begins, or the text has ended
pub tokens-none : (at : ℕ) (bs : List ℕ) → prefix_len (λ b. not (is_space b)) (drop (prefix_len is_space bs) bs) ≡ 0 → tokens_from at (drop (prefix_len is_space bs) bs) ≡ []
unfolding tokens_from
tokens-none at [] e = refl
tokens-none at (b ∷ bs) e = go (is_space b) refl (tokens-none at bs) e
  where
    go : (s : Bool) → is_space b ≡ s → (prefix_len (λ b. not (is_space b)) (drop (prefix_len is_space bs) bs) ≡ 0 → tokens_from at (drop (prefix_len is_space bs) bs) ≡ [])
        → prefix_len (λ b. not (is_space b)) (drop (cond s (1 + prefix_len is_space bs) 0) (b ∷ bs)) ≡ 0 → tokens_from at (drop (cond s (1 + prefix_len is_space bs) 0) (b ∷ bs)) ≡ []
    go true e ih h = rw (one_more (prefix_len is_space bs)) (ih (rw (one_more (prefix_len is_space bs)) at h))
    go false e ih h = let bad : 1 + prefix_len (λ b. not (is_space b)) bs ≡ 0 = rw e at h in absurd (omega arith)

-- how many bytes stand before white space
abbrev size : List ℕ → ℕ
size bs = prefix_len (λ b. not (is_space b)) bs

abbrev IsWord : ℕ → List ℕ → Type 0
IsWord at bs = tokens_from at bs ≡ record { at = at; text = take (size bs) bs } ∷ tokens_from (at + size bs) (drop (size bs) bs)

word_first : (at b c n : ℕ) (cs : List ℕ) (s : Bool) → (0 < cond (not s) (1 + n) 0 → tokens_from (at + 1) (c ∷ cs) ≡ record { at = at + 1; text = take (cond (not s) (1 + n) 0) (c ∷ cs) } ∷ tokens_from (at + 1 + cond (not s) (1 + n) 0) (drop (cond (not s) (1 + n) 0) (c ∷ cs)))
    → with_byte at b (not s) (tokens_from (at + 1) (c ∷ cs)) ≡ record { at = at; text = b ∷ take (cond (not s) (1 + n) 0) (c ∷ cs) } ∷ tokens_from (at + suc (cond (not s) (1 + n) 0)) (drop (cond (not s) (1 + n) 0) (c ∷ cs))
word_first at b c n cs true ih = refl
word_first at b c n cs false ih = rw (ih (omega arith), past_one at (1 + n)) refl

word_rest : (at b : ℕ) (bs : List ℕ) → (0 < size bs → IsWord (at + 1) bs)
    → with_byte at b (begins_with_token bs) (tokens_from (at + 1) bs) ≡ record { at = at; text = b ∷ take (size bs) bs } ∷ tokens_from (at + suc (size bs)) (drop (size bs) bs)
unfolding tokens_from
word_rest at b [] ih = refl
word_rest at b (c ∷ cs) ih = word_first at b c (size cs) cs (is_space c) ih

word_here : (at b : ℕ) (bs : List ℕ) (s : Bool) → 0 < cond (not s) (1 + size bs) 0 → (0 < size bs → IsWord (at + 1) bs)
    → cond s (tokens_from (at + 1) bs) (with_byte at b (begins_with_token bs) (tokens_from (at + 1) bs)) ≡ record { at = at; text = take (cond (not s) (1 + size bs) 0) (b ∷ bs) } ∷ tokens_from (at + cond (not s) (1 + size bs) 0) (drop (cond (not s) (1 + size bs) 0) (b ∷ bs))
word_here at b bs true h ih = absurd (omega arith)
word_here at b bs false h ih = rw (one_more (size bs)) (word_rest at b bs ih)

-- the bytes up to white space are a token
tokens-word : (at : ℕ) (bs : List ℕ) → 0 < size bs → IsWord at bs
unfolding tokens_from
tokens-word at [] h = absurd (omega arith)
tokens-word at (b ∷ bs) h = word_here at b bs (is_space b) h (tokens-word (at + 1) bs)

-- the bytes that a reader passes over and those of the word after them
pub next_none : (at n m : ℕ) (bs rest after : List ℕ) → n ≡ prefix_len is_space bs → rest ≡ drop n bs → m ≡ prefix_len (λ b. not (is_space b)) rest → after ≡ drop m rest → m ≡ 0
    → (tokens_from at bs ≡ []) × (tokens_from (at + n + m) after ≡ [])
next_none at n m bs rest after en er em ea z =
    let gone : prefix_len (λ b. not (is_space b)) (drop (prefix_len is_space bs) bs) ≡ 0 = rw (← en, ← er, ← em) z in
    let none : (k : ℕ) → tokens_from k rest ≡ [] = λ k. rw (er, en) (tokens-none k bs gone) in
    (tokens-skip at bs ∙ rw (← en, ← er) (none (at + n)), rw (ea, z) (none (at + n + 0)))

pub next_word : (at n m : ℕ) (bs rest after : List ℕ) → n ≡ prefix_len is_space bs → rest ≡ drop n bs → m ≡ prefix_len (λ b. not (is_space b)) rest → after ≡ drop m rest → 0 < m
    → tokens_from at bs ≡ record { at = at + n; text = take m rest } ∷ tokens_from (at + n + m) after
next_word at n m bs rest after en er em ea pos =
    let here : 0 < prefix_len (λ b. not (is_space b)) rest = omega arith in
    tokens-skip at bs ∙ rw (← en, ← er, ea, em) (tokens-word (at + n) rest here)

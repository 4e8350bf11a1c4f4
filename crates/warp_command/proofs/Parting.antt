-- The first line of a text, and how a text falls into lines from it on.
use Rattle.std.proofs.Common.{◌≡◌, ◌≢◌, ℕ, suc, ◌+◌, ◌-◌, ◌<◌, ◌≤◌, List, [], ◌∷◌, ◌++◌, Bool, true, false, length, take, drop, get_or, refl, ap, ◌∙◌, inl, inr, arith, add-one, ◌==◌, if◌then◌else◌, append_assoc, append-nil, drop-cons, length-drop}
use Rattle.std.proofs.lemmas.Bool.{eq-eqb}
use Rattle.std.proofs.lemmas.Bool.Decides.{eqb_tells}
use Rattle.std.proofs.lemmas.List.{drop_all, take_all, drop-drop}
use Rattle.std.proofs.Math.Seq.{take-add}
use Rattle.std.specs.List.{concat}
use Rattle.warp_command.specs.Joined.{lines, with_front, is_parting, before_parting, after_parting}

-- the number of bytes in a text's first line
unfoldable pub line_end : List ℕ → ℕ
line_end [] = 0
line_end (byte ∷ text) = if byte == 10 then 1 else suc (line_end text)

line_end-found : (byte : ℕ) (text : List ℕ) → byte ≡ 10 → line_end (byte ∷ text) ≡ 1
unfolding line_end
line_end-found byte text found = rw (eq-eqb byte 10 found) refl

line_end-other : (byte : ℕ) (text : List ℕ) → byte ≢ 10 → line_end (byte ∷ text) ≡ suc (line_end text)
unfolding line_end
line_end-other byte text other = elim (eqb_tells byte 10) [ inl h ↦ absurd (other h.1) | inr h ↦ rw h.0 refl ]

-- the loop that looks for the end of the first line
pub line_end-at_end : (text : List ℕ) (at : ℕ) → line_end text ≡ at + line_end (drop at text) → at ≤ length text → length text ≤ at → line_end text ≡ length text
unfolding line_end
line_end-at_end text at so_far inside past =
    let none : drop at text ≡ [] = drop_all at text past in
    let all = so_far ∙ ap (λ s. at + line_end s) none in omega arith

pub line_end-here : (text : List ℕ) (at : ℕ) → line_end text ≡ at + line_end (drop at text) → at < length text → get_or text at 0 ≡ 10 → line_end text ≡ at + 1
line_end-here text at so_far inside found =
    so_far ∙ ap (λ s. at + line_end s) (drop-cons text at 0 inside) ∙ ap (λ n. at + n) (line_end-found _ _ found)

pub line_end-next : (text : List ℕ) (at : ℕ) → line_end text ≡ at + line_end (drop at text) → at < length text → get_or text at 0 ≢ 10
    → line_end text ≡ (at + 1) + line_end (drop (at + 1) text)
line_end-next text at so_far inside other =
    let here = ap (λ s. at + line_end s) (drop-cons text at 0 inside) in
    let step = line_end-other (get_or text at 0) (drop (suc at) text) other in
    rw add-one (omega (arith, so_far, here, step))

-- a text that isn't empty is its first line and the lines of the rest
after_front : (byte : ℕ) (text : List ℕ) (n : ℕ) → lines text ≡ take n text ∷ lines (drop n text) → (here : Bool)
    → (if here then (byte ∷ []) ∷ lines text else with_front byte (lines text))
    ≡ take (if here then 1 else suc n) (byte ∷ text) ∷ lines (drop (if here then 1 else suc n) (byte ∷ text))
after_front byte text n rest true = refl
after_front byte text n rest false = rw rest refl

lines-first : (byte : ℕ) (text : List ℕ)
    → lines (byte ∷ text) ≡ take (line_end (byte ∷ text)) (byte ∷ text) ∷ lines (drop (line_end (byte ∷ text)) (byte ∷ text))
unfolding lines line_end
lines-first byte [] = elim (byte == 10) as (λ here. (if here then (byte ∷ []) ∷ [] else with_front byte []) ≡ take (if here then 1 else suc 0) (byte ∷ []) ∷ lines (drop (if here then 1 else suc 0) (byte ∷ []))) [
  | true ↦ refl
  | false ↦ refl
]
lines-first byte (next ∷ text) = after_front byte (next ∷ text) (line_end (next ∷ text)) (lines-first next text) (byte == 10)

pub lines-cut : (text : List ℕ) (n : ℕ) → 0 < length text → line_end text ≡ n → lines text ≡ take n text ∷ lines (drop n text)
lines-cut [] n some is = absurd (omega arith)
lines-cut (byte ∷ text) n some is = rw (← is) (lines-first byte text)

-- how far a text has been searched: no line before `at` parts it
pub record IsPassed (text : List ℕ) (at : ℕ) : Type 0 where
  pub within : at ≤ length text
  pub before : before_parting (lines text) ≡ take at text ++ before_parting (lines (drop at text))
  pub after : after_parting (lines text) ≡ after_parting (lines (drop at text))

pub none_passed : (text : List ℕ) → IsPassed text 0
none_passed text = record { within = omega arith; before = refl; after = refl }

-- the text at `at` begins with a line of `n` bytes
abbrev pub HasLine : List ℕ → ℕ → ℕ → Type 0
HasLine text at n = lines (drop at text) ≡ take n (drop at text) ∷ lines (drop n (drop at text))

with_front-joined : (byte : ℕ) (ls : List (List ℕ)) → concat (with_front byte ls) ≡ byte ∷ concat ls
with_front-joined byte [] = refl
with_front-joined byte (line ∷ more) = refl

pub lines-joined : (text : List ℕ) → concat (lines text) ≡ text
unfolding lines
lines-joined [] = refl
lines-joined (byte ∷ text) = elim (byte == 10) as (λ here. concat (if here then (byte ∷ []) ∷ lines text else with_front byte (lines text)) ≡ byte ∷ text) [
  | true ↦ ap (λ s. byte ∷ s) (lines-joined text)
  | false ↦ with_front-joined byte (lines text) ∙ ap (λ s. byte ∷ s) (lines-joined text)
]

pub passes_line : (text : List ℕ) (at n : ℕ) → IsPassed text at → HasLine text at n → at + n ≤ length text
    → is_parting (take n (drop at text)) ≡ false → IsPassed text (at + n)
unfolding before_parting after_parting
passes_line text at n passed line within other =
    record {
      within = within;
      before = passed.before ∙ ap (λ ls. take at text ++ before_parting ls) line ∙ rw (other, take-add, ← append_assoc, drop-drop) refl;
      after = passed.after ∙ ap after_parting line ∙ rw (other, drop-drop) refl;
    }

pub parts_here : (text : List ℕ) (at n : ℕ) → IsPassed text at → HasLine text at n
    → is_parting (take n (drop at text)) ≡ true → (before_parting (lines text) ≡ take at text) × (after_parting (lines text) ≡ drop (at + n) text)
unfolding before_parting after_parting
parts_here text at n passed line here = (
  passed.before ∙ ap (λ ls. take at text ++ before_parting ls) line ∙ rw here (append-nil _),
  passed.after ∙ ap after_parting line ∙ rw (here, lines-joined, drop-drop) refl,
)

pub parts_nowhere : (text : List ℕ) (at : ℕ) → IsPassed text at → length text ≤ at → (before_parting (lines text) ≡ text) × (after_parting (lines text) ≡ [])
unfolding before_parting after_parting lines
parts_nowhere text at passed past =
    let none : drop at text ≡ [] = drop_all at text past in
    (passed.before ∙ rw none (append-nil _) ∙ take_all at text past, passed.after ∙ rw none refl)

pub rest_of-all : (text : List ℕ) (n : ℕ) → take (length text - n) (drop n text) ≡ drop n text
rest_of-all text n = take_all _ _ (omega (arith, length-drop n text))

pub added-less : (at n : ℕ) → (at + n) - at ≡ n
added-less at n = omega arith

-- The allowed bytes in front are what stands before the comment, if they end there.
use Rattle.std.proofs.Common.{◌≡◌, ℕ, suc, Bool, true, false, not, ◌&&◌, eqb, cond, List, [], ◌∷◌, take, drop, Option, Some, None, option_map, refl, ap, sym, ◌∙◌, inl, inr, arith}
use Rattle.std.specs.Prelude.{slice_get}
use Rattle.std.specs.List.{list_all, prefix_len}
use Rattle.std.proofs.lemmas.Bool.{cases_Bool, eqb-true}
use Rattle.gate_netlist.specs.Symbols.{before_comment, is_allowed}
use Rattle.gate_netlist.specs.Inner.Tokens.{allowed_code}

-- the code where this byte follows it
abbrev pub followed : List ℕ → Option ℕ → Option (List ℕ)
followed code None = Some code
followed code (Some b) = cond (eqb b 35) (Some code) None

followed-more : (b : ℕ) (code : List ℕ) (next : Option ℕ) → followed (b ∷ code) next ≡ option_map (λ c. b ∷ c) (followed code next)
followed-more b code None = refl
followed-more b code (Some n) = elim (eqb n 35) as (λ t. cond t (Some (b ∷ code)) None ≡ option_map (λ c. b ∷ c) (cond t (Some code) None)) [ true ↦ refl | false ↦ refl ]

kept-more : (b : ℕ) (code : List ℕ) (a t : Bool) → a ≡ true → cond (a && t) (Some (b ∷ code)) None ≡ option_map (λ c. b ∷ c) (cond t (Some code) None)
kept-more b code true true e = refl
kept-more b code true false e = refl
kept-more b code false t e = absurd cc

kept-none : (code : List ℕ) (a t : Bool) → a ≡ false → cond (a && t) (Some code) None ≡ None
kept-none code true t e = absurd cc
kept-none code false t e = refl

no_mark : (b : ℕ) → is_allowed b ≡ true → eqb b 35 ≡ false
no_mark b e =
    elim (cases_Bool (eqb b 35)) [
      | inl mark ↦ (let h : is_allowed 35 ≡ true = rw (eqb-true b 35 mark) at e in absurd cc)
      | inr other ↦ other
    ]

pub ends_at_mark : (code : List ℕ) (b : ℕ) → b ≡ 35 → Some code ≡ followed code (Some b)
ends_at_mark code b e = rw e refl

pub no_mark-by : (b : ℕ) → (b ≡ 35 → ⊥) → eqb b 35 ≡ false
no_mark-by b differs =
    elim (cases_Bool (eqb b 35)) [
      | inl mark ↦ absurd (differs (eqb-true b 35 mark))
      | inr other ↦ other
    ]

abbrev judged : List ℕ → Option (List ℕ)
judged code = cond (list_all is_allowed code) (Some code) None

abbrev read_to : List ℕ → ℕ → Option (List ℕ)
read_to bs n = followed (take n bs) (slice_get (drop n bs) 0)

on : (b : ℕ) (bs : List ℕ) → eqb b 35 ≡ false → before_comment (b ∷ bs) ≡ b ∷ before_comment bs
on b bs e =
    let len : prefix_len (λ x. not (eqb x 35)) (b ∷ bs) ≡ suc (prefix_len (λ x. not (eqb x 35)) bs) = rw e (omega arith) in
    ap (λ n. take n (b ∷ bs)) len

pub allowed_code-more : (b : ℕ) (bs : List ℕ) → is_allowed b ≡ true → allowed_code (b ∷ bs) ≡ option_map (λ c. b ∷ c) (allowed_code bs)
allowed_code-more b bs e = ap judged (on b bs (no_mark b e)) ∙ kept-more b (before_comment bs) (is_allowed b) (list_all is_allowed (before_comment bs)) e

allowed-more : (b : ℕ) (bs : List ℕ) → is_allowed b ≡ true → allowed_code bs ≡ read_to bs (prefix_len is_allowed bs) → allowed_code (b ∷ bs) ≡ read_to (b ∷ bs) (prefix_len is_allowed (b ∷ bs))
allowed-more b bs e h =
    let len : prefix_len is_allowed (b ∷ bs) ≡ suc (prefix_len is_allowed bs) = rw e (omega arith) in
    allowed_code-more b bs e
    ∙ ap (option_map (λ c. b ∷ c)) h
    ∙ sym (followed-more b (take (prefix_len is_allowed bs) bs) (slice_get (drop (prefix_len is_allowed bs) bs) 0))
    ∙ ap (read_to (b ∷ bs)) (sym len)

allowed-end : (b : ℕ) (bs : List ℕ) (t : Bool) → is_allowed b ≡ false → eqb b 35 ≡ t → allowed_code (b ∷ bs) ≡ cond t (Some []) None
allowed-end b bs true e f = let none : before_comment (b ∷ bs) ≡ [] = rw f refl in ap judged none
allowed-end b bs false e f = ap judged (on b bs f) ∙ kept-none (b ∷ before_comment bs) (is_allowed b) (list_all is_allowed (before_comment bs)) e

pub allowed_reads : (bs : List ℕ) → allowed_code bs ≡ read_to bs (prefix_len is_allowed bs)
allowed_reads [] = refl
allowed_reads (b ∷ bs) =
    elim (cases_Bool (is_allowed b)) [
      | inl allowed ↦ allowed-more b bs allowed (allowed_reads bs)
      | inr refused ↦ (let none : prefix_len is_allowed (b ∷ bs) ≡ 0 = rw refused refl in allowed-end b bs (eqb b 35) refused refl ∙ ap (read_to (b ∷ bs)) (sym none))
    ]

-- the allowed bytes, what follows them, and the first byte of that
pub reads_at : (line code rest : List ℕ) (n : ℕ) (next : Option ℕ) → n ≡ prefix_len is_allowed line → code ≡ take n line → rest ≡ drop n line → next ≡ slice_get rest 0 → followed code next ≡ allowed_code line
reads_at line code rest n next e f g h =
    let split : followed code next ≡ read_to line n = ap (followed code) (h ∙ ap (λ r. slice_get r 0) g) ∙ ap (λ c. followed c (slice_get (drop n line) 0)) f in
    split ∙ ap (read_to line) e ∙ sym (allowed_reads line)

kept : (t : Bool) (before code : List ℕ) → Some code ≡ cond t (Some before) None → (true ≡ t) × (code ≡ before)
kept true before code e = (refl, cc)
kept false before code e = absurd cc

pub is_allowed_code : (line code : List ℕ) → Some code ≡ allowed_code line → (true ≡ list_all is_allowed (before_comment line)) × (code ≡ before_comment line)
is_allowed_code line code e = kept (list_all is_allowed (before_comment line)) (before_comment line) code e

none_kept : (t : Bool) (before : List ℕ) → None ≡ cond t (Some before) None → t ≡ false
none_kept true before e = absurd cc
none_kept false before e = refl

pub refused_line : (line : List ℕ) → None ≡ allowed_code line → list_all is_allowed (before_comment line) ≡ false
refused_line line e = none_kept (list_all is_allowed (before_comment line)) (before_comment line) e

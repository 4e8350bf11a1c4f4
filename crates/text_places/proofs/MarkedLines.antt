-- Plain bytes are UTF-8, and marks are put below a text byte by byte.
use Rattle.std.proofs.Common.{◌≡◌, ℕ, suc, ◌+◌, ◌<◌, ◌≤◌, List, [], ◌∷◌, ◌++◌, Bool, true, false, length, drop, get_or, ap, ◌∙◌, sym, refl, append_assoc, append-nil, drop-cons, add-one, arith, codes, if◌then◌else◌}
use Rattle.std.proofs.lemmas.Bool.Decides.{nat_tests}
use Rattle.std.proofs.lemmas.List.{drop_all}
use Rattle.std.proofs.lemmas.List.Elements.{All-weaker}
use Rattle.std.proofs.lemmas.List.Sums.{AllPass-from_list_all}
use Rattle.std.proofs.lemmas.Str.{IsUtf8-from_ascii}
use Rattle.std.proofs.lemmas.Str.Ascii.{IsAscii-from_all}
use Rattle.std.specs.List.{list_all}
use Rattle.std.specs.Str.{IsUtf8}
use Rattle.text_places.specs.Told.{is_plain, begins_letter, below}

below_next : (mark : ℕ) (made rest : List ℕ) (first : Bool)
    → made ++ (if first then mark ∷ below mark rest else below mark rest) ≡ (if first then made ++ mark ∷ [] else made) ++ below mark rest
below_next mark made rest true = sym (append_assoc made (mark ∷ []) (below mark rest))
below_next mark made rest false = refl

-- the step of a loop over a text's bytes, and its end
pub below_more : (mark : ℕ) (text : List ℕ) (i : ℕ) (made more : List ℕ) → i < length text → below mark text ≡ made ++ below mark (drop i text)
    → more ≡ (if begins_letter (get_or text i 0) then made ++ mark ∷ [] else made) → below mark text ≡ more ++ below mark (drop (i + 1) text)
unfolding below
below_more mark text i made more inside so_far is =
    so_far ∙ ap (λ s. made ++ below mark s) (drop-cons text i 0 inside) ∙ below_next mark made (drop (suc i) text) (begins_letter (get_or text i 0))
    ∙ rw (is, add-one) refl

pub below_all : (mark : ℕ) (text : List ℕ) (i : ℕ) (made : List ℕ) → length text ≤ i → below mark text ≡ made ++ below mark (drop i text) → made ≡ below mark text
unfolding below
below_all mark text i made past so_far =
    sym (so_far ∙ ap (λ s. made ++ below mark s) (drop_all i text past) ∙ append-nil made)

plain-small : (byte : ℕ) → is_plain byte ≡ true → byte < 128
plain-small byte plain = grind (arith, nat_tests)

pub plain-IsUtf8 : (bytes : List ℕ) → list_all is_plain bytes ≡ true → IsUtf8 bytes
plain-IsUtf8 bytes plain =
    IsUtf8-from_ascii bytes (IsAscii-from_all bytes (All-weaker (λ b. is_plain b ≡ true) (λ b. b < 128) plain-small bytes (AllPass-from_list_all is_plain bytes plain)))

five_joined : (o a b c d e : List ℕ) → o ++ (a ++ (b ++ (c ++ (d ++ e)))) ≡ o ++ a ++ b ++ c ++ d ++ e
five_joined o a b c d e = simp append_assoc

-- a line of three parts, of which the first stands left of a bar
pub barred_line : (line margin left right margin_is left_is right_is : List ℕ) → margin ≡ margin_is → left ≡ left_is → right ≡ right_is
    → line ≡ codes "  " ++ (margin ++ (codes " | " ++ (left ++ (right ++ (10 ∷ [])))))
    → line ≡ codes "  " ++ margin_is ++ codes " | " ++ left_is ++ right_is ++ 10 ∷ []
barred_line line margin left right margin_is left_is right_is m l r is =
    rw (← m, ← l, ← r) (is ∙ five_joined (codes "  ") margin (codes " | ") left right (10 ∷ []))

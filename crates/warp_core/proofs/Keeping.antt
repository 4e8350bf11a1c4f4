-- What is left is kept, from the front on.
use Rattle.std.proofs.Common.{◌≡◌, ℕ, ◌+◌, ◌<◌, ◌≤◌, ◌++◌, nat_le, Bool, true, false, cond, List, [], ◌∷◌, length, get_or, set, take, drop, refl, ap, sym, ◌∙◌, subst, arith}
use Rattle.std.proofs.lemmas.List.{take_more, take_all, length-take-le, length-set, take_more_set, drop-set-lt, get_or-drop, drop-drop, append-nil}
use Rattle.std.specs.List.{All}
use Rattle.std.proofs.lemmas.List.Elements.{All-get_or}
use Rattle.warp_process.specs.declared.message.Message.{Message}
use Rattle.warp_core.specs.Inner.Turns.{left}
use Rattle.warp_core.specs.Inner.Turns.{IsKept}
use Rattle.warp_core.proofs.Leaving.{left-append, left_one, left_none}

-- the message at the place
same_here : (heard : ℕ → ℕ) (old new : List Message) (kept place : ℕ) (d : Message) → IsKept heard old new kept place → get_or new place d ≡ get_or old place d
same_here heard old new kept place d is = sym (at new) ∙ (ap (λ (ms : List Message). get_or ms 0 d) is.rest ∙ at old)
  where
    at : (ms : List Message) → get_or (drop place ms) 0 d ≡ get_or ms place d
    at ms = get_or-drop place ms 0 d ∙ ap (λ (k : ℕ). get_or ms k d) (zero place)
      where
        zero : (k : ℕ) → k + 0 ≡ k
        zero k = omega arith

one_more : (heard : ℕ → ℕ) (old : List Message) (place : ℕ) (m : Message) → place < length old → m ≡ get_or old place m →
    left heard 0 (take (place + 1) old) ≡ left heard 0 (take place old) ++ cond (nat_le (heard m.block) place) (m ∷ []) []
one_more heard old place m within is =
    let size : 0 + length (take place old) ≡ place = (let s = length-take-le place old (omega (arith, within)) in omega (arith, s)) in
    ap (left heard 0) (take_more old place m within ∙ ap (λ (k : Message). take place old ++ k ∷ []) (sym is))
    ∙ (left-append heard 0 (take place old) (m ∷ []) ∙ (ap (λ (k : ℕ). left heard 0 (take place old) ++ left heard k (m ∷ [])) size ∙ ap (λ (ms : List Message). left heard 0 (take place old) ++ ms) (left_one heard place m)))

rest_more : (heard : ℕ → ℕ) (old new : List Message) (kept place : ℕ) → IsKept heard old new kept place → drop (place + 1) new ≡ drop (place + 1) old
rest_more heard old new kept place is = sym (one new) ∙ (ap (drop 1) is.rest ∙ one old)
  where
    one : (ms : List Message) → drop 1 (drop place ms) ≡ drop (place + 1) ms
    one ms = drop-drop 1 place ms

pub kept_more : (heard : ℕ → ℕ) (old new : List Message) (kept place : ℕ) (m : Message) → place < length new → m ≡ get_or new place m → nat_le (heard m.block) place ≡ true → IsKept heard old new kept place →
    IsKept heard old (set new kept m) (kept + 1) (place + 1)
kept_more heard old new kept place m within at stays is =
    let behind = is.behind in
    let size = is.size in
    record {
      size = length-set new kept m ∙ size;
      behind = omega (arith, behind);
      front = take_more_set new kept m (omega (arith, behind, within)) ∙ (ap (λ (ms : List Message). ms ++ m ∷ []) is.front
          ∙ sym (one_more heard old place m (omega (arith, within, size)) (at ∙ same_here heard old new kept place m is) ∙ ap (λ (b : Bool). left heard 0 (take place old) ++ cond b (m ∷ []) []) stays));
      rest = drop-set-lt (place + 1) new kept m (omega (arith, behind)) ∙ rest_more heard old new kept place is;
    }

pub kept_past : (heard : ℕ → ℕ) (old new : List Message) (kept place : ℕ) (m : Message) → place < length new → m ≡ get_or new place m → nat_le (heard m.block) place ≡ false → IsKept heard old new kept place →
    IsKept heard old new kept (place + 1)
kept_past heard old new kept place m within at leaves is =
    let behind = is.behind in
    let size = is.size in
    record {
      size = size;
      behind = omega (arith, behind);
      front = is.front ∙ sym (one_more heard old place m (omega (arith, within, size)) (at ∙ same_here heard old new kept place m is) ∙ (ap (λ (b : Bool). left heard 0 (take place old) ++ cond b (m ∷ []) []) leaves ∙ append-nil (left heard 0 (take place old))));
      rest = rest_more heard old new kept place is;
    }

pub kept_all : (heard : ℕ → ℕ) (old new : List Message) (kept place : ℕ) → length old ≤ place → IsKept heard old new kept place → take kept new ≡ left heard 0 old
kept_all heard old new kept place all is = is.front ∙ ap (left heard 0) (take_all place old all)

pub kept_none : (heard : ℕ → ℕ) (ms : List Message) → IsKept heard ms ms 0 0
kept_none heard ms = record { size = refl; behind = omega arith; front = left_none heard 0; rest = refl }

-- each message before the end is one of the old ones
pub of_old : (P : Message → Type 0) (heard : ℕ → ℕ) (old new : List Message) (kept place : ℕ) (m : Message) → place < length new → m ≡ get_or new place m → IsKept heard old new kept place → All P old → P m
of_old P heard old new kept place m within at is all =
    let size = is.size in
    subst P (sym (at ∙ same_here heard old new kept place m is)) (All-get_or P old place m (omega (arith, within, size)) all)

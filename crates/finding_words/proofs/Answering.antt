-- What is true of an answer, by what is known of it, and of a sentence that is put together piece by piece.
use Rattle.std.proofs.Common.{◌≡◌, ℕ, List, [], ◌∷◌, ◌++◌, Result, Ok, Err, IfOk, refl, sym, subst, append_assoc, append-nil}
use Rattle.finding_words.specs.declared.sentences.Piece.{Piece}
use Rattle.finding_words.specs.Sentences.{IsWritten, IsSentence}

pub if_ok : {T E : Type 0} {P Q : T → Type 0} → ((x : T) → P x → Q x) → (answer : Result T E) → IfOk answer P → IfOk answer Q
if_ok f (Ok x) known = f x known
if_ok f (Err error) known = known

-- with what is written of the rest behind it, a text is the sentence
abbrev pub GoesOn : (pieces left : List Piece) (text : List ℕ) → Type 0
GoesOn pieces left text = (rest : List ℕ) → IsSentence left rest → IsSentence pieces (text ++ rest)

-- one piece more
pub goes_on : (pieces left more : List Piece) (piece : Piece) (old written new : List ℕ) → left ≡ piece ∷ more → IsWritten piece written → new ≡ old ++ written
    → GoesOn pieces left old → GoesOn pieces more new
unfolding IsSentence
goes_on pieces left more piece old written new first writes is so_far rest sentence =
    subst (λ text. IsSentence pieces (text ++ rest)) (sym is)
    (subst (IsSentence pieces) (sym (append_assoc old written rest))
    (so_far (written ++ rest) (subst (λ (some : List Piece). IsSentence some (written ++ rest)) (sym first) (written, rest, writes, sentence, refl))))

-- none is left
pub ends : (pieces left : List Piece) (text : List ℕ) → left ≡ [] → GoesOn pieces left text → IsSentence pieces text
unfolding IsSentence
ends pieces left text none so_far =
    subst (IsSentence pieces) (append-nil text) (so_far [] (subst (λ (some : List Piece). IsSentence some []) (sym none) refl))

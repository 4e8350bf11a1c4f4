-- What is put at the end of a text, one after another.
use Rattle.std.proofs.Common.{◌≡◌, ℕ, List, ◌++◌, ap, ◌∙◌, append_assoc}

-- a text, and then another behind it
pub put_then : {mid new : List ℕ} (old a b : List ℕ) → mid ≡ old ++ a → new ≡ mid ++ b → new ≡ old ++ (a ++ b)
put_then {mid} {new} old a b p q = q ∙ ap (λ t. t ++ b) p ∙ append_assoc old a b

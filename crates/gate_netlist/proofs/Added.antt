-- Names with one more at the end.
use Rattle.std.proofs.Common.{◌≡◌, ◌∙◌, ℕ, false, List, [], ◌∷◌, ◌++◌, map, String, Global, string_bytes, sym, ap, subst}
use Rattle.std.specs.List.{list_any}
use Rattle.std.specs.Str.{bytes_eq}
use Rattle.std.specs.String.{string_eq}
use Rattle.std.proofs.lemmas.List.{map-append}
use Rattle.indexmap.specs.IndexSet.{insert_key}

abbrev pub Name : Type 0
Name = String Global

-- a name that no key has goes last
pub map-insert_key : (keys more : List Name) (key : Name) (name : List ℕ) → more ≡ insert_key string_eq keys key → string_bytes key ≡ name
    → list_any (λ (k : Name). bytes_eq name (string_bytes k)) keys ≡ false → map string_bytes more ≡ map string_bytes keys ++ name ∷ []
map-insert_key keys more key name e same h =
    let absent : list_any (string_eq key) keys ≡ false = subst (λ (bytes : List ℕ). list_any (λ (k : Name). bytes_eq bytes (string_bytes k)) keys ≡ false) (sym same) h in
    ap (map string_bytes) e ∙ rw absent (map-append string_bytes keys (key ∷ []) ∙ ap (λ bytes. map string_bytes keys ++ bytes ∷ []) same)

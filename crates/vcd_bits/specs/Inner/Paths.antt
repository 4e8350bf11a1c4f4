-- The open scopes, as a text and where each path ends in it.
use Rattle.std.specs.Prelude.{◌≡◌, ℕ, ◌-◌, ◌≤◌, ◌<◌, List, [], ◌∷◌, map, take, length, slice_index_or}
use Rattle.vcd_bits.specs.declared.path.Path.{Path}

-- where the path of the innermost scope ends
abbrev pub last_end : List ℕ → ℕ
last_end ends = slice_index_or ends (length ends - 1) 0

-- what a scope's name adds to the path that it is in
abbrev pub further : List ℕ → List ℕ → List ℕ
further [] name = name
further (e ∷ ends) name = 46 ∷ name

-- the paths of the open scopes
abbrev pub paths_in : List ℕ → List ℕ → List (List ℕ)
paths_in text ends = map (λ end. take end text) ends

-- these are the paths of the open scopes, each longer than the one that it is in, and the last one is the text
pub record IsOpen (p : Path) (scopes : List (List ℕ)) : Type 0 where
  pub paths : scopes ≡ paths_in p.text.items p.ends.items
  pub rising : (i j : ℕ) (d : ℕ) → i ≤ j → j < length p.ends.items → slice_index_or p.ends.items i d ≤ slice_index_or p.ends.items j d
  pub whole : last_end p.ends.items ≡ length p.text.items

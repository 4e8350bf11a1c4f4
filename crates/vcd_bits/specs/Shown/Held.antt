-- What a reader of a dump's declarations keeps, and what it has read.
use Rattle.std.specs.Prelude.{ℕ, List, map, Vec}
use Rattle.std.specs.declared.alloc.Global.{Global}

-- what these vectors hold
abbrev pub texts_in : List (Vec ℕ Global) → List (List ℕ)
texts_in vs = map (λ (v : Vec ℕ Global). v.items) vs

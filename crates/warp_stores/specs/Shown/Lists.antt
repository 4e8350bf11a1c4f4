-- Vectors as lists, and lists on the way.
use Rattle.std.specs.Prelude.{List, map, Vec}
use Rattle.std.specs.declared.alloc.Global.{Global}
use Rattle.gate_values.specs.declared.logic.Change.{Change}

-- what these vectors hold
abbrev pub lists_of : List (Vec Change Global) → List (List Change)
lists_of vectors = map (λ (v : Vec Change Global). v.items) vectors

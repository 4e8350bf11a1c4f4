-- What a channel holds, and what a text leaves on it.
use Rattle.std.specs.Prelude.{◌≡◌, ℕ, List, Option, Bool, false}
use Rattle.std.specs.Io.KnownBytes.{Appends}

-- the bytes that a channel has taken, where they are known, and whether it failed at its last text
pub record Held : Type 0 where
  pub bytes : Option (List ℕ)
  pub failed : Bool

-- unless it failed, a channel has taken the text, all of it and no more
abbrev pub Takes : List ℕ → (before after : Held) → Type 0
Takes text before after = after.failed ≡ false → Appends before.bytes after.bytes text

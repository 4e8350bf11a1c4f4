-- The sooner of two times.
use Rattle.std.specs.Prelude.{ℕ, min, Option, Some, None}

-- the sooner of a time that may be there, and another
abbrev pub sooner : Option ℕ → ℕ → ℕ
sooner None time = time
sooner (Some other) time = min other time

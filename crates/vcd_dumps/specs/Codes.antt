-- The codes that stand for nets in a dump.
use Rattle.std.specs.Prelude.{ℕ, zero, suc, ◌+◌, ◌-◌, ◌/◌, ◌%◌, nat_lt, if◌then◌else◌, List, [], ◌∷◌}

-- The code of net n, which has at most so many bytes: the byte 33 + n for n below 94; else the byte
-- 33 + n mod 94, followed by the code of n/94 - 1.
abbrev pub code_within : ℕ → ℕ → List ℕ
code_within zero n = []
code_within (suc bytes) n = if nat_lt n 94 then (33 + n) ∷ [] else (33 + n % 94) ∷ code_within bytes (n / 94 - 1)

-- the code of a net below 1,000,000
unfoldable pub code_of : ℕ → List ℕ
code_of n = code_within 4 n

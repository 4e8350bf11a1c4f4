-- What only proofs need beside `Entries`.
use Rattle.std.specs.Prelude.{ℕ, Option, List}
use Rattle.gate_values.specs.declared.logic.Logic.{Logic}
use Rattle.warp_process.specs.Entries.{Received, effective_of, entry_in}

-- the effective value of a queue at a time
abbrev pub effective_in : List Received → ℕ → Option Logic
effective_in es t = effective_of (entry_in es t)

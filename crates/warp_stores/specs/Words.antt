-- What a word says.
use Rattle.std.specs.Prelude.{ℕ}
use Rattle.gate_values.specs.declared.logic.Logic.{Logic}

-- a place had one value and takes another
pub record Move : Type 0 where
  pub place : ℕ
  pub before : Logic
  pub after : Logic

-- The value of a bit at a time.
use Rattle.std.specs.Prelude.{ℕ, ◌+◌, ◌-◌, ◌/◌, nat_lt, if◌then◌else◌, List}
use Rattle.gate_values.specs.declared.logic.Logic.{Logic}
use Rattle.gate_values.specs.declared.logic.Logic.TheVariants.{X}
use Rattle.gate_values.specs.declared.logic.Change.{Change}
use Rattle.gate_values.specs.Changes.{latest}

-- How a text's times are seen: each is so many of the common unit, and the bit is looked at so much later, or earlier.
pub record Lens : Type 0 where
  pub scale : ℕ
  pub later : ℕ
  pub earlier : ℕ

-- The value that a bit with these changes shows at a time: what it has at the time that is looked at, x before time 0.
abbrev pub value_through : Lens → List Change → ℕ → Logic
value_through lens cs t = if nat_lt (t + lens.later) lens.earlier then X else latest X cs ((t + lens.later - lens.earlier) / lens.scale)

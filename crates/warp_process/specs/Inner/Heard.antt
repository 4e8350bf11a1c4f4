-- What is true of what a block has heard.
use Rattle.std.specs.Prelude.{◌≡◌, ℕ, ◌<◌, ◌≤◌, IsTrue, length}
use Rattle.warp_process.specs.declared.heard.Heard.TheInside.{Inside}
use Rattle.warp_process.specs.Entries.{no_messages, is_settled}
use Rattle.warp_process.specs.View.{entry_of}
use Rattle.warp_process.specs.Heard.{IsReceived}
use Rattle.warp_process.specs.Shown.Heard.{heard_by}
use Rattle.warp_process.specs.Inner.Rows.{entry_at, AreRows}

-- what is true of the fields
pub record IsHeld (heard : Inside) : Type 0 where
  pub received : IsReceived (heard_by heard)
  pub rows : AreRows heard.rows
  pub within : (t i : ℕ) → length heard.part.nets ≤ i → entry_at heard.rows t i ≡ no_messages
  pub sure : (n t : ℕ) → t < heard.sure → IsTrue (is_settled (entry_of (heard_by heard) n t))

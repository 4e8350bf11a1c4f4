-- What a call sends is the difference of the logs.
use Rattle.std.specs.Prelude.{◌≡◌, ℕ, ◌+◌, ◌≤◌, ◌++◌, Bool, true, false, ◌&&◌, ◌==◌, if◌then◌else◌, IsTrue, List}
use Rattle.std.specs.List.{list_any, count_by, All}
use Rattle.gate_values.specs.declared.logic.Logic.{Logic}
use Rattle.gate_values.specs.declared.logic.Change.{Change}
use Rattle.gate_values.specs.Changes.{same}
use Rattle.warp_process.specs.declared.message.Message.{Message}
use Rattle.warp_process.specs.declared.message.Sign.{Sign}
use Rattle.warp_process.specs.declared.message.Sign.TheVariants.{Plus, Minus}
use Rattle.warp_part.specs.Portion.{Portion, readers_of}
use Rattle.warp_process.specs.View.{View, log_of}

-- a change of a net, as a block that reads the net is told it
pub record Place : Type 0 where
  pub block : ℕ
  pub net : ℕ
  pub time : ℕ
  pub value : Logic

abbrev pub same_sign : Sign → Sign → Bool
same_sign Plus Plus = true
same_sign Minus Minus = true
same_sign _ _ = false

-- the change is that of the place
abbrev pub is_change : Place → Change → Bool
is_change p c = (c.time == p.time) && same c.value p.value

-- the message has the sign, and tells the place
abbrev pub is_message : Sign → Place → Message → Bool
is_message s p m = (m.block == p.block) && ((m.net == p.net) && (same_sign m.sign s && ((m.time == p.time) && same m.value p.value)))

-- how many messages, and how many antimessages, tell a place
abbrev pub messages : Place → List Message → ℕ
messages p ms = count_by (is_message Plus p) ms

abbrev pub antimessages : Place → List Message → ℕ
antimessages p ms = count_by (is_message Minus p) ms

-- the block of the place reads the net
abbrev pub is_told : Portion → Place → Bool
is_told part p = list_any (λ r. r == p.block) (readers_of part p.net)

-- 1 where the log of the net has the place's change and its block reads the net, else 0
abbrev pub standing : View → Place → ℕ
standing v p = if is_told v.part p && list_any (is_change p) (log_of v p.net) then 1 else 0

-- The message goes to a block that reads the net, and is not past the horizon.
pub record IsSendOf (v : View) (IsLater : ℕ → Type 0) (m : Message) : Type 0 where
  pub told : IsTrue (list_any (λ r. r == m.block) (readers_of v.part m.net))
  pub later : IsLater m.time
  pub within : m.time ≤ v.horizon

-- What was appended, after what was there: for each place the messages less the antimessages are the new log less the
-- old one.
pub record Sends (old new : View) (IsLater : ℕ → Type 0) (before out : List Message) : Type 0 where
  pub sent : List Message
  pub appended : out ≡ before ++ sent
  pub named : All (IsSendOf old IsLater) sent
  pub balance : (p : Place) → messages p sent + standing old p ≡ antimessages p sent + standing new p

-- What one call appended: messages alone, or antimessages alone, and each place at most once.
pub record SendsOnce (old new : View) (sign : Sign) (IsLater : ℕ → Type 0) (before out : List Message) : Type 0 where
  pub sends : Sends old new IsLater before out
  pub signed : All (λ (m : Message). m.sign ≡ sign) sends.sent
  pub once : (p : Place) → count_by (is_message sign p) sends.sent ≤ 1

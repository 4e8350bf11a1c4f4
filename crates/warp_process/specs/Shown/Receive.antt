-- What a call that takes in a message says of the entry, and what is left once another is put.
use Rattle.std.specs.Prelude.{◌≡◌, ℕ, ◌&&◌, ◌==◌, if◌then◌else◌, Some, None, IsTrue, ◌≤◌}
use Rattle.warp_process.specs.declared.entry.Entry.{Entry}
use Rattle.warp_process.specs.declared.message.Message.{Message}
use Rattle.warp_process.specs.Entries.{no_messages, one_message, bump_of}
use Rattle.warp_part.specs.Portion.{hears, slot_of}
use Rattle.warp_process.specs.View.{View, entry_of}
use Rattle.warp_process.specs.Receive.{refusal_of}

-- a message that isn't refused names the net at a place, and leaves this entry there
pub record IsAdmitted (v : View) (m : Message) (slot : ℕ) (entry : Entry) : Type 0 where
  pub accepted : refusal_of v m ≡ None
  pub place : slot_of v.part.nets m.net ≡ Some slot
  pub heard : IsTrue (hears v.part m.net)
  pub bumped : bump_of (entry_of v m.net m.time) m.value m.sign ≡ Some entry
  pub from : v.floor ≤ m.time
  pub until : m.time ≤ v.horizon

-- A message, and no antimessage, names the net at a place, and isn't refused where nothing has been received for its net and time.
pub record IsFirstAt (v : View) (m : Message) (slot : ℕ) : Type 0 where
  pub place : slot_of v.part.nets m.net ≡ Some slot
  pub heard : IsTrue (hears v.part m.net)
  pub from : v.floor ≤ m.time
  pub until : m.time ≤ v.horizon
  pub admitted : entry_of v m.net m.time ≡ no_messages → IsAdmitted v m slot (one_message m.value)

-- The entry of a net at a time is another one, and no other entry has changed.
pub record IsPut (old new : View) (net time : ℕ) (entry : Entry) : Type 0 where
  pub part : new.part ≡ old.part
  pub horizon : new.horizon ≡ old.horizon
  pub floor : new.floor ≡ old.floor
  pub entries : (n t : ℕ) → entry_of new n t ≡ (if (n == net) && (t == time) then entry else entry_of old n t)

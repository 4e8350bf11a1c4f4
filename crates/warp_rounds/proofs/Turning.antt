-- A turn: what its calls change, keep and send, joined.
use Rattle.std.proofs.Common.{◌≡◌, ℕ, inl, inr, List, [], refl, sym, ap, ◌∙◌, subst, arith}
use Rattle.warp_process.specs.declared.message.Message.{Message}
use Rattle.warp_process.specs.declared.message.Sign.TheVariants.{Plus}
use Rattle.warp_process.specs.declared.fault.BlockFault.{BlockFault}
use Rattle.warp_process.specs.declared.entry.Entry.{Entry}
use Rattle.warp_process.specs.Entries.{entry_in, number_of}
use Rattle.warp_part.specs.Portion.{Portion, of_net}
use Rattle.warp_process.specs.View.{View, Process, IsEventTime, entry_of}
use Rattle.warp_process.specs.Advance.{IsAdvanced, IsAfterEvent}
use Rattle.warp_process.specs.Commit.{IsCommitted, IsCommitRefusal}
use Rattle.warp_process.specs.Sends.{Sends, SendsOnce}
use Rattle.warp_process.proofs.Sends.{same_standing, sends_nothing, sends_then, sends_for}
use Rattle.warp_rounds.specs.Turn.{AreReceived, AddsUp, IsAfterPending, IsFaultyTurn}
use Rattle.warp_rounds.specs.Inner.Turn.{IsFromPending}
use Rattle.warp_rounds.proofs.Receiving.{received_part, received_horizon, received_numbers}

-- an advance changes no entry
advanced_entry : (old new : View) (count : ℕ) → IsAdvanced old new count → (n t : ℕ) → entry_of new n t ≡ entry_of old n t
advanced_entry old new count advanced n t =
    ap (λ (p : Portion). entry_in (of_net p.nets new.queues [] n) t) advanced.part
    ∙ ap (λ queues. entry_in (of_net old.part.nets queues [] n) t) advanced.queues

-- ---- the messages were received, the floor was committed, and some event times were finished

pub turned_part : (old heard settled : Process) (new : View) (ms : List Message) (floor count : ℕ) → AreReceived old.seen heard.seen ms →
    IsCommitted heard settled floor → IsAdvanced settled.seen new count →
    new.part ≡ old.seen.part
turned_part old heard settled new ms floor count received committed advanced =
    advanced.part ∙ committed.part ∙ received_part old.seen heard.seen ms received

pub turned_horizon : (old heard settled : Process) (new : View) (ms : List Message) (floor count : ℕ) → AreReceived old.seen heard.seen ms →
    IsCommitted heard settled floor → IsAdvanced settled.seen new count →
    new.horizon ≡ old.seen.horizon
turned_horizon old heard settled new ms floor count received committed advanced =
    advanced.horizon ∙ committed.horizon ∙ received_horizon old.seen heard.seen ms received

pub turned_numbers : (old heard settled : Process) (new : View) (ms : List Message) (floor count : ℕ) → AreReceived old.seen heard.seen ms →
    IsCommitted heard settled floor → IsAdvanced settled.seen new count →
    AddsUp old.seen new ms
turned_numbers old heard settled new ms floor count received committed advanced n t x =
    ap (λ (e : Entry). number_of e x) (advanced_entry settled.seen new count advanced n t ∙ committed.entries n t)
    ∙ received_numbers old.seen heard.seen ms received n t x

-- the commit sends nothing, and the advance what is later than an event time
pub turned_sends : (old heard settled : Process) (new : View) (ms : List Message) (floor : ℕ) (x y z : List Message) →
    AreReceived old.seen heard.seen ms → IsCommitted heard settled floor →
    ((t : ℕ) → IsEventTime heard.seen t → IsFromPending old.seen ms t) → Sends old.seen heard.seen (IsAfterPending old.seen ms) x y →
    SendsOnce settled.seen new Plus (IsAfterEvent settled.seen) y z → Sends old.seen new (IsAfterPending old.seen ms) x z
turned_sends old heard settled new ms floor x y z received committed pending first last =
    let part = received_part old.seen heard.seen ms received in
    let horizon = received_horizon old.seen heard.seen ms received in
    let none = sends_nothing heard.seen settled.seen (IsAfterPending old.seen ms) y y (same_standing heard.seen settled.seen committed.part committed.logs) refl in
    sends_then (committed.part ∙ part) (committed.horizon ∙ horizon) (sends_then part horizon first none) (sends_for later last.sends)
  where
    later : (t : ℕ) → IsAfterEvent settled.seen t → IsAfterPending old.seen ms t
    later t (u, event, after) = let (w, p, from) = pending u ((committed.events u).0 event) in (w, p, omega arith)

-- the floor is refused: the block is as it was after the messages
pub held_back : (old heard new : Process) (ms : List Message) (floor window : ℕ) (fault : BlockFault) → AreReceived old.seen heard.seen ms →
    new ≡ heard → IsCommitRefusal heard.seen floor fault →
    IsFaultyTurn old new ms floor window fault
held_back old heard new ms floor window fault received same cause =
    inr (inl (record {
      received = subst (λ (p : Process). AreReceived old.seen p.seen ms) (sym same) received;
      cause = subst (λ (p : Process). IsCommitRefusal p.seen floor fault) (sym same) cause;
    }))

-- Messages that were received, one after another: what they change, when something is left to do, what was sent.
use Rattle.std.proofs.Common.{◌≡◌, ℕ, ◌+◌, ◌<◌, inl, inr, List, [], ◌∷◌, ◌++◌, length, suc, take, drop, get_or, drop-cons, refl, sym, ap, ◌∙◌, subst, arith}
use Rattle.std.specs.List.{Any}
use Rattle.std.proofs.lemmas.Int.{ints}
use Rattle.std.proofs.lemmas.List.{take_more, take-append-drop, get_or_default}
use Rattle.warp_process.specs.declared.message.Message.{Message}
use Rattle.warp_process.specs.declared.message.Sign.TheVariants.{Minus}
use Rattle.warp_process.specs.Entries.{number_of}
use Rattle.warp_process.specs.View.{View, Process, IsEventTime, entry_of}
use Rattle.warp_process.specs.Lawful.{IsLawful}
use Rattle.warp_process.specs.Receive.{IsRefusal, refusal_of}
use Rattle.warp_process.specs.declared.fault.BlockFault.{BlockFault}
use Rattle.warp_process.specs.Sends.{SendsOnce}
use Rattle.warp_process.proofs.Sends.{sends_nothing, sends_then, sends_for}
use Rattle.warp_rounds.specs.Turn.{IsReceived, AreReceived, AddsUp, IsAfterPending, IsRefusedAt}
use Rattle.warp_rounds.specs.Inner.Turn.{IsFromPending, HasReceived}
use Rattle.warp_process.proofs.Laws.{next_after_receive}

-- ---- what the messages change and keep

pub received_part : (old new : View) (ms : List Message) → AreReceived old new ms → new.part ≡ old.part
received_part old new [] is = ap (λ (v : View). v.part) is
received_part old new (m ∷ ms) (next, first, rest) = received_part next new ms rest ∙ first.taken.part

pub received_horizon : (old new : View) (ms : List Message) → AreReceived old new ms → new.horizon ≡ old.horizon
received_horizon old new [] is = ap (λ (v : View). v.horizon) is
received_horizon old new (m ∷ ms) (next, first, rest) = received_horizon next new ms rest ∙ first.taken.horizon

-- messages minus antimessages, number by number
pub received_numbers : (old new : View) (ms : List Message) → AreReceived old new ms → AddsUp old new ms
received_numbers old new [] is n t x =
    let same : number_of (entry_of new n t) x ≡ number_of (entry_of old n t) x = ap (λ (v : View). number_of (entry_of v n t) x) is in
    omega (arith, ints)
received_numbers old new (m ∷ ms) (next, first, rest) n t x =
    let later = received_numbers next new ms rest n t x in
    let now = first.taken.numbers n t x in
    omega (arith, ints, later, now)

-- ---- one message more

received_with : (old now next : View) (ms : List Message) (m : Message) → AreReceived old now ms → IsReceived now next m →
    AreReceived old next (ms ++ m ∷ [])
received_with old now next [] m is step = (next, subst (λ (v : View). IsReceived v next m) is step, refl)
received_with old now next (x ∷ xs) m (v, first, rest) step = (v, first, received_with v now next xs m rest step)

-- the item at a place is one of the list
told_at : (ms : List Message) (i : ℕ) (d : Message) → i < length ms → Any (λ m. m.time ≡ (get_or ms i d).time) ms
told_at ms i d within = (i, get_or ms i d, within, get_or_default ms i (get_or ms i d) d within, refl)

pending_after : (old now next : View) (all : List Message) (m : Message) → IsLawful now → IsReceived now next m → Any (λ n. n.time ≡ m.time) all →
    ((t : ℕ) → IsEventTime now t → IsFromPending old all t) → (t : ℕ) → IsEventTime next t → IsFromPending old all t
pending_after old now next all m lawful step told pending t event =
    elim (next_after_receive lawful step.lawful step.taken t event) [
      | inl from ↦ (m.time, inr told, from)
      | inr former ↦ (let (u, first, from) = pending former.0 former.1 in (u, first, omega arith))
    ]

-- before any message
pub received_none : (v : View) (ms out : List Message) → IsLawful v → HasReceived v v ms [] out out
received_none v ms out lawful = record {
  received = refl;
  lawful = lawful;
  pending = λ t event. (t, inl event, omega arith);
  sends = sends_nothing v v (IsAfterPending v ms) out out (λ p. refl) refl;
}

pub received_more : (old now next : View) (ms : List Message) (i : ℕ) (d : Message) (x y z : List Message) → i < length ms →
    HasReceived old now ms (take i ms) x y →
    IsReceived now next (get_or ms i d) → SendsOnce now next Minus (λ t. (get_or ms i d).time < t) y z → HasReceived old next ms (take (i + 1) ms) x z
received_more old now next ms i d x y z within before step sends =
    let m = get_or ms i d in
    let told = told_at ms i d within in
    record {
      received = subst (λ (list : List Message). AreReceived old next list) (sym (take_more ms i d within)) (received_with old now next (take i ms) m before.received step);
      lawful = step.lawful;
      pending = pending_after old now next ms m before.lawful step told before.pending;
      sends = sends_then (received_part old now (take i ms) before.received) (received_horizon old now (take i ms) before.received) before.sends
          (sends_for (λ t later. (m.time, inr told, later)) sends.sends);
    }

-- one that is refused
pub refused_at : (old now new : Process) (ms : List Message) (i : ℕ) (d : Message) (x y : List Message) (fault : BlockFault) → i < length ms →
    HasReceived old.seen now.seen ms (take i ms) x y →
    new ≡ now → IsRefusal (refusal_of now.seen (get_or ms i d)) fault → IsRefusedAt old.seen new.seen ms fault
refused_at old now new ms i d x y fault within h same cause = record {
  before = take i ms;
  refused = get_or ms i d;
  rest = drop (suc i) ms;
  order = sym (take-append-drop i ms) ∙ ap (λ (rest : List Message). take i ms ++ rest) (drop-cons ms i d within);
  received = subst (λ (v : Process). AreReceived old.seen v.seen (take i ms)) (sym same) h.received;
  cause = subst (λ (v : Process). IsRefusal (refusal_of v.seen (get_or ms i d)) fault) (sym same) cause;
}

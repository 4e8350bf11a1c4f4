-- The queue of an input: one message a change.
use Rattle.std.proofs.Common.{◌≡◌, ◌≢◌, ℕ, ◌+◌, ◌<◌, ◌≤◌, List, map, length, get_or, take, pos, ap, sym, ◌∙◌, arith, nat_lt}
use Rattle.std.proofs.lemmas.Bool.{lt-ltb, le-ltb}
use Rattle.std.proofs.lemmas.List.{get_or_default, get_or-map, length-map, get_or-take, length-take}
use Rattle.std.proofs.lemmas.List.Elements.{All-map}
use Rattle.gate_values.specs.declared.logic.Logic.{Logic}
use Rattle.gate_values.specs.declared.logic.Logic.TheVariants.{Zero, One, X, Z}
use Rattle.gate_values.specs.declared.logic.Change.{Change}
use Rattle.gate_values.specs.Changes.{before_time}
use Rattle.net_waves.specs.Inner.Lists.{IsRising}
use Rattle.warp_process.specs.declared.entry.Entry.{Entry}
use Rattle.warp_process.specs.Entries.{Received, no_messages, one_message, IsQueue}
use Rattle.warp_process.specs.Opening.{message_of}
use Rattle.warp_process.proofs.Rising.{rising-not_falling, filter-front}

pub one_message-stands : (v : Logic) → one_message v ≢ no_messages
one_message-stands Zero e = let n : pos 1 ≡ pos 0 = ap (λ (x : Entry). x.zero) e in cc
one_message-stands One e = let n : pos 1 ≡ pos 0 = ap (λ (x : Entry). x.one) e in cc
one_message-stands X e = let n : pos 1 ≡ pos 0 = ap (λ (x : Entry). x.x) e in cc
one_message-stands Z e = let n : pos 1 ≡ pos 0 = ap (λ (x : Entry). x.z) e in cc

-- those before the first that is past the horizon
pub opening-part : (cs : List Change) (horizon i : ℕ) (d : Change) → IsRising cs → ((k : ℕ) (d : Change) → k < i → (get_or cs k d).time ≤ horizon) → i < length cs
    → horizon < (get_or cs i d).time → take i cs ≡ before_time (horizon + 1) cs
opening-part cs horizon i d rising within l past = sym (filter-front (λ (c : Change). nat_lt c.time (horizon + 1)) cs i (
  λ k e a b. lt-ltb _ _ (let w = within k e b in omega arith),
  λ k e a b. le-ltb _ _
      (let order : (get_or cs i e).time ≤ (get_or cs k e).time = rising-not_falling (λ (c : Change). c.time) cs rising i k e a b in
      let here : (get_or cs i d).time ≡ (get_or cs i e).time = ap (λ (c : Change). c.time) (get_or_default cs i d e l) in
      omega arith),
))

pub opening-whole : (cs : List Change) (horizon i : ℕ) → ((k : ℕ) (d : Change) → k < i → (get_or cs k d).time ≤ horizon) → length cs ≤ i → take i cs ≡ before_time (horizon + 1) cs
opening-whole cs horizon i within l = sym (filter-front (λ (c : Change). nat_lt c.time (horizon + 1)) cs i (
  λ k e a b. lt-ltb _ _ (let w = within k e b in omega arith),
  λ k e a b. absurd (omega arith),
))

pub opening-queue : (cs : List Change) (i : ℕ) → IsRising cs → IsQueue (map message_of (take i cs))
opening-queue cs i rising = record {
  in_order = λ j k d h l.
      (let front : List Change = take i cs in
      let size : length (map message_of front) ≡ length front = length-map front message_of in
      let short = length-take i cs in
      let c : Change = record { time = 0; value = X } in
      let a : get_or (map message_of front) j d ≡ message_of (get_or cs j c) = get_or-map message_of front j c d (omega arith) ∙ ap message_of (get_or-take i cs j c (omega arith)) in
      let b : get_or (map message_of front) k d ≡ message_of (get_or cs k c) = get_or-map message_of front k c d (omega arith) ∙ ap message_of (get_or-take i cs k c (omega arith)) in
      let times : (get_or cs j c).time < (get_or cs k c).time = rising j k c h (omega arith) in
      rw (a, b) times);
  kept = All-map (λ (e : Received). e.entry ≢ no_messages) message_of (take i cs) (λ k d l. one_message-stands (get_or (take i cs) k d).value);
}

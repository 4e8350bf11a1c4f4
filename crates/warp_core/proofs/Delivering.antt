-- A message in flight reaches its block.
use Rattle.std.proofs.Common.{◌≡◌, ◌≢◌, ℕ, ℤ, pos, negsuc, neg_ℤ, ◌+ℤ◌, ◌≤ℤ◌, ◌+◌, ◌<◌, ◌≤◌, ◌^◌, ◌&&◌, ◌==◌, nat_lt, int_le, not, is_none, Bool, true, false, cond, IsTrue, Option, Some, None, List, length, get_or, take, drop, suc, inl, inr, refl, ap, sym, ◌∙◌, subst, arith}
use Rattle.std.specs.List.{All, remove}
use Rattle.std.proofs.lemmas.Bool.{cases_eq, eq-eqb, ne_eqb, and_from, and_parts, true≢false, le-ltb}
use Rattle.std.proofs.lemmas.Int.{ints}
use Rattle.std.proofs.lemmas.List.Sums.{sum_by-remove, count_by-le-length}
use Rattle.std.proofs.lemmas.List.Elements.{All-append, All-take, All-drop, All-get_or}
use Rattle.gate_values.specs.declared.logic.Logic.{Logic}
use Rattle.gate_values.specs.declared.logic.Logic.TheVariants.{Zero, One, X, Z}
use Rattle.gate_values.specs.Changes.{same}
use Rattle.gate_netlist.specs.Cut.{owner_of}
use Rattle.warp_process.specs.declared.entry.Entry.{Entry}
use Rattle.warp_process.specs.declared.fault.BlockFault.TheVariants.{WrongNet, PastHorizon, BelowFloor, CountLimit}
use Rattle.warp_process.specs.declared.message.Message.{Message}
use Rattle.warp_process.specs.declared.message.Sign.{Sign}
use Rattle.warp_process.specs.declared.message.Sign.TheVariants.{Plus, Minus}
use Rattle.warp_process.specs.Entries.{number_of, weight_of, most, is_within, bump_of, with_number}
use Rattle.warp_process.specs.Lawful.{IsLawful}
use Rattle.warp_part.specs.PartOf.{part_of}
use Rattle.warp_part.specs.Portion.{Portion, hears, reads, is_input}
use Rattle.warp_process.specs.Receive.{refusal_of, is_for, does_tell, IsTaken}
use Rattle.warp_process.specs.Sends.{Place, is_message, same_sign, messages, antimessages, Sends}
use Rattle.warp_process.specs.View.{View, Process, entry_of}
use Rattle.warp_process.proofs.Laws.{next_after_receive}
use Rattle.warp_core.specs.Matched.{seen_at}
use Rattle.warp_core.specs.World.{Scene, number_at, logged, logged_by, AreAccounted, IsFlying, IsLawfulWorld}
use Rattle.warp_core.specs.Play.{IsOtherwiseSame}
use Rattle.warp_core.proofs.Acting.{same_seen}
use Rattle.warp_core.proofs.Acted.{IsAct}

-- two entries with the same numbers
pub entry_from : (a b : Entry) → ((x : Logic) → number_of a x ≡ number_of b x) → a ≡ b
entry_from a b h =
    let zero : a.zero ≡ b.zero = h Zero in
    let one : a.one ≡ b.one = h One in
    let x : a.x ≡ b.x = h X in
    let z : a.z ≡ b.z = h Z in
    λ i. record { zero = zero i; one = one i; x = x i; z = z i }

-- a message weighs in the number as it did in flight
weigh : (number number' : ℤ) (s : Sign) (a b c : Bool) → a ≡ true → number' ≡ number +ℤ cond (b && c) (weight_of s) (pos 0) →
    (number' +ℤ pos (cond (a && (b && (same_sign s Minus && c))) 1 0)) ≡ (number +ℤ pos (cond (a && (b && (same_sign s Plus && c))) 1 0))
weigh number number' Plus true true true e h = omega (arith, ints, h)
weigh number number' Minus true true true e h = omega (arith, ints, h)
weigh number number' Plus true true false e h = omega (arith, ints, h)
weigh number number' Minus true true false e h = omega (arith, ints, h)
weigh number number' Plus true false c e h = omega (arith, ints, h)
weigh number number' Minus true false c e h = omega (arith, ints, h)
weigh number number' s false b c e h = absurd cc

unweighed : (number : ℤ) (s : Sign) (a b c : Bool) → a ≡ false →
    (number +ℤ pos (cond (a && (b && (same_sign s Minus && c))) 1 0)) ≡ (number +ℤ pos (cond (a && (b && (same_sign s Plus && c))) 1 0))
unweighed number s true b c e = absurd cc
unweighed number s false b c e = refl

within_limit : (k : ℤ) → neg_ℤ most ≤ℤ k → k ≤ℤ most → is_within k ≡ true
within_limit k low high = and_from (int_le (neg_ℤ most) k) (int_le k most) (grind (arith, ints)) (grind (arith, ints))

unrefused : (a b c d : Bool) → a ≡ true → b ≡ false → c ≡ false → d ≡ false →
    cond (not a) (Some WrongNet) (cond b (Some PastHorizon) (cond c (Some BelowFloor) (cond d (Some CountLimit) None))) ≡ None
unrefused true false false false e f g h = refl
unrefused false b c d e f g h = absurd cc
unrefused true true c d e f g h = absurd cc
unrefused true false true d e f g h = absurd cc
unrefused true false false true e f g h = absurd cc

logged-le : (blocks : List Process) (p : Place) (o : Option ℕ) → logged_by blocks p o ≤ 1
logged-le blocks p None = omega arith
logged-le blocks p (Some o) = go _
  where
    go : (b : Bool) → cond b 1 0 ≤ 1
    go true = omega arith
    go false = omega arith

module _ (w : Scene) (law : IsLawfulWorld w) (place : ℕ) (m : Message) (within : place < length w.flight) (at : m ≡ get_or w.flight place m) where
  -- it flies
  pub delivered_flies : IsFlying w.circuit w.cut w.horizon m
  delivered_flies = subst (IsFlying w.circuit w.cut w.horizon) (sym at) (All-get_or (IsFlying w.circuit w.cut w.horizon) w.flight place m within law.flight)

  late : (s : ℕ) → All (λ k. s ≤ k.time) w.flight → s ≤ m.time
  late s all = subst (λ (k : Message). s ≤ k.time) (sym at) (All-get_or (λ k. s ≤ k.time) w.flight place m within all)

  rest : (P : Message → Type 0) → All P w.flight → All P (remove w.flight place)
  rest P all = All-append P (take place w.flight) (drop (suc place) w.flight) (All-take P place w.flight all) (All-drop P (suc place) w.flight all)

  -- no number comes to its limit: each is the difference of the messages in flight, but one
  counted : length w.flight < 2 ^ 64 → is_within (number_of (entry_of (seen_at w.blocks m.block) m.net m.time) m.value +ℤ weight_of m.sign) ≡ true
  counted few =
      let p : Place = record { block = m.block; net = m.net; time = m.time; value = m.value } in
      let held = law.account p (record { block = delivered_flies.block; net = delivered_flies.net }) in
      let one = logged-le w.blocks p (owner_of w.cut m.net) in
      let plus = count_by-le-length (is_message Plus p) w.flight in
      let minus = count_by-le-length (is_message Minus p) w.flight in
      go m.sign (number_at w.blocks p) (messages p w.flight) (antimessages p w.flight) (logged w.cut w.blocks p) held one (omega (arith, plus, few)) (omega (arith, minus, few))
    where
      go : (s : Sign) (number : ℤ) (a b l : ℕ) → (number +ℤ pos a) ≡ pos (l + b) → l ≤ 1 → a < 2 ^ 64 → b < 2 ^ 64 → is_within (number +ℤ weight_of s) ≡ true
      go Plus number a b l e one few few' = within_limit (number +ℤ pos 1) (omega (arith, ints, e, one, few, few')) (omega (arith, ints, e, one, few, few'))
      go Minus number a b l e one few few' = within_limit (number +ℤ negsuc 0) (omega (arith, ints, e, one, few, few')) (omega (arith, ints, e, one, few, few'))

  -- so its block takes it
  pub deliverable : length w.flight < 2 ^ 64 → refusal_of (seen_at w.blocks m.block) m ≡ None
  deliverable few =
      let v = seen_at w.blocks m.block in
      let is = law.parts m.block delivered_flies.block in
      let named : is_for v.part m ≡ true = ap (λ (q : Portion). is_for q m) is.part ∙ and_from (m.block == m.block) (hears (part_of w.circuit w.cut m.block) m.net) (eq-eqb m.block m.block refl) delivered_flies.net in
      let end : m.time ≤ v.horizon = subst (λ (k : ℕ). m.time ≤ k) (sym is.horizon_is) delivered_flies.within in
      let floor : v.floor ≤ m.time = late v.floor (law.floors m.block delivered_flies.block).flight in
      let taken : is_none (bump_of (entry_of v m.net m.time) m.value m.sign) ≡ false = ap (λ b. is_none (cond b (Some (with_number (entry_of v m.net m.time) m.value (number_of (entry_of v m.net m.time) m.value +ℤ weight_of m.sign))) None)) (counted few) in
      unrefused (is_for v.part m) (nat_lt v.horizon m.time) (nat_lt m.time v.floor) (is_none (bump_of (entry_of v m.net m.time) m.value m.sign)) named (le-ltb v.horizon m.time end) (le-ltb m.time v.floor floor) taken

  module _ (new : List Process) (out : List Message) (others : IsOtherwiseSame w.blocks new m.block)
      (taken : IsTaken (seen_at w.blocks m.block) (seen_at new m.block) m) (lawful : IsLawful (seen_at new m.block))
      (sends : Sends (seen_at w.blocks m.block) (seen_at new m.block) (λ t. m.time < t) (remove w.flight place) out) where
    account : AreAccounted w.circuit w.cut (number_at new) w.blocks (remove w.flight place)
    account p heard =
        let plus = sum_by-remove (λ k. cond (is_message Plus p k) 1 0) w.flight place m within in
        let minus = sum_by-remove (λ k. cond (is_message Minus p k) 1 0) w.flight place m within in
        let plus_m : ◌≡◌ {A = ℕ} (cond (is_message Plus p (get_or w.flight place m)) 1 0) (cond (is_message Plus p m) 1 0) = ap (λ (k : Message). cond (is_message Plus p k) 1 0) (sym at) in
        let minus_m : ◌≡◌ {A = ℕ} (cond (is_message Minus p (get_or w.flight place m)) 1 0) (cond (is_message Minus p m) 1 0) = ap (λ (k : Message). cond (is_message Minus p k) 1 0) (sym at) in
        let held = law.account p heard in
        let weighed : (number_at new p +ℤ pos (cond (is_message Minus p m) 1 0)) ≡ (number_at w.blocks p +ℤ pos (cond (is_message Plus p m) 1 0)) = changed p in
        omega (arith, ints, plus, minus, plus_m, minus_m, held, weighed)
      where
        changed : (p : Place) → (number_at new p +ℤ pos (cond (is_message Minus p m) 1 0)) ≡ (number_at w.blocks p +ℤ pos (cond (is_message Plus p m) 1 0))
        changed p = elim (cases_eq p.block m.block) [
          | inl here ↦ weigh (number_at w.blocks p) (number_at new p) m.sign (m.block == p.block) (m.net == p.net) ((m.time == p.time) && same m.value p.value) (eq-eqb m.block p.block (sym here))
              (subst (λ (k : ℕ). number_of (entry_of (seen_at new k) p.net p.time) p.value ≡ number_of (entry_of (seen_at w.blocks k) p.net p.time) p.value +ℤ cond (does_tell m p.net p.time p.value) (weight_of m.sign) (pos 0)) (sym here)
              (taken.numbers p.net p.time p.value))
          | inr other ↦
              ap (λ (v : View). number_of (entry_of v p.net p.time) p.value +ℤ pos (cond (is_message Minus p m) 1 0)) (same_seen w.blocks new m.block p.block others other)
              ∙ unweighed (number_at w.blocks p) m.sign (m.block == p.block) (m.net == p.net) ((m.time == p.time) && same m.value p.value) (ne_eqb m.block p.block (λ e. other (sym e)))
        ]

    -- it names no input
    inputs : (n t : ℕ) → IsTrue (is_input (part_of w.circuit w.cut m.block) n) → entry_of (seen_at new m.block) n t ≡ entry_of (seen_at w.blocks m.block) n t
    inputs n t input = entry_from (entry_of (seen_at new m.block) n t) (entry_of (seen_at w.blocks m.block) n t) (λ x.
        (let untold : does_tell m n t x ≡ false = ap (λ b. b && ((m.time == t) && same m.value x)) (ne_eqb m.net n other) in
        let number = taken.numbers n t x in
        number ∙ (ap (λ b. number_of (entry_of (seen_at w.blocks m.block) n t) x +ℤ cond b (weight_of m.sign) (pos 0)) untold ∙ omega (arith, ints))))
      where
        other : m.net ≢ n
        other e =
            let outer = and_parts (reads (part_of w.circuit w.cut m.block) m.net) (not (is_input (part_of w.circuit w.cut m.block) m.net)) delivered_flies.net in
            true≢false (sym outer.1 ∙ ap (λ (k : ℕ). not (is_input (part_of w.circuit w.cut m.block) k)) e ∙ ap not input)

    pub delivered_act : IsAct w m.block new (remove w.flight place) out (λ t. m.time < t)
    delivered_act = record {
      others = others;
      part = taken.part;
      horizon = taken.horizon;
      floor = taken.floor;
      lawful = lawful;
      account = account;
      inputs = inputs;
      flying = rest (IsFlying w.circuit w.cut w.horizon) law.flight;
      rest = λ s all. rest (λ k. s ≤ k.time) all;
      sends = sends;
      pending = λ s t h event. elim (next_after_receive (law.lawful m.block delivered_flies.block) lawful taken t event) [
        | inl after ↦ (let l = late s h.flight in omega (arith, l, after))
        | inr former ↦ (let l = h.events m.block former.0 delivered_flies.block former.1 in omega (arith, l, former.2))
      ];
      later = λ s t h after. (let l = late s h.flight in omega (arith, l, after));
    }

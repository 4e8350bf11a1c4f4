-- Below the least time every entry is settled, and says what its owner, or the stimulus, says.
use Rattle.std.proofs.Common.{◌≡◌, ◌≢◌, ℕ, pos, ◌+◌, ◌<◌, ◌≤◌, ◌&&◌, ◌||◌, ◌==◌, not, is_some, Bool, true, false, cond, IsTrue, Option, Some, None, List, [], ◌∷◌, map, inl, inr, refl, ap, sym, ◌∙◌, subst, arith}
use Rattle.std.specs.List.{All, list_any, count_by}
use Rattle.std.proofs.lemmas.Bool.{cases_Bool, ne_eqb, eqb-true, and_from}
use Rattle.std.proofs.lemmas.Int.{ints}
use Rattle.std.proofs.lemmas.List.Elements.{All-weaker}
use Rattle.gate_values.specs.declared.logic.Logic.{Logic}
use Rattle.gate_values.specs.declared.logic.Logic.TheVariants.{Zero, One, X, Z}
use Rattle.gate_values.specs.declared.logic.Change.{Change}
use Rattle.gate_values.specs.Changes.{same, pair_at, before_time}
use Rattle.gate_netlist.specs.Cut.{owner_of}
use Rattle.gate_stimulus.specs.Given.{changes_of}
use Rattle.net_waves.specs.Waves.{IsWaveFrom}
use Rattle.warp_process.specs.declared.entry.Entry.{Entry}
use Rattle.warp_process.specs.declared.message.Message.{Message}
use Rattle.warp_process.specs.declared.message.Sign.{Sign}
use Rattle.warp_process.specs.declared.message.Sign.TheVariants.{Plus, Minus}
use Rattle.warp_process.specs.Entries.{Received, number_of, effective_of, no_messages, one_message, is_settled, entry_in}
use Rattle.warp_process.specs.Opening.{message_of, opening_queue}
use Rattle.warp_part.specs.PartOf.{part_of, part_nets}
use Rattle.warp_part.specs.Portion.{Portion, slot_of, owns, reads, hears, is_input}
use Rattle.warp_process.specs.Sends.{Place, is_change, is_message, same_sign}
use Rattle.warp_process.specs.View.{View, entry_of, log_of, queue_of}
use Rattle.warp_core.proofs.Mapped.{in_map}
use Rattle.warp_process.proofs.Settled.{settled-none, settled-one}
use Rattle.warp_part.proofs.Slots.{slot_is}
use Rattle.warp_process.proofs.Told.{count-none}
use Rattle.warp_core.specs.Matched.{seen_at}
use Rattle.warp_core.specs.World.{Scene, logged, logged_by, IsBefore, IsLawfulWorld}
use Rattle.warp_core.proofs.Delivering.{entry_from}
use Rattle.warp_core.proofs.Finished.{log_wave}
use Rattle.warp_core.proofs.Hearing.{heard_from}

-- the value is that of a pair, if there is one
abbrev is_pair : Logic → Option Logic → Bool
is_pair x None = false
is_pair x (Some y) = same y x

-- before its first time a wave has no changes
none_early : (from : ℕ) (before : Logic) (cs : List Change) (t : ℕ) → IsWaveFrom from before cs → t < from → pair_at cs t ≡ None
none_early from before [] t w h = refl
none_early from before (c ∷ cs) t w h =
    let ne : c.time ≢ t = omega (arith, w.0) in
    rw (ne_eqb c.time t ne) (none_early (c.time + 1) c.value cs t w.2 (omega (arith, w.0)))

-- a wave has a change just where it has this pair
any_pair : (from : ℕ) (before : Logic) (cs : List Change) (t : ℕ) (x : Logic) → IsWaveFrom from before cs → list_any (λ c. (c.time == t) && same c.value x) cs ≡ is_pair x (pair_at cs t)
any_pair from before [] t x w = refl
any_pair from before (c ∷ cs) t x w = go (c.time == t) refl (any_pair (c.time + 1) c.value cs t x w.2)
  where
    or_false : (a b : Bool) → b ≡ false → (a || b) ≡ a
    or_false true b e = refl
    or_false false b e = e

    go : (b : Bool) → (c.time == t) ≡ b → list_any (λ c. (c.time == t) && same c.value x) cs ≡ is_pair x (pair_at cs t) →
        (((c.time == t) && same c.value x) || list_any (λ c. (c.time == t) && same c.value x) cs) ≡ is_pair x (cond (c.time == t) (Some c.value) (pair_at cs t))
    go true e rest =
        let early : pair_at cs t ≡ None = none_early (c.time + 1) c.value cs t w.2 (omega (arith, eqb-true c.time t e)) in
        rw e (or_false (same c.value x) (list_any (λ c. (c.time == t) && same c.value x) cs) (rest ∙ ap (is_pair x) early))
    go false e rest = rw e rest

one_number : (y x : Logic) → number_of (one_message y) x ≡ pos (cond (same y x) 1 0)
one_number Zero Zero = refl
one_number Zero One = refl
one_number Zero X = refl
one_number Zero Z = refl
one_number One Zero = refl
one_number One One = refl
one_number One X = refl
one_number One Z = refl
one_number X Zero = refl
one_number X One = refl
one_number X X = refl
one_number X Z = refl
one_number Z Zero = refl
one_number Z One = refl
one_number Z X = refl
one_number Z Z = refl

none_number : (x : Logic) → number_of no_messages x ≡ pos 0
none_number Zero = refl
none_number One = refl
none_number X = refl
none_number Z = refl

-- the entry that one message of a pair leaves
abbrev pub entry_for : Option Logic → Entry
entry_for None = no_messages
entry_for (Some y) = one_message y

entry_is : (e : Entry) (o : Option Logic) → ((x : Logic) → number_of e x ≡ pos (cond (is_pair x o) 1 0)) → e ≡ entry_for o
entry_is e None h = entry_from e no_messages (λ x. h x ∙ sym (none_number x))
entry_is e (Some y) h = entry_from e (one_message y) (λ x. h x ∙ sym (one_number y x))

pub settled_for : (o : Option Logic) → is_settled (entry_for o) ≡ true
settled_for None = settled-none
settled_for (Some y) = settled-one y

pub effective_for : (o : Option Logic) → effective_of (entry_for o) ≡ o
effective_for None = refl
effective_for (Some Zero) = refl
effective_for (Some One) = refl
effective_for (Some X) = refl
effective_for (Some Z) = refl

-- what the stimulus gives at the start
given_entry : (cs : List Change) (t : ℕ) → entry_in (map message_of cs) t ≡ entry_for (pair_at cs t)
given_entry [] t = refl
given_entry (c ∷ cs) t = go (c.time == t) (given_entry cs t)
  where
    go : (b : Bool) → entry_in (map message_of cs) t ≡ entry_for (pair_at cs t) → cond b (one_message c.value) (entry_in (map message_of cs) t) ≡ entry_for (cond b (Some c.value) (pair_at cs t))
    go true rest = refl
    go false rest = rest

untimely : (a b g v : Bool) → (a && (b && (g && (false && v)))) ≡ false
untimely true true true v = refl
untimely true true false v = refl
untimely true false g v = refl
untimely false b g v = refl

-- no message in flight is earlier than a time
none_flies : (s : Sign) (p : Place) (flight : List Message) (until : ℕ) → All (λ m. until ≤ m.time) flight → p.time < until → count_by (is_message s p) flight ≡ 0
none_flies s p flight until all early =
    count-none (is_message s p) flight (All-weaker (λ (m : Message). until ≤ m.time) (λ m. is_message s p m ≡ false)
    (λ m l. (let ne : m.time ≢ p.time = omega (arith, l, early) in
    ap (λ b. (m.block == p.block) && ((m.net == p.net) && (same_sign m.sign s && (b && same m.value p.value)))) (ne_eqb m.time p.time ne)
    ∙ untimely (m.block == p.block) (m.net == p.net) (same_sign m.sign s) (same m.value p.value))) flight all)

module _ (w : Scene) (law : IsLawfulWorld w) (owned : (n : ℕ) (o : ℕ) → owner_of w.cut n ≡ Some o → o < w.cut.blocks) (until : ℕ) (before : IsBefore w until) (b n t : ℕ) (within : b < w.cut.blocks) (early : t < until) where
  abbrev view : View
  view = seen_at w.blocks b

  -- of a net of another block
  pub heard_entry : hears (part_of w.circuit w.cut b) n ≡ true → (o : ℕ) → owner_of w.cut n ≡ Some o → entry_of view n t ≡ entry_for (pair_at (log_of (seen_at w.blocks o) n) t)
  heard_entry heard o is = entry_is (entry_of view n t) (pair_at (log_of (seen_at w.blocks o) n) t) (λ x.
      (let p : Place = record { block = b; net = n; time = t; value = x } in
      let held = law.account p (record { block = within; net = heard }) in
      let plus = none_flies Plus p w.flight until before.flight early in
      let minus = none_flies Minus p w.flight until before.flight early in
      let wave = (log_wave (seen_at w.blocks o) (law.lawful o (owned n o is)) n).0 in
      let log : logged w.cut w.blocks p ≡ cond (list_any (is_change p) (log_of (seen_at w.blocks o) n)) 1 0 = ap (logged_by w.blocks p) is in
      let one : ◌≡◌ {A = ℕ} (cond (list_any (is_change p) (log_of (seen_at w.blocks o) n)) 1 0) (cond (is_pair x (pair_at (log_of (seen_at w.blocks o) n) t)) 1 0) =
      ap (λ c. cond c 1 0) (any_pair 0 X (log_of (seen_at w.blocks o) n) t x wave) in
      omega (arith, ints, held, plus, minus, log, one)))

  -- of an input
  pub input_entry : is_input (part_of w.circuit w.cut b) n ≡ true → is_some (slot_of (part_nets w.circuit w.cut b) n) ≡ true → entry_of view n t ≡ entry_for (pair_at (before_time (w.horizon + 1) (changes_of w.stimulus n)) t)
  input_entry input there =
      law.inputs b n t within input
      ∙ (ap (λ (q : List Received). entry_in q t) (in_map (part_nets w.circuit w.cut b) (opening_queue (part_of w.circuit w.cut b) w.stimulus w.horizon) [] n there
      ∙ ap (λ i. cond i (map message_of (before_time (w.horizon + 1) (changes_of w.stimulus n))) []) input)
      ∙ given_entry (before_time (w.horizon + 1) (changes_of w.stimulus n)) t)

  -- of its own, and of those that it doesn't read
  own_entry : owns view.part n ≡ true → entry_of view n t ≡ no_messages
  own_entry own = ap (λ (q : List Received). entry_in q t) (go (slot_of view.part.nets n) refl)
    where
      go : (o : Option ℕ) → slot_of view.part.nets n ≡ o → queue_of view n ≡ []
      go None e = rw e refl
      go (Some i) e =
          let at = slot_is view.part.nets n i e in
          rw e ((law.lawful b within).own i at.0 (subst (λ (k : ℕ). IsTrue (owns view.part k)) (sym at.1) own))

  other_entry : slot_of view.part.nets n ≡ None → entry_of view n t ≡ no_messages
  other_entry e = rw e refl

  pub settled_below : IsTrue (is_settled (entry_of view n t))
  settled_below = go (slot_of view.part.nets n) refl
    where
      of_kind : is_some (slot_of view.part.nets n) ≡ true → owns view.part n ≡ false → is_settled (entry_of view n t) ≡ true
      of_kind there other =
          let part = (law.parts b within).part in
          let there' : is_some (slot_of (part_nets w.circuit w.cut b) n) ≡ true = subst (λ (q : Portion). is_some (slot_of q.nets n) ≡ true) part there in
          let read : reads (part_of w.circuit w.cut b) n ≡ true = subst (λ (q : Portion). reads q n ≡ true) part (and_from (is_some (slot_of view.part.nets n)) (not (owns view.part n)) there (ap not other)) in
          elim (cases_Bool (is_input (part_of w.circuit w.cut b) n)) [
            | inl input ↦ ap is_settled (input_entry input there') ∙ settled_for (pair_at (before_time (w.horizon + 1) (changes_of w.stimulus n)) t)
            | inr inner ↦
                (let heard = and_from (reads (part_of w.circuit w.cut b) n) (not (is_input (part_of w.circuit w.cut b) n)) read (ap not inner) in
                let from = heard_from w.circuit w.cut law.fits b n heard in
                ap is_settled (heard_entry heard from.owner from.owned) ∙ settled_for (pair_at (log_of (seen_at w.blocks from.owner) n) t))
          ]

      go : (o : Option ℕ) → slot_of view.part.nets n ≡ o → is_settled (entry_of view n t) ≡ true
      go None e = ap is_settled (other_entry e) ∙ settled-none
      go (Some i) e = elim (cases_Bool (owns view.part n)) [
        | inl own ↦ ap is_settled (own_entry own) ∙ settled-none
        | inr other ↦ of_kind (ap is_some e) other
      ]

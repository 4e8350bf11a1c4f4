-- A new world.
use Rattle.std.proofs.Common.{◌≡◌, ◌≢◌, ℕ, pos, ◌+◌, ◌≤◌, ◌++◌, Bool, true, false, cond, not, is_some, Option, Some, None, List, [], ◌∷◌, get_or, inl, inr, refl, ap, sym, ◌∙◌, subst, arith}
use Rattle.std.specs.List.{flat_map, range_with_len}
use Rattle.std.proofs.lemmas.Bool.{cases_eq, cases_lt, and_parts}
use Rattle.std.proofs.lemmas.Int.{ints}
use Rattle.std.proofs.lemmas.List.{flat_map_more, get_or_append_left, get_or_push, get_or_past, length_push}
use Rattle.std.proofs.lemmas.List.Elements.{All-append, All-same, All-nil, All-weaker}
use Rattle.gate_values.specs.declared.logic.Logic.{Logic}
use Rattle.gate_values.specs.declared.logic.Logic.TheVariants.{Zero, One, X, Z}
use Rattle.gate_netlist.specs.Circuit.{Design, CutFits}
use Rattle.gate_netlist.specs.Cut.{Ownership, owner_of}
use Rattle.gate_netlist.proofs.Grouping.{range_more}
use Rattle.gate_stimulus.specs.Given.{Given, Fits}
use Rattle.warp_process.specs.Limits.{most_horizon}
use Rattle.warp_process.specs.declared.message.Message.{Message}
use Rattle.warp_process.specs.declared.message.Sign.TheVariants.{Plus}
use Rattle.warp_process.specs.Entries.{Received, number_of, no_messages, entry_in}
use Rattle.warp_process.specs.Lawful.{IsLawful}
use Rattle.warp_process.specs.Opening.{silent_view, opening_view, opening_queue, opening_messages}
use Rattle.warp_part.specs.PartOf.{part_of, part_nets}
use Rattle.warp_part.specs.Portion.{slot_of, owns, reads, hears, is_input}
use Rattle.warp_process.specs.Sends.{Place, SendsOnce}
use Rattle.warp_process.specs.View.{View, Process, entry_of, log_of}
use Rattle.warp_core.proofs.Mapped.{in_map}
use Rattle.warp_part.proofs.Slots.{of_net-map}
use Rattle.warp_core.specs.Matched.{no_process, seen_at}
use Rattle.warp_core.specs.Inner.Opened.{AreOpened}
use Rattle.warp_core.specs.World.{number_at, logged_by, IsFlying, IsBefore, IsLawfulWorld, IsNewWorld}
use Rattle.warp_core.proofs.Acting.{sent_accounted, sent_flying}

module _ (d : Design) (cut : Ownership) (g : Given) (horizon : ℕ) where
  nothing_logged : (p : Place) (o : Option ℕ) → logged_by [] p o ≡ 0
  nothing_logged p None = refl
  nothing_logged p (Some o) = refl

  pub none_opened : AreOpened d cut g horizon 0 [] []
  none_opened = record {
    counted = refl;
    opened = λ b l. absurd (omega (arith, l));
    lawful = λ b l. absurd (omega (arith, l));
    account = λ p heard. (let none = nothing_logged p (owner_of cut p.net) in omega (arith, ints, none));
    flying = All-nil (IsFlying d cut horizon);
    told = refl;
  }

  -- one more block
  module _ (fits : CutFits d cut) (k : ℕ) (blocks : List Process) (block : Process) (before out : List Message) (is : AreOpened d cut g horizon k blocks before)
      (opening : block.seen ≡ opening_view (part_of d cut k) g horizon) (lawful : IsLawful block.seen)
      (once : SendsOnce (silent_view (part_of d cut k) g horizon) block.seen Plus (λ t. t ≡ 0) before out) (told : out ≡ before ++ opening_messages (part_of d cut k)) where
    others : (c : ℕ) → c ≢ k → get_or (blocks ++ block ∷ []) c no_process ≡ get_or blocks c no_process
    others c other = elim (cases_lt c k) [
      | inl below ↦ get_or_append_left blocks (block ∷ []) no_process c (let n = is.counted in omega (arith, n, below))
      | inr past ↦
          (let n = is.counted in
          let size = length_push blocks block in
          get_or_past (blocks ++ block ∷ []) c no_process (omega (arith, n, size, past, other)) ∙ sym (get_or_past blocks c no_process (omega (arith, n, past))))
    ]

    here : get_or (blocks ++ block ∷ []) k no_process ≡ block
    here = get_or_push blocks block no_process k is.counted

    none_here : get_or blocks k no_process ≡ no_process
    none_here = get_or_past blocks k no_process (let n = is.counted in omega (arith, n))

    silent : (n : ℕ) → log_of (silent_view (part_of d cut k) g horizon) n ≡ log_of (seen_at blocks k) n
    silent n = of_net-map (part_nets d cut k) (λ _. []) [] n (λ none. refl) ∙ ap (λ (p : Process). log_of p.seen n) (sym none_here)

    pub more_opened : AreOpened d cut g horizon (k + 1) (blocks ++ block ∷ []) out
    more_opened = record {
      counted = (let n = is.counted in let size = length_push blocks block in omega (arith, n, size));
      opened = λ b l. elim (cases_eq b k) [
        | inl last ↦ subst (λ (j : ℕ). seen_at (blocks ++ block ∷ []) j ≡ opening_view (part_of d cut j) g horizon) (sym last) (ap (λ (p : Process). p.seen) here ∙ opening)
        | inr other ↦ ap (λ (p : Process). p.seen) (others b other) ∙ is.opened b (omega (arith, l, other))
      ];
      lawful = λ b l. elim (cases_eq b k) [
        | inl last ↦ subst (λ (j : ℕ). IsLawful (seen_at (blocks ++ block ∷ []) j)) (sym last) (subst (λ (p : Process). IsLawful p.seen) (sym here) lawful)
        | inr other ↦ subst (λ (p : Process). IsLawful p.seen) (sym (others b other)) (is.lawful b (omega (arith, l, other)))
      ];
      account = sent_accounted d cut fits blocks (blocks ++ block ∷ []) k (silent_view (part_of d cut k) g horizon) block.seen others refl (ap (λ (v : View). v.part) opening)
          silent (λ n. ap (λ (p : Process). log_of p.seen n) (sym here)) (λ _. pos 0) (λ t. t ≡ 0) before out once.sends is.account;
      flying = All-same (IsFlying d cut horizon) out (before ++ once.sends.sent) once.sends.appended
          (All-append (IsFlying d cut horizon) before once.sends.sent is.flying (sent_flying d cut fits (silent_view (part_of d cut k) g horizon) k horizon (λ t. t ≡ 0) once.sends.sent refl refl once.sends.named));
      told = told ∙ (ap (λ (ms : List Message). ms ++ opening_messages (part_of d cut k)) is.told
          ∙ (flat_map_more (λ b. opening_messages (part_of d cut b)) [] (range_with_len 0 k) k ∙ ap (flat_map (λ b. opening_messages (part_of d cut b))) (sym (range_more k))));
    }

  none_number : (x : Logic) → number_of no_messages x ≡ pos 0
  none_number Zero = refl
  none_number One = refl
  none_number X = refl
  none_number Z = refl

  -- a new block has heard nothing of other blocks
  unheard : (b n t : ℕ) → hears (part_of d cut b) n ≡ true → entry_of (opening_view (part_of d cut b) g horizon) n t ≡ no_messages
  unheard b n t h =
      let two = and_parts (reads (part_of d cut b) n) (not (is_input (part_of d cut b) n)) h in
      let there = (and_parts (is_some (slot_of (part_nets d cut b) n)) (not (owns (part_of d cut b) n)) two.0).0 in
      ap (λ (q : List Received). entry_in q t) (in_map (part_nets d cut b) (opening_queue (part_of d cut b) g horizon) [] n there ∙ inner (is_input (part_of d cut b) n) _ two.1)
    where
      inner : (i : Bool) (q : List Received) → not i ≡ true → cond i q [] ≡ []
      inner true q h = absurd cc
      inner false q h = refl

  pub opened_world : CutFits d cut → Fits g d → horizon ≤ most_horizon → (blocks : List Process) (flight : List Message) → AreOpened d cut g horizon cut.blocks blocks flight →
      IsLawfulWorld (record { circuit = d; cut = cut; stimulus = g; horizon = horizon; blocks = blocks; flight = flight })
  opened_world fits given short blocks flight is = record {
    fits = fits;
    given = given;
    horizon = short;
    count = is.counted;
    parts = λ b l. record { part = ap (λ (v : View). v.part) (is.opened b l); horizon_is = ap (λ (v : View). v.horizon) (is.opened b l) };
    lawful = is.lawful;
    account = λ p heard.
        (let number : number_at blocks p ≡ pos 0 = ap (λ (v : View). number_of (entry_of v p.net p.time) p.value) (is.opened p.block heard.block) ∙ (ap (λ e. number_of e p.value) (unheard p.block p.net p.time heard.net) ∙ none_number p.value) in
        rw number (is.account p heard));
    inputs = λ b n t l input. ap (λ (v : View). entry_of v n t) (is.opened b l);
    flight = is.flying;
    floors = λ b l.
        (let floor : (seen_at blocks b).floor ≡ 0 = ap (λ (v : View). v.floor) (is.opened b l) in
        subst (IsBefore (record { circuit = d; cut = cut; stimulus = g; horizon = horizon; blocks = blocks; flight = flight })) (sym floor) (record {
          events = λ c u m event. omega arith;
          flight = All-weaker (IsFlying d cut horizon) (λ m. 0 ≤ m.time) (λ m f. omega arith) flight is.flying;
          end = omega arith;
        }));
  }

  pub new_world : (blocks : List Process) (flight : List Message) → AreOpened d cut g horizon cut.blocks blocks flight →
      IsNewWorld (record { circuit = d; cut = cut; stimulus = g; horizon = horizon; blocks = blocks; flight = flight })
  new_world blocks flight is = record { blocks = is.opened; flight = is.told }

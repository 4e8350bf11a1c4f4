-- When one block of a world acts and sends, the world stays lawful.
use Rattle.std.proofs.Common.{◌≡◌, ◌≢◌, ℕ, ℤ, ◌+◌, ◌≤◌, ◌&&◌, ◌==◌, ◌++◌, true, false, cond, Some, List, get_or, inl, inr, ap, sym, ◌∙◌, subst, arith}
use Rattle.std.specs.List.{All, list_any, count_by}
use Rattle.std.proofs.lemmas.Bool.{cases_eq}
use Rattle.std.proofs.lemmas.Int.{ints}
use Rattle.std.proofs.lemmas.List.Sums.{sum_by-append}
use Rattle.std.proofs.lemmas.List.Elements.{All-weaker}
use Rattle.gate_netlist.specs.Circuit.{Design, CutFits}
use Rattle.gate_netlist.specs.Cut.{Ownership, owner_of}
use Rattle.warp_process.specs.declared.message.Message.{Message}
use Rattle.warp_process.specs.declared.message.Sign.{Sign}
use Rattle.warp_process.specs.declared.message.Sign.TheVariants.{Plus, Minus}
use Rattle.warp_part.specs.PartOf.{part_of}
use Rattle.warp_part.specs.Portion.{Portion, readers_of}
use Rattle.warp_process.specs.Sends.{Place, is_change, is_message, is_told, messages, antimessages, standing, IsSendOf, Sends}
use Rattle.warp_process.specs.View.{View, Process, log_of}
use Rattle.warp_core.specs.Matched.{no_process, seen_at}
use Rattle.warp_core.specs.World.{IsHeard, logged, logged_by, AreAccounted, IsFlying}
use Rattle.warp_core.specs.Play.{IsOtherwiseSame}
use Rattle.warp_core.proofs.Hearing.{heard_from, heard_told, told_heard, untold_other}

-- what no other block shows has changed
pub same_seen : (old new : List Process) (b c : ℕ) → IsOtherwiseSame old new b → c ≢ b → seen_at new c ≡ seen_at old c
same_seen old new b c h other = ap (λ (p : Process). p.seen) (h.others c other)

same_seen_of : (old new : List Process) (b c : ℕ) → ((c : ℕ) → c ≢ b → get_or new c no_process ≡ get_or old c no_process) → c ≢ b → seen_at new c ≡ seen_at old c
same_seen_of old new b c h other = ap (λ (p : Process). p.seen) (h c other)

-- messages of two lists
pub both_counts : (s : Sign) (p : Place) (before sent out : List Message) → out ≡ before ++ sent → count_by (is_message s p) out ≡ count_by (is_message s p) before + count_by (is_message s p) sent
both_counts s p before sent out e = ap (λ (ms : List Message). count_by (is_message s p) ms) e ∙ sum_by-append (λ m. cond (is_message s p m) 1 0) before sent

module _ (d : Design) (cut : Ownership) (fits : CutFits d cut) where
  -- what stands of a block's logs is what is logged, of its own nets
  standing_own : (v : View) (blocks : List Process) (b : ℕ) (p : Place) → v.part ≡ part_of d cut b → ((n : ℕ) → log_of v n ≡ log_of (seen_at blocks b) n) →
      IsHeard d cut p → owner_of cut p.net ≡ Some b → standing v p ≡ logged cut blocks p
  standing_own v blocks b p part logs heard owned =
      let told : is_told v.part p ≡ true = ap (λ (q : Portion). is_told q p) part ∙ heard_told d cut fits p.block b p.net heard.block heard.net owned in
      let is : ◌≡◌ {A = ℕ} (standing v p) (cond (list_any (is_change p) (log_of v p.net)) 1 0) = ap (λ t. cond (t && list_any (is_change p) (log_of v p.net)) 1 0) told in
      let log : ◌≡◌ {A = ℕ} (cond (list_any (is_change p) (log_of v p.net)) 1 0) (cond (list_any (is_change p) (log_of (seen_at blocks b) p.net)) 1 0) = ap (λ cs. cond (list_any (is_change p) cs) 1 0) (logs p.net) in
      let there : logged cut blocks p ≡ cond (list_any (is_change p) (log_of (seen_at blocks b) p.net)) 1 0 = ap (logged_by blocks p) owned in
      is ∙ (log ∙ sym there)

  -- and nothing, of the others
  standing_other : (v : View) (b o : ℕ) (p : Place) → v.part ≡ part_of d cut b → owner_of cut p.net ≡ Some o → o ≢ b → standing v p ≡ 0
  standing_other v b o p part owned other =
      let told : is_told v.part p ≡ false = ap (λ (q : Portion). is_told q p) part ∙ untold_other d cut fits b o p.net p.block owned other in
      ap (λ t. cond (t && list_any (is_change p) (log_of v p.net)) 1 0) told

  -- of another's nets the same is logged
  logged_same : (old new : List Process) (b o : ℕ) (p : Place) → ((c : ℕ) → c ≢ b → get_or new c no_process ≡ get_or old c no_process) → owner_of cut p.net ≡ Some o → o ≢ b → logged cut old p ≡ logged cut new p
  logged_same old new b o p h owned other =
      let first : logged cut old p ≡ cond (list_any (is_change p) (log_of (seen_at old o) p.net)) 1 0 = ap (logged_by old p) owned in
      let last : logged cut new p ≡ cond (list_any (is_change p) (log_of (seen_at new o) p.net)) 1 0 = ap (logged_by new p) owned in
      let same : ◌≡◌ {A = ℕ} (cond (list_any (is_change p) (log_of (seen_at old o) p.net)) 1 0) (cond (list_any (is_change p) (log_of (seen_at new o) p.net)) 1 0) = ap (λ (v : View). cond (list_any (is_change p) (log_of v p.net)) 1 0) (sym (same_seen_of old new b o h other)) in
      first ∙ (same ∙ sym last)

  -- A block's logs have changed from one view to another: what it sent is the difference of what is logged.
  module _ (old new : List Process) (b : ℕ) (v v' : View) (h : (c : ℕ) → c ≢ b → get_or new c no_process ≡ get_or old c no_process) (part : v.part ≡ part_of d cut b) (part' : v'.part ≡ part_of d cut b)
      (logs : (n : ℕ) → log_of v n ≡ log_of (seen_at old b) n) (logs' : (n : ℕ) → log_of v' n ≡ log_of (seen_at new b) n) where
    sent_logged : (sent : List Message) (p : Place) → IsHeard d cut p → messages p sent + standing v p ≡ antimessages p sent + standing v' p →
        messages p sent + logged cut old p ≡ antimessages p sent + logged cut new p
    sent_logged sent p heard balance =
        let from = heard_from d cut fits p.block p.net heard.net in
        elim (cases_eq from.owner b) [
          | inl same ↦
              (let owned : owner_of cut p.net ≡ Some b = from.owned ∙ ap (λ k. Some k) same in
              let first = standing_own v old b p part logs heard owned in
              let last = standing_own v' new b p part' logs' heard owned in
              omega (arith, balance, first, last))
          | inr other ↦
              (let first = standing_other v b from.owner p part from.owned other in
              let last = standing_other v' b from.owner p part' from.owned other in
              let same = logged_same old new b from.owner p h from.owned other in
              omega (arith, balance, first, last, same))
        ]

    pub sent_accounted : (number : Place → ℤ) (IsLater : ℕ → Type 0) (before out : List Message) → Sends v v' IsLater before out →
        AreAccounted d cut number old before → AreAccounted d cut number new out
    sent_accounted number IsLater before out sends account p heard =
        let plus = both_counts Plus p before sends.sent out sends.appended in
        let minus = both_counts Minus p before sends.sent out sends.appended in
        let difference = sent_logged sends.sent p heard (sends.balance p) in
        let held = account p heard in
        omega (arith, ints, plus, minus, difference, held)

  -- what a block sends flies
  pub sent_flying : (v : View) (b horizon : ℕ) (IsLater : ℕ → Type 0) (sent : List Message) → v.part ≡ part_of d cut b → v.horizon ≡ horizon → All (IsSendOf v IsLater) sent → All (IsFlying d cut horizon) sent
  sent_flying v b horizon IsLater sent part end named =
      All-weaker (IsSendOf v IsLater) (IsFlying d cut horizon) (λ m is.
      (let told : list_any (λ r. r == m.block) (readers_of (part_of d cut b) m.net) ≡ true = ap (λ (q : Portion). list_any (λ r. r == m.block) (readers_of q m.net)) (sym part) ∙ is.told in
      let heard = told_heard d cut fits m.block b m.net told in
      record { block = heard.1; net = heard.2; within = subst (λ (k : ℕ). m.time ≤ k) end is.within })) sent named

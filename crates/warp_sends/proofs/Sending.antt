-- The messages on words that stand behind logs are the difference of the logs.
use Rattle.std.proofs.Common.{◌≡◌, ◌∙◌, ℕ, ◌+◌, ◌<◌, ◌≤◌, ◌&&◌, ◌==◌, inl, inr, Bool, true, false, cond, Option, Some, None, IsTrue, List, [], ◌∷◌, length, get_or, refl, ap, sym, subst, arith}
use Rattle.std.specs.List.{All, list_any, count_by, flat_map}
use Rattle.std.specs.List.Sorted.{IsPermutation}
use Rattle.std.proofs.lemmas.Bool.{cases_lt, eq-eqb}
use Rattle.std.proofs.lemmas.List.Sums.{sum_by-append}
use Rattle.std.proofs.lemmas.List.Folds.{list_any_at}
use Rattle.std.proofs.lemmas.List.Elements.{All-nil, All-append, All-map, All-head, All-tail, All-weaker, All-from_get_or}
use Rattle.std.proofs.lemmas.List.Sorted.{All-permutation}
use Rattle.gate_values.specs.declared.logic.Change.{Change}
use Rattle.warp_stores.specs.Words.{Move}
use Rattle.warp_stores.specs.Dated.{Dated}
use Rattle.warp_stores.specs.Lists.{AreLonger, changes_at}
use Rattle.warp_part.specs.Portion.{Portion, IsPortion, slot_of, at_slot, of_net, readers_of}
use Rattle.warp_part.proofs.Slots.{slot_is, of_net-at}
use Rattle.warp_process.specs.declared.message.Message.{Message}
use Rattle.warp_process.specs.declared.message.Sign.{Sign}
use Rattle.warp_process.specs.declared.message.Sign.TheVariants.{Plus, Minus}
use Rattle.warp_process.specs.Inner.Logs.{IsLog}
use Rattle.warp_process.specs.Shown.Step.{net_at, sent}
use Rattle.warp_process.specs.Lawful.{IsLawful}
use Rattle.warp_process.specs.Sends.{Place, is_change, is_message, is_told, same_sign, messages, antimessages, standing, IsSendOf, SendsOnce}
use Rattle.warp_process.specs.View.{View}
use Rattle.warp_process.proofs.Rows.{log_rises, logs_len}
use Rattle.warp_process.proofs.Sends.{none_other}
use Rattle.warp_process.proofs.Told.{count-once}
use Rattle.warp_sends.specs.Told.{AreTold, IsTimeOf, told_of}
use Rattle.warp_sends.proofs.Counting.{count-permuted, count-nowhere, count-words, apart_changes, no_readers}

-- ---- what stands

-- 1 where one of some logs has the place's change and its block reads the net
abbrev stands : Portion → List (List Change) → Place → ℕ
stands part logs p = cond (is_told part p && list_any (is_change p) (of_net part.nets logs [] p.net)) 1 0

stands-le : (part : Portion) (logs : List (List Change)) (p : Place) → stands part logs p ≤ 1
stands-le part logs p = go (is_told part p && list_any (is_change p) (of_net part.nets logs [] p.net))
  where
    go : (b : Bool) → cond b 1 0 ≤ 1
    go true = omega arith
    go false = omega arith

module _ (part : Portion) (is : IsPortion part) (less more : List (List Change)) (words : List (Dated Move)) (longer : AreLonger words less more) (many : length less ≡ length part.nets)
    (logs : (i : ℕ) → i < length part.nets → IsLog (get_or more i [])) where
  -- what the log of one place has gained
  gained : (p : Place) (j : ℕ) → j < length part.nets →
      (b : Bool) → cond b (count_by (is_change p) (changes_at j words)) 0 + cond (b && list_any (is_change p) (get_or less j [])) 1 0 ≡ cond (b && list_any (is_change p) (get_or more j [])) 1 0
  gained p j l false = refl
  gained p j l true =
      let count : count_by (is_change p) (get_or more j []) ≡ count_by (is_change p) (get_or less j []) + count_by (is_change p) (changes_at j words)
      = ap (λ (xs : List Change). count_by (is_change p) xs) (longer.each j (omega (arith, many))) ∙ sum_by-append (λ c. cond (is_change p c) 1 0) (get_or less j []) (changes_at j words) in
      let most = apart_changes p (get_or more j []) (logs j l) in
      let now = count-once (is_change p) (get_or more j []) most in
      let before = count-once (is_change p) (get_or less j []) (omega (arith, count, most)) in
      omega (arith, count, now, before)

  -- what is told is what the logs have gained
  gains : (s : Sign) → same_sign s s ≡ true → (p : Place) → count_by (is_message s p) (flat_map (told_of s part) words) + stands part less p ≡ stands part more p
  gains s e p = go (slot_of part.nets p.net) refl
    where
      at_none : (b : Bool) → ◌≡◌ {A = ℕ} (0 + cond (b && false) 1 0) (cond (b && false) 1 0)
      at_none true = refl
      at_none false = refl

      go : (o : Option ℕ) → slot_of part.nets p.net ≡ o →
          count_by (is_message s p) (flat_map (told_of s part) words) + cond (list_any (λ r. r == p.block) (at_slot part.readers [] o) && list_any (is_change p) (at_slot less [] o)) 1 0
          ≡ cond (list_any (λ r. r == p.block) (at_slot part.readers [] o) && list_any (is_change p) (at_slot more [] o)) 1 0
      go None none = rw (count-nowhere part is p s e none words) (at_none (list_any (λ r. r == p.block) []))
      go (Some j) some = rw (count-words part is p s e j some words) (gained p j (slot_is part.nets p.net j some).0 (list_any (λ r. r == p.block) (get_or part.readers j [])))

-- ---- what the messages say

module _ (v : View) (portion : IsPortion v.part) (s : Sign) (IsLater : ℕ → Type 0) where
  -- the message has the sign, and is a send of the block
  abbrev IsSigned : Message → Type 0
  IsSigned m = (m.sign ≡ s) × IsSendOf v IsLater m

  -- the word comes true at such a time, up to the horizon
  abbrev IsTimely : Dated Move → Type 0
  IsTimely d = IsLater d.0 × (d.0 ≤ v.horizon)

  each_reader : (rs : List ℕ) → All (λ r. IsTrue (list_any (λ q. q == r) rs)) rs
  each_reader rs = All-from_get_or (λ r. IsTrue (list_any (λ q. q == r) rs)) rs 0
      (λ i l. list_any_at (λ q. q == get_or rs i 0) rs i 0 l (eq-eqb (get_or rs i 0) (get_or rs i 0) refl))

  named_readers : (net : ℕ) (rs : List ℕ) (c : Change) → All (λ r. IsTrue (list_any (λ q. q == r) (readers_of v.part net))) rs → IsLater c.time → c.time ≤ v.horizon → All IsSigned (sent s net rs c)
  named_readers net rs c readers later until =
      All-map IsSigned (λ r. record { time = c.time; block = r; net = net; value = c.value; sign = s }) rs
      (All-weaker (λ r. IsTrue (list_any (λ q. q == r) (readers_of v.part net))) (λ r. IsSigned (record { time = c.time; block = r; net = net; value = c.value; sign = s }))
      (λ r told. (refl, record { told = told; later = later; within = until })) rs readers)

  named_word : (d : Dated Move) → IsTimely d → All IsSigned (told_of s v.part d)
  named_word d timely =
      let c : Change = record { time = d.0; value = d.1.after } in
      let rs : List ℕ = get_or v.part.readers d.1.place [] in
      let net : ℕ = net_at v.part d.1.place in
      elim (cases_lt d.1.place (length v.part.nets)) [
        | inl l ↦
            (let readers : readers_of v.part (net_at v.part d.1.place) ≡ get_or v.part.readers d.1.place [] = of_net-at v.part.nets v.part.readers [] d.1.place portion.ascending l in
            named_readers net rs c (rw readers (each_reader rs)) timely.0 timely.1)
        | inr past ↦ subst (λ (qs : List ℕ). All IsSigned (sent s net qs c)) (sym (no_readers v.part portion d.1.place past)) (All-nil IsSigned)
      ]

  named_words : (ds : List (Dated Move)) → All IsTimely ds → All IsSigned (flat_map (told_of s v.part) ds)
  named_words [] timely = All-nil IsSigned
  named_words (d ∷ ds) timely = All-append IsSigned (told_of s v.part d) (flat_map (told_of s v.part) ds) (named_word d (All-head IsTimely d ds timely)) (named_words ds (All-tail IsTimely d ds timely))

-- ---- what one call sends

module _ (old new : View) (IsLater : ℕ → Type 0) (words : List (Dated Move)) (before out : List Message) (portion : IsPortion old.part) (same_part : new.part ≡ old.part)
    (later : All (λ (d : Dated Move). IsLater d.0) words) (until : All (λ (d : Dated Move). d.0 ≤ old.horizon) words) where
  signed_words : (s : Sign) (ordered : List (Dated Move)) → IsPermutation words ordered → All (IsSigned old portion s IsLater) (flat_map (told_of s old.part) ordered)
  signed_words s ordered same =
      named_words old portion s IsLater ordered
      (All-permutation (IsTimely old portion s IsLater) words ordered same (λ k d l. (later k d l, until k d l)))

  -- what stands now, by the part as it was
  standing_now : (p : Place) → standing new p ≡ stands old.part new.logs p
  standing_now p = ap (λ q. stands q new.logs p) same_part

  all_sends : (s : Sign) (ordered : List (Dated Move)) → IsPermutation words ordered → All (IsSendOf old IsLater) (flat_map (told_of s old.part) ordered)
  all_sends s ordered same = All-weaker (IsSigned old portion s IsLater) (IsSendOf old IsLater) (λ m is. is.1) (flat_map (told_of s old.part) ordered) (signed_words s ordered same)

  all_signed : (s : Sign) (ordered : List (Dated Move)) → IsPermutation words ordered → All (λ (m : Message). m.sign ≡ s) (flat_map (told_of s old.part) ordered)
  all_signed s ordered same = All-weaker (IsSigned old portion s IsLater) (λ (m : Message). m.sign ≡ s) (λ m is. is.0) (flat_map (told_of s old.part) ordered) (signed_words s ordered same)

  -- the logs are longer by what was told
  sends_longer : AreLonger words old.logs new.logs → length old.logs ≡ length old.part.nets → ((i : ℕ) → i < length old.part.nets → IsLog (get_or new.logs i [])) → AreTold Plus old.part words before out
      → SendsOnce old new Plus IsLater before out
  sends_longer longer many logs told = record {
    sends = record {
      sent = flat_map (told_of Plus old.part) told.ordered;
      appended = told.told;
      named = all_sends Plus told.ordered told.same;
      balance = λ p. omega (arith, gain p, none_other Plus Minus (flat_map (told_of Plus old.part) told.ordered) refl (all_signed Plus told.ordered told.same) p, standing_now p);
    };
    signed = all_signed Plus told.ordered told.same;
    once = λ p. omega (arith, gain p, stands-le old.part new.logs p);
  }
    where
      gain : (p : Place) → messages p (flat_map (told_of Plus old.part) told.ordered) + stands old.part old.logs p ≡ stands old.part new.logs p
      gain p =
          ap (λ (n : ℕ). n + stands old.part old.logs p) (count-permuted (is_message Plus p) (told_of Plus old.part) words told.ordered told.same)
          ∙ gains old.part portion old.logs new.logs words longer many logs Plus refl p

  -- the logs were longer by what is taken back
  sends_shorter : AreLonger words new.logs old.logs → length new.logs ≡ length old.part.nets → ((i : ℕ) → i < length old.part.nets → IsLog (get_or old.logs i [])) → AreTold Minus old.part words before out
      → SendsOnce old new Minus IsLater before out
  sends_shorter longer many logs told = record {
    sends = record {
      sent = flat_map (told_of Minus old.part) told.ordered;
      appended = told.told;
      named = all_sends Minus told.ordered told.same;
      balance = λ p. omega (arith, loss p, none_other Minus Plus (flat_map (told_of Minus old.part) told.ordered) refl (all_signed Minus told.ordered told.same) p, standing_now p);
    };
    signed = all_signed Minus told.ordered told.same;
    once = λ p. omega (arith, loss p, stands-le old.part old.logs p);
  }
    where
      loss : (p : Place) → antimessages p (flat_map (told_of Minus old.part) told.ordered) + stands old.part new.logs p ≡ stands old.part old.logs p
      loss p =
          ap (λ (n : ℕ). n + stands old.part new.logs p) (count-permuted (is_message Minus p) (told_of Minus old.part) words told.ordered told.same)
          ∙ gains old.part portion new.logs old.logs words longer many logs Minus refl p

-- ---- of lawful blocks

-- Where words stand behind a block's logs, the messages on them are what is sent.
pub tells_longer : (old new : View) (IsLater : ℕ → Type 0) (words : List (Dated Move)) (before out : List Message) → IsLawful new → new.part ≡ old.part
    → AreLonger words old.logs new.logs → All (λ (d : Dated Move). IsLater d.0) words → All (λ (d : Dated Move). d.0 ≤ old.horizon) words → AreTold Plus old.part words before out
    → SendsOnce old new Plus IsLater before out
tells_longer old new IsLater words before out lawful part longer later until told =
    let portion : IsPortion old.part = subst IsPortion part lawful.part in
    let nets : length new.part.nets ≡ length old.part.nets = ap (λ (q : Portion). length q.nets) part in
    sends_longer old new IsLater words before out portion part later until longer (omega (arith, longer.same, logs_len new lawful, nets))
    (λ i l. log_rises new lawful i (omega (arith, nets))) told

-- Where words stood behind a block's logs, the antimessages on them are what is sent.
pub takes_back_shorter : (old new : View) (IsLater : ℕ → Type 0) (words : List (Dated Move)) (before out : List Message) → IsLawful old → new.part ≡ old.part
    → AreLonger words new.logs old.logs → All (λ (d : Dated Move). IsLater d.0) words → All (λ (d : Dated Move). d.0 ≤ old.horizon) words → AreTold Minus old.part words before out
    → SendsOnce old new Minus IsLater before out
takes_back_shorter old new IsLater words before out lawful part longer later until told =
    sends_shorter old new IsLater words before out lawful.part part later until longer (omega (arith, longer.same, logs_len old lawful)) (λ i l. log_rises old lawful i l) told

-- each word comes true at the time of one of them
pub at_times : (words : List (Dated Move)) → All (λ (d : Dated Move). IsTimeOf words d.0) words
at_times words k d l = list_any_at (λ (e : Dated Move). e.0 == (get_or words k d).0) words k d l (eq-eqb (get_or words k d).0 (get_or words k d).0 refl)

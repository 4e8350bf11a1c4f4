-- Each kind of step on the words keeps the rule.
use Rattle.std.proofs.Common.{◌≡◌, ℕ, ◌+◌, ◌%◌, ◌<◌, Bool, true, false, cond, ltb, min, List, [], ◌∷◌, ◌++◌, get_or, set, refl, sym, ap, ◌∙◌, subst, arith}
use mathlib.Core.Option.{some}
use lib.ListN.{get_elem?}
use Rattle.atomic_table.specs.Table.{State, Me, keeps, stepped, Allows, Splits, Joins, Enters, opening}
use Rattle.atomic_table.proofs.Lists.{set_else}
use Rattle.warp_rounds.specs.declared.hand.Hand.{Hand}
use Rattle.warp_rounds.specs.Words.{never}
use Rattle.warp_rounds.specs.Inner.Rule.{hand_of, empty_hand, spent_hand, after_draw, after_report, after_deal, both_hands, IsFair, IsCount, HoldsRule}
use Rattle.warp_rounds.proofs.Counting.{count_set, count_push, count_collect, count_draw, count_mark, count_opening}
use Rattle.warp_rounds.proofs.Timing.{time_set, time_push, time_report, time_collect, time_opening}
use Rattle.warp_rounds.proofs.Sharing.{shares_set, shares_open, shares_deal, shares_collect, shares_opening, few_draws}
use borrow.Author.Tests.{ltb-true, ltb-false}

abbrev Words : Type 0
Words = State (Unit {0}) Hand

abbrev Mine : Type 0
Mine = Me (Unit {0}) Hand

-- one more in word 0
abbrev next : ℕ → ℕ
next n = (n + 1) % 18446744073709551616

module _ (blocks seats : ℕ) where
  abbrev Rule : Words → Type 0
  Rule = HoldsRule blocks seats

  -- word 0 goes up, and a hand has changed as it counts
  counted_holds : (s : Words) (r : Rule s) (id : ℕ) (slots : List (ℕ × Unit {0})) (v w : Hand) (n : ℕ) → get_elem? s.views id ≡ some v → r.number ≡ n
      → w.least ≡ v.least → w.shares ≡ v.shares → IsFair blocks w → IsCount blocks (n + 1) (set s.views id w) → Rule (stepped s 0 (next n) id slots w keeps)
  counted_holds s r id slots v w n at is least shares fair count =
      let few = few_draws blocks seats r.number s.views r.count r.shares in let room = r.room in
      let more : next n ≡ n + 1 = omega arith in
      record {
        number = n + 1;
        least = r.least;
        words = ap (λ (words : List ℕ). set words 0 (next n)) r.words ∙ ap (λ m. m ∷ r.least ∷ []) more;
        count = count;
        earliest = time_set r.least s.views id v w at least r.earliest;
        shares = shares_set blocks seats s.views id v w at shares fair r.shares;
        room = r.room;
      }

  draw_holds : (s : Words) (r : Rule s) (id : ℕ) (slots : List (ℕ × Unit {0})) (v : Hand) (n : ℕ) → get_elem? s.views id ≡ some v → r.number ≡ n → v.shares ≡ 1 → v.marks ≡ 0
      → (left : Bool) → ltb n v.blocks ≡ left
      → Rule (stepped s 0 (next n) id slots (cond left (hand_of v.blocks v.shares v.marks (v.draws ++ n ∷ []) v.least) (hand_of v.blocks v.shares (v.marks + 1) v.draws v.least)) keeps)
  draw_holds s r id slots v n at is one none true left =
      let same : v.blocks ≡ blocks = (r.shares.fair id v at).same (omega arith) in let below = ltb-true n v.blocks left in
      counted_holds s r id slots v (hand_of v.blocks v.shares v.marks (v.draws ++ n ∷ []) v.least) n at is refl refl
      record { same = λ _. same; marked = omega arith; empty = λ z. absurd (omega arith) }
      (count_draw blocks n s.views id v at (omega arith) (subst (λ m. IsCount blocks m s.views) is r.count))
  draw_holds s r id slots v n at is one none false left =
      let same : v.blocks ≡ blocks = (r.shares.fair id v at).same (omega arith) in let past = ltb-false n v.blocks left in
      counted_holds s r id slots v (hand_of v.blocks v.shares (v.marks + 1) v.draws v.least) n at is refl refl
      record { same = λ _. same; marked = omega arith; empty = λ z. absurd (omega arith) }
      (count_mark blocks n s.views id v at (omega arith) (subst (λ m. IsCount blocks m s.views) is r.count))

  pub draw_keeps : (slots id : ℕ) (me : Mine) → me.0.shares ≡ 1 → me.0.marks ≡ 0
      → Allows Rule slots id me 0 next (λ found after. (after.0 ≡ after_draw found me.0) × (after.1 ≡ me.1))
  draw_keeps slots id me one none s r homes at fits =
      let n : ℕ = get_or s.words 0 0 in let is : r.number ≡ n = sym (ap (λ (words : List ℕ). get_or words 0 0) r.words) in
      (after_draw n me.0, keeps, tt, draw_holds s r id me.1 me.0 n at is one none (ltb n me.0.blocks) refl, (refl, refl))

  pub report_keeps : (slots id : ℕ) (me : Mine) (t : ℕ) → me.0.shares ≡ 1
      → Allows Rule slots id me 1 (λ n. min n t) (λ found after. (after.0 ≡ after_report t me.0) × (after.1 ≡ me.1))
  report_keeps slots id me t one s r homes at fits =
      let v : Hand = me.0 in let w : Hand = after_report t v in let fair = r.shares.fair id v at in (
        w,
        keeps,
        tt,
        record {
          number = r.number;
          least = min r.least t;
          words = ap (λ (words : List ℕ). set words 1 (min (get_or words 1 0) t)) r.words;
          count = count_set blocks r.number s.views id v w at refl refl r.count;
          earliest = time_report r.least s.views id v t at r.earliest;
          shares = shares_set blocks seats s.views id v w at refl record { same = fair.same; marked = fair.marked; empty = λ z. absurd (omega arith) } r.shares;
          room = r.room;
        },
        (refl, refl),
      )

  pub deal_keeps : (id : ℕ) (v : Hand) → 0 < v.shares → v.marks ≡ 0 → v.draws ≡ [] → v.least ≡ never → Splits Rule id v (after_deal v) (empty_hand v.blocks 1)
  deal_keeps id v some_share no_mark no_draw no_time s r at =
      let left : Hand = after_deal v in let right : Hand = empty_hand v.blocks 1 in let hands : List Hand = set s.views id left in
      record {
        number = r.number;
        least = r.least;
        words = r.words;
        count = count_push blocks r.number hands right refl refl (count_set blocks r.number s.views id v left at refl refl r.count);
        earliest = time_push r.least hands right refl (time_set r.least s.views id v left at refl r.earliest);
        shares = shares_deal blocks seats s.views id v at some_share no_mark no_draw no_time r.shares;
        room = r.room;
      }

  pub collect_keeps : (id : ℕ) (v : Hand) (other : ℕ) (w : Hand) → 0 < w.shares → Joins Rule id v other w (both_hands v w) spent_hand
  collect_keeps id v other w some_share s r at apart still =
      let there : get_elem? s.views other ≡ some w = sym (set_else s.views id other (both_hands v w) apart) ∙ still in
      record {
        number = r.number;
        least = r.least;
        words = r.words;
        count = count_collect blocks r.number s.views id other v w at still r.count;
        earliest = time_collect r.least s.views id other v w at there apart r.earliest;
        shares = shares_collect blocks seats s.views id other v w at there still some_share r.shares;
        room = r.room;
      }

  pub open_keeps : (slots : ℕ) → Enters Rule slots 0 (λ n w. w ≡ spent_hand)
  open_keeps slots s r homes fits = (
    spent_hand,
    record {
      number = r.number;
      least = r.least;
      words = r.words;
      count = count_push blocks r.number s.views spent_hand refl refl r.count;
      earliest = time_push r.least s.views spent_hand refl r.earliest;
      shares = shares_open blocks seats s.views r.shares;
      room = r.room;
    },
    refl,
  )

  pub opening_holds : (v : Hand) → v ≡ empty_hand blocks seats → blocks + seats < 9223372036854775808 → Rule (opening (0 ∷ never ∷ []) [] v)
  opening_holds v is room = subst (λ (h : Hand). Rule (opening (0 ∷ never ∷ []) [] h)) (sym is) record {
    number = 0;
    least = never;
    words = refl;
    count = count_opening blocks (empty_hand blocks seats) refl refl;
    earliest = time_opening (empty_hand blocks seats) refl;
    shares = shares_opening blocks seats;
    room = room;
  }

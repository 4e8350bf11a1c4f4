-- When something happens in a block, by the run that is its.
use Rattle.std.proofs.Common.{◌≡◌, ◌∙◌, ℕ, zero, suc, ◌+◌, ◌<◌, ◌≤◌, ◌&&◌, inl, inr, Bool, true, false, cond, nat_lt, nat_eq, unwrap_or, Some, None, is_some, IsSome, List, [], ◌∷◌, length, get_or, refl, ap, sym, subst, arith}
use Rattle.std.proofs.lemmas.Bool.{cases_lt, true≢false, and_parts, cond-true, cond-false, ne_eqb}
use Rattle.std.proofs.lemmas.List.{get_or_default, get_or-map, get_or_past}
use Rattle.std.proofs.lemmas.List.Folds.{Any-from_list_any, list_any_at}
use Rattle.std.proofs.lemmas.Grind.{common_steps}
use Rattle.gate_values.specs.declared.logic.Logic.{Logic}
use Rattle.gate_values.specs.declared.logic.Logic.TheVariants.{X}
use Rattle.gate_values.specs.declared.logic.Change.{Change}
use Rattle.gate_values.specs.Behaviour.{Source, Outside, source_delay, initial_of}
use Rattle.gate_values.specs.Changes.{same, pair_at, changes, before_time, just_before, held}
use Rattle.gate_values.proofs.ChangeLists.{change_option, pair_at-changes, pair_at-late, same_is, same_refl}
use Rattle.gate_values.proofs.Behaving.{outside_is}
use Rattle.warp_stores.specs.declared.least.TheConstants.{NEVER}
use Rattle.warp_stores.specs.Delays.{least_due}
use Rattle.place_moves.specs.Moves.{value_before}
use Rattle.place_moves.proofs.Coming.{value-none, value-first}
use Rattle.place_moves.proofs.Sourcing.{value-past, made-first}
use Rattle.warp_engine.specs.Runs.{Run}
use Rattle.warp_engine.specs.Nexts.{IsLeftAlone, IsStill, IsUsed}
use Rattle.warp_engine.proofs.Nexting.{still_until, next_move, NextMove}
use Rattle.warp_part.specs.Portion.{source_of, owns, is_driven, is_used}
use Rattle.warp_process.specs.View.{View, given_by, block_value, effective_at, log_of, news_of, is_busy}
use Rattle.warp_process.specs.Lawful.{IsLawful, lawful_log}
use Rattle.warp_part.specs.Placing.{placed, place_source, place_given, place_cells}
use Rattle.part_engine.specs.Runs.{IsRunOf, begins_of}
use Rattle.part_engine.proofs.Kept.{pair_at-filter}
use Rattle.warp_part.proofs.Placing.{shown_at, nothing_past}
use Rattle.part_engine.proofs.Sources.{source_out, outside_from, driven_from, delay_placed, initial_placed, place_there, delay_some, formed_at}
use Rattle.part_engine.proofs.Firsts.{BeginsSome, begins_some, begins_none, begins_own}
use Rattle.part_engine.proofs.Uses.{used_place, place_used}
use Rattle.warp_process.proofs.Rows.{news_own, source_here}

-- ---- a change stands in a log where a value moves

still_none : (f : ℕ → Logic) (t : ℕ) → f t ≡ just_before f t → change_option f t ≡ None
still_none f t e = ap (λ (v : Logic). cond (same v (just_before f t)) None (Some (f t))) e ∙ ap (λ b. cond b None (Some (f t))) (same_refl (just_before f t))

moves_some : (f : ℕ → Logic) (t : ℕ) → (f t ≡ just_before f t → ⊥) → IsSome (change_option f t)
moves_some f t n = go (same (f t) (just_before f t)) refl
  where
    go : (b : Bool) → same (f t) (just_before f t) ≡ b → IsSome (cond b None (Some (f t)))
    go true e = absurd (n (same_is (f t) (just_before f t) e))
    go false e = refl

-- what stands before an end stays there
pair_before : (end : ℕ) (cs : List Change) (t : ℕ) → t < end → pair_at (before_time end cs) t ≡ pair_at cs t
pair_before end [] t l = refl
pair_before end (c ∷ cs) t l = go (pair_before end cs t l) (nat_lt c.time end) refl
  where
    go : pair_at (before_time end cs) t ≡ pair_at cs t → (b : Bool) → nat_lt c.time end ≡ b → pair_at (cond b (c ∷ before_time end cs) (before_time end cs)) t ≡ pair_at (c ∷ cs) t
    go rest true e = ap (λ o. cond (nat_eq c.time t) (Some c.value) o) rest
    go rest false e = rest ∙ sym (ap (λ b. cond b (Some c.value) (pair_at cs t)) (ne_eqb c.time t (λ same_time. true≢false (sym (lt_of same_time) ∙ e))))
      where
        lt_of : c.time ≡ t → nat_lt c.time end ≡ true
        lt_of same_time = grind (arith, common_steps)

module _ (v : View) (lawful : IsLawful v) where
  abbrev ps : ℕ → Source
  ps = place_source v.part

  abbrev pg : ℕ → ℕ → Logic
  pg = place_given v.part (given_by v)

  abbrev net : ℕ → ℕ
  net i = get_or v.part.nets i 0

  abbrev shown : ℕ → ℕ → Logic
  shown i = block_value v (net i)

  before_is : (i : ℕ) → i < length v.part.nets → (t : ℕ) → value_before ps pg i t ≡ just_before (shown i) t
  before_is i l zero = value-none ps pg i
  before_is i l (suc t) = shown_at v.part lawful.part (given_by v) (suc t) i l

  still_shown : (i : ℕ) → i < length v.part.nets → (t : ℕ) → IsStill ps pg i t → shown i t ≡ just_before (shown i) t
  still_shown i l t h = sym (before_is i l (suc t)) ∙ h ∙ before_is i l t

  shown_still : (i : ℕ) → i < length v.part.nets → (t : ℕ) → shown i t ≡ just_before (shown i) t → IsStill ps pg i t
  shown_still i l t h = before_is i l (suc t) ∙ h ∙ sym (before_is i l t)

  log_of_place : (i : ℕ) → i < length v.part.nets → is_driven (get_or v.part.sources i Outside) ≡ true → get_or v.logs i [] ≡ before_time (v.mark + source_delay (get_or v.part.sources i Outside)) (changes (shown i) (v.horizon + 1))
  log_of_place i l own =
      let s : Source = get_or v.part.sources i Outside in
      let here : source_of v.part (net i) ≡ s = source_here v lawful i l in
      ap (λ (ls : List (List Change)). get_or ls i []) lawful.logs ∙ get_or-map (lawful_log v) v.part.nets i 0 [] l
      ∙ cond-true (owns v.part (net i)) (before_time (v.mark + source_delay (source_of v.part (net i))) (changes (shown i) (v.horizon + 1))) [] (ap is_driven here ∙ own)
      ∙ ap (λ (x : Source). before_time (v.mark + source_delay x) (changes (shown i) (v.horizon + 1))) here

  -- where a place is still, its log has no news
  news_none : (i : ℕ) → i < length v.part.nets → is_driven (get_or v.part.sources i Outside) ≡ true → (t : ℕ) → IsStill ps pg i t → IsSome (news_of v (net i) t) → ⊥
  news_none i l own t still some =
      let s : Source = get_or v.part.sources i Outside in
      let all : List Change = changes (shown i) (v.horizon + 1) in
      let logged : IsSome (pair_at (before_time (v.mark + source_delay s) all) t) = subst (λ o. IsSome o) (news_own v lawful i l own t ∙ ap (λ (cs : List Change). pair_at cs t) (log_of_place i l own)) some in
      let there : IsSome (pair_at all t) = pair_at-filter (λ (c : Change). nat_lt c.time (v.mark + source_delay s)) all t logged in
      let none : pair_at all t ≡ None = elim (cases_lt t (v.horizon + 1)) [
        | inl k ↦ pair_at-changes (shown i) (v.horizon + 1) t k ∙ still_none (shown i) t (still_shown i l t still)
        | inr g ↦ pair_at-late (shown i) (v.horizon + 1) t g
      ] in
      true≢false (sym (subst (λ o. IsSome o) none there))

  -- where it moves, up to the horizon and less than a delay past the mark, it has some
  news_some : (i : ℕ) → i < length v.part.nets → is_driven (get_or v.part.sources i Outside) ≡ true → (t : ℕ) → t < v.mark + source_delay (get_or v.part.sources i Outside) → t ≤ v.horizon → (IsStill ps pg i t → ⊥) → IsSome (news_of v (net i) t)
  news_some i l own t soon within moves =
      let s : Source = get_or v.part.sources i Outside in
      let all : List Change = changes (shown i) (v.horizon + 1) in
      subst (λ o. IsSome o)
      (sym (news_own v lawful i l own t ∙ ap (λ (cs : List Change). pair_at cs t) (log_of_place i l own) ∙ pair_before (v.mark + source_delay s) all t soon ∙ pair_at-changes (shown i) (v.horizon + 1) t (omega arith)))
      (moves_some (shown i) t (λ e. moves (shown_still i l t e)))

  busy_at : (i t : ℕ) → i < length v.part.nets → is_used v.part (net i) ≡ true → IsSome (news_of v (net i) t) → is_busy v t ≡ true
  busy_at i t l used some = list_any_at (λ n. is_used v.part n && is_some (news_of v n t)) v.part.nets i 0 l (both (is_used v.part (net i)) (is_some (news_of v (net i) t)) used some)
    where
      both : (a b : Bool) → a ≡ true → b ≡ true → (a && b) ≡ true
      both a b e f = rw (e, f) refl

  -- what an own place shows at first is what it begins with
  first_is : (i : ℕ) → is_driven (get_or v.part.sources i Outside) ≡ true → value_before ps pg i 1 ≡ initial_of (get_or v.part.sources i Outside)
  first_is i own =
      let s : Source = get_or v.part.sources i Outside in
      let some : 0 < source_delay (ps i) = (let d = delay_some v.part lawful.part i own in omega (arith, delay_placed v.part.nets s)) in
      value-first ps pg i 1 (omega arith) (omega arith) ∙ made-first ps pg i (formed_at v.part lawful.part i) some ∙ initial_placed v.part.nets s

  first_still : (i : ℕ) → is_driven (get_or v.part.sources i Outside) ≡ true → initial_of (get_or v.part.sources i Outside) ≡ X → IsStill ps pg i 0
  first_still i own none = first_is i own ∙ none ∙ sym (value-none ps pg i)

  -- where a net that is read begins with a known value, time 0 is busy
  pub begin_busy : v.mark ≡ 0 → begins_of v.part ≡ true → is_busy v 0 ≡ true
  begin_busy start begins =
      let some : BeginsSome v.part lawful.part = begins_some v.part lawful.part begins in
      let own : is_driven (get_or v.part.sources some.at Outside) ≡ true = begins_own (get_or v.part.sources some.at Outside) some.known in
      busy_at some.at 0 some.within some.used
      (news_some some.at some.within own 0 (let d = delay_some v.part lawful.part some.at own in omega arith) (omega arith)
      (λ still. some.known (sym (first_is some.at own) ∙ still ∙ value-none ps pg some.at)))

  module _ (floor : ℕ) (run : Run) (of : IsRunOf v.part (given_by v) v.horizon floor run) (mark : run.book.mark ≡ v.mark) where
    used_cell : (i : ℕ) → IsUsed run.book.gates.cells i → IsUsed (place_cells v.part) i
    used_cell i used = subst (λ cs. IsUsed cs i) of.cells used

    -- the least time at which something comes true of what is read is busy
    pub due_busy : least_due run.book.queues.read < NEVER → least_due run.book.queues.read ≤ v.horizon → is_busy v (least_due run.book.queues.read) ≡ true
    due_busy some within =
        let next : NextMove ps pg floor run.book of.is.played = next_move ps pg floor run.book of.is.played of.parted some in
        let i : ℕ = next.place in
        let s : Source = get_or v.part.sources i Outside in
        let own : is_driven s ≡ true = driven_from v.part.nets s next.driven in
        let there : i < length v.part.nets = place_there v.part lawful.part i own in
        busy_at i (least_due run.book.queues.read) there (place_used v.part lawful.part i there (used_cell i next.used))
        (news_some i there own (least_due run.book.queues.read) (omega (arith, next.soon, mark, delay_placed v.part.nets s)) within next.moves)

    module _ (time : ℕ) (none : (i t : ℕ) → i < length v.part.nets → is_driven (get_or v.part.sources i Outside) ≡ false → v.mark ≤ t → t < time → effective_at v (net i) t ≡ None)
        (start : v.mark ≡ 0 → 0 < time → begins_of v.part ≡ false) (due : time ≤ least_due run.book.queues.read) where
      -- what isn't told to a place keeps it still
      outside_still : (i t : ℕ) → i < length v.part.nets → is_driven (get_or v.part.sources i Outside) ≡ false → v.mark ≤ t → t < time → IsStill ps pg i t
      unfolding held
      outside_still i t l out low high = shown_still i l t (given_is t ∙ held_on t (none i t l out low high))
        where
          given_is : (u : ℕ) → shown i u ≡ given_by v u (net i)
          given_is u = outside_is (source_of v.part) (given_by v) (net i) u (source_here v lawful i l ∙ source_out (get_or v.part.sources i Outside) out)

          held_on : (u : ℕ) → effective_at v (net i) u ≡ None → given_by v u (net i) ≡ just_before (shown i) u
          held_on zero e = ap (λ o. unwrap_or o X) e
          held_on (suc u) e = ap (λ o. unwrap_or o (held (effective_at v (net i)) u)) e ∙ sym (given_is u)

      past_still : (i t : ℕ) → length v.part.nets ≤ i → IsStill ps pg i t
      past_still i t far = value_past (suc t) ∙ sym (value_past t)
        where
          source_past : ps i ≡ Outside
          source_past = ap (placed v.part.nets) (get_or_past v.part.sources i Outside (let e = lawful.part.sources in omega arith))

          value_past : (u : ℕ) → value_before ps pg i u ≡ X
          value_past u = value-past ps pg i u source_past (λ s. nothing_past v.part lawful.part (given_by v) i s far)

      alone : IsLeftAlone ps pg run.book.gates.cells run.book.mark time
      alone = record {
        outside = λ i t used out low high. elim (cases_lt i (length v.part.nets)) [
          | inl l ↦ outside_still i t l (outside_from v.part.nets (get_or v.part.sources i Outside) out) (omega (arith, mark)) high
          | inr far ↦ past_still i t far
        ];
        beginning = λ i used at some. elim (cases_lt i (length v.part.nets)) [
          | inl l ↦ begin_still i l used (omega (arith, mark)) some
          | inr far ↦ past_still i 0 far
        ];
      }
        where
          begin_still : (i : ℕ) → i < length v.part.nets → IsUsed run.book.gates.cells i → v.mark ≡ 0 → 0 < time → IsStill ps pg i 0
          begin_still i l used at some = go (is_driven (get_or v.part.sources i Outside)) refl
            where
              go : (b : Bool) → is_driven (get_or v.part.sources i Outside) ≡ b → IsStill ps pg i 0
              go false out = outside_still i 0 l out (omega arith) some
              go true own = first_still i own (begins_none v.part lawful.part i l (place_used v.part lawful.part i l (used_cell i used)) (start at some))

      -- and before it, as long as nothing is told, nothing is
      pub quiet_before : (t : ℕ) → v.mark ≤ t → t < time → is_busy v t ≡ true → ⊥
      quiet_before t low high busy =
          let a = Any-from_list_any (λ n. is_used v.part n && is_some (news_of v n t)) v.part.nets busy in
          let i : ℕ = a.0 in
          let same_net : get_or v.part.nets i 0 ≡ a.1 = get_or_default v.part.nets i 0 a.1 a.2 ∙ a.3 in
          let both : (is_used v.part (net i) && is_some (news_of v (net i) t)) ≡ true = subst (λ n. (is_used v.part n && is_some (news_of v n t)) ≡ true) (sym same_net) a.4 in
          let parts = and_parts (is_used v.part (net i)) (is_some (news_of v (net i) t)) both in
          nowhere i a.2 parts.0 parts.1
        where
          nowhere : (i : ℕ) → i < length v.part.nets → is_used v.part (net i) ≡ true → IsSome (news_of v (net i) t) → ⊥
          nowhere i l used some = go (is_driven (get_or v.part.sources i Outside)) refl
            where
              go : (b : Bool) → is_driven (get_or v.part.sources i Outside) ≡ b → ⊥
              go true own =
                  news_none i l own t
                  (still_until ps pg floor run.book of.is.played of.parted time alone due i t (subst (λ cs. IsUsed cs i) (sym of.cells) (used_place v.part lawful.part i l used)) (omega (arith, mark)) high) some
              go false out =
                  let e : news_of v (net i) t ≡ None =
                  cond-false (owns v.part (net i)) (pair_at (log_of v (net i)) t) (effective_at v (net i) t) (ap is_driven (source_here v lawful i l) ∙ out) ∙ none i t l out low high in
                  true≢false (sym (subst (λ o. IsSome o) e some))

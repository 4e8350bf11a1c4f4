-- What is counted stays right as a block receives, commits and advances.
use Rattle.std.proofs.Common.{◌≡◌, ◌≢◌, ℕ, zero, suc, Bool, true, false, cond, pos, ◌+ℤ◌, ◌+◌, ◌-◌, ◌<◌, ◌≤◌, ◌&&◌, ◌==◌, max, inl, inr, is_some, List, [], ◌∷◌, ◌++◌, refl, sym, ap, ◌∙◌, subst, arith}
use Rattle.std.specs.Prelude.{Option, Some, None}
use Rattle.std.specs.List.{list_any, count_by, range_with_len}
use Rattle.std.proofs.lemmas.Bool.{cases_lt, ne_eqb, and_left}
use Rattle.std.proofs.lemmas.Int.{ints}
use Rattle.std.proofs.lemmas.List.Sums.{sum_by-cons}
use mathlib.Core.Path.{fun_ext}
use mathlib.Core.Logic.{dite}
use native.Mathlib.Decide.{ℕ_discrete}
use Rattle.gate_values.specs.declared.logic.Logic.{Logic}
use Rattle.gate_values.specs.declared.logic.Logic.TheVariants.{Zero, One, X, Z}
use Rattle.gate_values.specs.declared.logic.Change.{Change}
use Rattle.gate_values.specs.Changes.{same, pair_at}
use Rattle.warp_process.specs.declared.message.Message.{Message}
use Rattle.warp_process.specs.declared.entry.Entry.{Entry}
use Rattle.warp_process.specs.Entries.{number_of, effective_of, weight_of}
use Rattle.warp_part.specs.Portion.{Portion, owns, is_used}
use Rattle.warp_process.specs.View.{View, Process, entry_of, effective_at, log_of, is_busy, busy_times}
use Rattle.warp_process.specs.Lawful.{IsLawful}
use Rattle.warp_process.specs.Receive.{IsTaken, IsStraggler, does_tell}
use Rattle.warp_process.specs.Advance.{IsAdvanced}
use Rattle.warp_process.specs.Commit.{IsCommittable, IsCommitted}
use Rattle.warp_process.proofs.SavingTimes.{times-split, times-agree, times-none}
use Rattle.warp_process.proofs.SavingBusy.{busy_agree}
use Rattle.warp_process.proofs.SavingStep.{same_effective}
use Rattle.warp_process.proofs.Laws.{same_effective_of, taken_elsewhere}
use Rattle.warp_process.proofs.Going.{idle_past}
use Rattle.warp_rounds.specs.declared.counts.Counts.{Counts}
use Rattle.warp_rounds.specs.Counts.{IsCounted, AreCounted}

-- ---- whether two effective values are the same

abbrev code_of : Option Logic → ℕ
code_of None = 0
code_of (Some Zero) = 1
code_of (Some One) = 2
code_of (Some X) = 3
code_of (Some Z) = 4

abbrev value_of : ℕ → Option Logic
value_of zero = None
value_of (suc zero) = Some Zero
value_of (suc (suc zero)) = Some One
value_of (suc (suc (suc zero))) = Some X
value_of (suc (suc (suc (suc n)))) = Some Z

value-code : (o : Option Logic) → value_of (code_of o) ≡ o
value-code None = refl
value-code (Some Zero) = refl
value-code (Some One) = refl
value-code (Some X) = refl
value-code (Some Z) = refl

same_values : (a b : Option Logic) → ((a ≢ b) → ⊥) → a ≡ b
same_values a b h = dite (ℕ_discrete (code_of a) (code_of b))
    (λ is. sym (value-code a) ∙ (ap value_of is ∙ value-code b))
    (λ other. absurd (h (λ is. other (ap code_of is))))

-- ---- a message

-- a message changes no effective value of another net
taken_of_other : (old new : View) (m : Message) → IsTaken old new m → (n t : ℕ) → m.net ≢ n → effective_at old n t ≡ effective_at new n t
taken_of_other old new m taken n t other =
    same_effective_of (entry_of old n t) (entry_of new n t) (λ x.
    (let untold : does_tell m n t x ≡ false = and_left (m.net == n) ((m.time == t) && same m.value x) (ne_eqb m.net n other) in
    let number = taken.numbers n t x in
    sym (number ∙ (ap (λ b. number_of (entry_of old n t) x +ℤ cond b (weight_of m.sign) (pos 0)) untold ∙ omega (arith, ints)))))

-- one in time changes none below the mark
taken_in_time : (old new : View) (m : Message) → IsTaken old new m → ¬ IsStraggler old new m → (n t : ℕ) → t < old.mark → effective_at old n t ≡ effective_at new n t
taken_in_time old new m taken early n t below = dite (ℕ_discrete m.time t)
    (λ then. dite (ℕ_discrete m.net n)
    (λ here. subst (λ k. effective_at old k t ≡ effective_at new k t) here (subst (λ s. effective_at old m.net s ≡ effective_at new m.net s) then
    (sym (same_values _ _ (λ differ. early (omega (arith, below, then), differ))))))
    (λ elsewhere. taken_of_other old new m taken n t elsewhere))
    (λ other. taken_elsewhere old new m taken n t other)

-- a message that took the mark back came too late
pub fell_back : (old new : View) (m : Message) → IsTaken old new m → new.mark < old.mark → new.mark ≡ m.time
fell_back old new m taken back = dite (ℕ_discrete new.mark m.time) (λ is. is)
    (λ other. absurd (let stays = taken.in_time (λ straggler. other (taken.straggler straggler)) in omega (arith, stays, back)))

stays_in_time : (old new : View) (m : Message) → IsTaken old new m → old.mark ≤ new.mark → ¬ IsStraggler old new m
stays_in_time old new m taken on straggler = let back = taken.straggler straggler in let late = straggler.0 in absurd (omega (arith, back, late, on))

module _ (old new : View) (m : Message) (isold : IsLawful old) (isnew : IsLawful new) (taken : IsTaken old new m) where
  same_kept : (from end : ℕ) → end ≤ old.mark → end ≤ new.mark → ((n t : ℕ) → t < end → effective_at old n t ≡ effective_at new n t) → busy_times old from end ≡ busy_times new from end
  same_kept from end l k agree = times-agree (is_busy old) (is_busy new) from end (λ t a b.
      busy_agree old new isold isnew taken.part taken.horizon t (omega (arith, b, l)) (omega (arith, b, k)) (λ n u c. agree n u (omega (arith, b, c))))

  pub received_on : (c : Counts) → IsCounted old c → old.mark ≤ new.mark → IsCounted new c
  received_on c h on =
      let early = stays_in_time old new m taken on in
      let mark = taken.in_time early in
      let kept = same_kept c.since old.mark (omega arith) on (taken_in_time old new m taken early) in
      let floor = taken.floor in
      record {
        start = omega (arith, floor, h.start);
        finished = h.finished ∙ ap (λ k. c.undone + k) (kept ∙ ap (λ e. busy_times new c.since e) (sym mark));
      }

  back_time : new.mark < old.mark → new.mark ≡ m.time
  back_time back = fell_back old new m taken back

  pub back_from : new.mark < old.mark → old.floor ≤ m.time
  back_from back = let time = back_time back in let floor = taken.floor in let low = isnew.floor in omega (arith, time, floor, low)

  pub back_until : new.mark < old.mark → m.time < old.mark
  back_until back = let time = back_time back in omega (arith, time, back)

  split_back : (c : Counts) → IsCounted old c → new.mark < old.mark → busy_times old c.since old.mark ≡ busy_times new c.since new.mark + busy_times old m.time old.mark
  split_back c h back =
      let time = back_time back in
      let from = back_from back in
      let until = back_until back in
      let start = h.start in
      let split : busy_times old c.since old.mark ≡ busy_times old c.since m.time + busy_times old m.time old.mark =
      times-split (is_busy old) c.since m.time old.mark (omega (arith, start, from)) (omega (arith, until)) in
      let kept = same_kept c.since m.time (omega (arith, until)) (omega (arith, time))
      (λ n t l. taken_elsewhere old new m taken n t (λ is. absurd (omega (arith, l, is)))) in
      split ∙ ap (λ k. k + busy_times old m.time old.mark) (kept ∙ ap (λ e. busy_times new c.since e) (sym time))

  pub room_back : (c : Counts) (count : ℕ) → IsCounted old c → new.mark < old.mark → count ≡ busy_times old m.time old.mark → c.undone + count ≤ c.steps
  room_back c count h back is = let split = split_back c h back in let sum = h.finished in omega (arith, split, sum, is)

  pub received_back : (c e : Counts) (count : ℕ) → IsCounted old c → new.mark < old.mark → count ≡ busy_times old m.time old.mark → e.since ≡ c.since → e.steps ≡ c.steps →
      e.undone ≡ c.undone + count → IsCounted new e
  received_back c e count h back is since steps undone =
      let split = split_back c h back in
      let sum = h.finished in
      let floor = taken.floor in
      record {
        start = omega (arith, floor, since, h.start);
        finished = rw since (omega (arith, steps, undone, split, sum, is));
      }

-- ---- a commit

-- what happens by what happens to each net
abbrev happening : Portion → (ℕ → Option Logic) → Bool
happening p news = list_any (λ n. is_used p n && is_some (news n)) p.nets

abbrev news_by : Portion → List Change → Entry → ℕ → ℕ → Option Logic
news_by p log entry n t = cond (owns p n) (pair_at log t) (effective_of entry)

committed_busy : (old new : Process) (floor : ℕ) → IsCommitted old new floor → (t : ℕ) → is_busy old.seen t ≡ is_busy new.seen t
committed_busy old new floor c t =
    sym (ap (λ (p : Portion). happening p (λ n. news_by p (log_of new.seen n) (entry_of new.seen n t) n t)) c.part
    ∙ ap (happening old.seen.part) (fun_ext (λ n.
    ap (λ (log : List Change). news_by old.seen.part log (entry_of new.seen n t) n t) (c.logs n)
    ∙ ap (λ (entry : Entry). news_by old.seen.part (log_of old.seen n) entry n t) (c.entries n t))))

pub committed_counted : (old new : Process) (floor : ℕ) (c : Counts) → IsLawful old.seen → IsCommittable old.seen floor → IsCommitted old new floor → IsCounted old.seen c → IsCounted new.seen c
committed_counted old new floor c is can committed h =
    let end = max old.seen.mark floor in
    let low = is.floor in
    let start = h.start in
    let forward = can.forward in
    let at = committed.floor in
    let split : busy_times old.seen c.since end ≡ busy_times old.seen c.since old.seen.mark + busy_times old.seen old.seen.mark end =
    times-split (is_busy old.seen) c.since old.seen.mark end (omega (arith, start, low)) (omega arith) in
    let none : busy_times old.seen old.seen.mark end ≡ 0 = times-none (is_busy old.seen) old.seen.mark end (λ t a b. quiet t a (omega (arith, a, b))) in
    let kept : busy_times old.seen c.since end ≡ busy_times new.seen c.since end = times-agree (is_busy old.seen) (is_busy new.seen) c.since end (λ t a b. committed_busy old new floor committed t) in
    let moved : busy_times new.seen c.since new.seen.mark ≡ busy_times new.seen c.since end = ap (λ e. busy_times new.seen c.since e) committed.mark in
    record {
      start = omega (arith, start, forward, at);
      finished = (let sum = h.finished in omega (arith, sum, split, none, kept, moved));
    }
  where
    quiet : (t : ℕ) → old.seen.mark ≤ t → t < floor → ¬ (is_busy old.seen t ≡ true)
    quiet t from below busy = elim (cases_lt old.seen.horizon t) [
      | inl past ↦ idle_past old.seen is t past busy
      | inr within ↦ can.processed t (below, (from, within, busy))
    ]

-- ---- event times that are finished

advanced_on : (old new : View) (count : ℕ) → IsAdvanced old new count → old.mark ≤ new.mark
advanced_on old new zero h = let stays = h.stays refl in omega (arith, stays)
advanced_on old new (suc count) h = let moves = h.moves (omega arith) in let up = moves.0 in omega (arith, up)

advanced_sum : (old new : View) (count : ℕ) (c : Counts) → IsLawful old → IsLawful new → IsAdvanced old new count → IsCounted old c →
    busy_times new c.since new.mark ≡ busy_times old c.since old.mark + count
advanced_sum old new count c isold isnew h counted =
    let on = advanced_on old new count h in
    let start = counted.start in
    let low = isold.floor in
    let split : busy_times new c.since new.mark ≡ busy_times new c.since old.mark + busy_times new old.mark new.mark =
    times-split (is_busy new) c.since old.mark new.mark (omega (arith, start, low)) on in
    let kept : busy_times old c.since old.mark ≡ busy_times new c.since old.mark = times-agree (is_busy old) (is_busy new) c.since old.mark (λ t a b.
    busy_agree old new isold isnew h.part h.horizon t (omega (arith, b)) (omega (arith, b, on)) (λ n u l. same_effective old new h.part h.queues n u)) in
    let finished = h.finished in
    omega (arith, split, kept, finished)

one_at_most : (b : Bool) → cond b 1 0 ≤ 1
one_at_most true = omega arith
one_at_most false = omega arith

-- not more times are busy than there are
times_room : (busy : ℕ → Bool) (a n : ℕ) → count_by busy (range_with_len a n) ≤ n
times_room busy a zero = omega arith
times_room busy a (suc n) =
    let more : count_by busy (range_with_len a (suc n)) ≡ cond (busy a) 1 0 + count_by busy (range_with_len (a + 1) n) = sum_by-cons (λ t. cond (busy t) 1 0) a (range_with_len (a + 1) n) in
    let rest = times_room busy (a + 1) n in
    let one = one_at_most (busy a) in
    omega (arith, more, rest, one)

-- and none past the horizon
busy_few : (v : View) → IsLawful v → (a b : ℕ) → a ≤ b → busy_times v a b ≤ v.horizon + 1
busy_few v is a b up = elim (cases_lt b (v.horizon + 1)) [
  | inl within ↦ (let room : busy_times v a b ≤ b - a = times_room (is_busy v) a (b - a) in omega (arith, room, within))
  | inr past ↦ (elim (cases_lt a (v.horizon + 1)) [
    | inl before ↦ (
        let split : busy_times v a b ≡ busy_times v a (v.horizon + 1) + busy_times v (v.horizon + 1) b = times-split (is_busy v) a (v.horizon + 1) b (omega (arith, before)) past in
        let room : busy_times v a (v.horizon + 1) ≤ v.horizon + 1 - a = times_room (is_busy v) a (v.horizon + 1 - a) in
        let none : busy_times v (v.horizon + 1) b ≡ 0 = times-none (is_busy v) (v.horizon + 1) b (λ t from _. idle_past v is t (omega (arith, from))) in
        omega (arith, split, room, none))
    | inr after ↦ (let none : busy_times v a b ≡ 0 = times-none (is_busy v) a b (λ t from _. idle_past v is t (omega (arith, from, after))) in omega (arith, none))
  ])
]

-- so what is kept is no great number
pub advanced_small : (old new : View) (count : ℕ) (c : Counts) → IsLawful old → IsLawful new → IsAdvanced old new count → IsCounted old c →
    c.steps - c.undone + count ≤ 1000000000001
advanced_small old new count c isold isnew h counted =
    let sum = advanced_sum old new count c isold isnew h counted in
    let finished = counted.finished in
    let start = counted.start in
    let low = isold.floor in
    let on = advanced_on old new count h in
    let few = busy_few new isnew c.since new.mark (omega (arith, start, low, on)) in
    let top : new.horizon ≤ 1000000000000 = isnew.horizon in
    omega (arith, sum, finished, few, top)

pub counted_less : (v : View) (c : Counts) → IsCounted v c → c.undone ≤ c.steps
counted_less v c h = let finished = h.finished in omega (arith, finished)

pub advanced_counted : (old new : View) (count : ℕ) (c e : Counts) → IsLawful old → IsLawful new → IsAdvanced old new count → IsCounted old c → e.since ≡ c.since → e.undone ≤ e.steps →
    e.steps - e.undone ≡ c.steps - c.undone + count → IsCounted new e
advanced_counted old new count c e isold isnew h counted since less kept =
    let sum = advanced_sum old new count c isold isnew h counted in
    let finished = counted.finished in
    let start = counted.start in
    let floor = h.floor in
    record {
      start = omega (arith, start, floor, since);
      finished = rw since (omega (arith, less, kept, sum, finished));
    }

-- ---- lists of blocks

pub counted_more : (ps : List Process) (cs : List Counts) (p : Process) (c : Counts) → AreCounted ps cs → IsCounted p.seen c → AreCounted (ps ++ p ∷ []) (cs ++ c ∷ [])
counted_more [] [] p c all one = (one, tt)
counted_more [] (d ∷ cs) p c all one = absurd all
counted_more (q ∷ ps) [] p c all one = absurd all
counted_more (q ∷ ps) (d ∷ cs) p c all one = (all.0, counted_more ps cs p c all.1 one)

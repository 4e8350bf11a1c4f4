-- The next event time of what a block has received, by its engine.
use Rattle.std.proofs.Common.{◌≡◌, ℕ, ◌<◌, ◌≤◌, min, max, inl, inr, true, false, Option, Some, None, IsSome, length, get_or, refl, subst, arith}
use Rattle.std.proofs.lemmas.Bool.{cases_lt}
use Rattle.gate_values.specs.declared.logic.Logic.{Logic}
use Rattle.warp_stores.specs.declared.least.TheConstants.{NEVER}
use Rattle.warp_stores.specs.Delays.{least_due}
use Rattle.warp_engine.specs.Runs.{Run}
use Rattle.warp_engine.proofs.Nexting.{due_ahead}
use Rattle.warp_part.specs.Placing.{place_source, place_given}
use Rattle.warp_process.specs.Heard.{IsHeardFrom}
use Rattle.warp_process.specs.Lawful.{IsLawful}
use Rattle.warp_process.specs.Played.{played_view}
use Rattle.warp_process.specs.View.{View, given_by, effective_at, is_busy, IsEventTime, IsLeast}
use Rattle.part_engine.specs.Runs.{IsEngineOf, begins_of}
use Rattle.part_engine.specs.Inner.Soonest.{sooner}
use Rattle.warp_process.proofs.Playing.{played_lawful}
use Rattle.part_engine.proofs.Heeding.{heard_busy, quiet_none}
use Rattle.part_engine.proofs.NextTimes.{begin_busy, due_busy, quiet_before}

none_of : (o : Option Logic) → (IsSome o → ⊥) → o ≡ None
none_of None n = refl
none_of (Some v) n = absurd (n refl)

module _ (v : View) (run : Run) (floor : ℕ) (of : IsEngineOf v floor run) where
  abbrev played : View
  played = played_view v run.book.mark

  lawful : IsLawful played
  lawful = played_lawful v run.book.mark of.received

  abbrev due : ℕ
  due = least_due run.book.queues.read

  -- what begins with a known value is next
  pub least_first : run.book.mark ≡ 0 → begins_of v.part ≡ true → IsLeast (IsEventTime played) (Some 0)
  least_first start begins = ((omega (arith, start), omega arith, begin_busy played lawful start begins), λ t h. omega arith)

  module _ (start : run.book.mark ≡ 0 → begins_of v.part ≡ false) (small : run.book.mark ≤ NEVER)
      (quiet : (t : ℕ) → run.book.mark ≤ t → t < v.floor → is_busy played t ≡ false)
      (heard : Option ℕ) (least : IsLeast (IsHeardFrom v (max run.book.mark v.floor)) heard) where
    abbrev next : ℕ
    next = sooner heard due

    -- before the next time nothing is heard
    unheard : (i t : ℕ) → i < length v.part.nets → run.book.mark ≤ t → t < next → effective_at v (get_or v.part.nets i 0) t ≡ None
    unheard i t l low high = elim (cases_lt t v.floor) [
      | inl early ↦ quiet_none played lawful i t l (quiet t low early)
      | inr late ↦ none_of (effective_at v (get_or v.part.nets i 0) t) (λ some. no heard least high (omega arith) some)
    ]
      where
        no : (o : Option ℕ) → IsLeast (IsHeardFrom v (max run.book.mark v.floor)) o → t < sooner o due → max run.book.mark v.floor ≤ t → IsSome (effective_at v (get_or v.part.nets i 0) t) → ⊥
        no None h before from some = h t (from, (i, l, some))
        no (Some time) h before from some = let late : time ≤ t = h.1 t (from, (i, l, some)) in omega arith

    next_busy : next ≤ v.horizon → is_busy played next ≡ true
    next_busy within = go heard least within
      where
        from_due : due ≤ v.horizon → is_busy played due ≡ true
        from_due h = due_busy played lawful floor run of.run refl (omega (arith, of.received.horizon)) h

        go : (o : Option ℕ) → IsLeast (IsHeardFrom v (max run.book.mark v.floor)) o → sooner o due ≤ v.horizon → is_busy played (sooner o due) ≡ true
        go None h l = from_due l
        go (Some time) h l = elim (cases_lt time due) [
          | inl sooner_time ↦ (let e : time ≡ min time due = omega arith in subst (λ t. is_busy played t ≡ true) e (heard_busy played lawful h.0.1.0 time h.0.1.1 h.0.1.2))
          | inr later ↦ (let e : due ≡ min time due = omega arith in subst (λ t. is_busy played t ≡ true) e (from_due (omega arith)))
        ]

    next_from : run.book.mark ≤ next
    next_from = go heard least
      where
        ahead : run.book.mark ≤ due
        ahead = due_ahead (place_source v.part) (place_given v.part (given_by v)) floor run.book of.run.is.played small

        go : (o : Option ℕ) → IsLeast (IsHeardFrom v (max run.book.mark v.floor)) o → run.book.mark ≤ sooner o due
        go None h = ahead
        go (Some time) h = let from = h.0.0 in omega (arith, ahead, from)

    none_before : (t : ℕ) → run.book.mark ≤ t → t < next → is_busy played t ≡ true → ⊥
    none_before t low high busy =
        quiet_before played lawful floor run of.run refl next
        (λ i u l out from before. unheard i u l from before) (λ at some. start at) (until heard) t low high busy
      where
        until : (o : Option ℕ) → sooner o due ≤ due
        until None = omega arith
        until (Some time) = omega arith

    pub least_next : next ≤ v.horizon → IsLeast (IsEventTime played) (Some next)
    least_next within = ((next_from, within, next_busy within), λ t h. elim (cases_lt t next) [ inl l ↦ absurd (none_before t h.0 l h.2) | inr g ↦ g ])

    pub least_none : v.horizon < next → IsLeast (IsEventTime played) None
    least_none past t h = let within = h.1 in none_before t h.0 (omega (arith, within)) h.2

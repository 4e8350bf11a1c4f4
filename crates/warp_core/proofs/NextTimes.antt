-- The least event time of each block, and of all.
use Rattle.std.proofs.Common.{◌≡◌, ℕ, ◌+◌, ◌<◌, ◌≤◌, ◌==◌, ◌||◌, Bool, true, false, cond, Option, Some, None, List, [], ◌∷◌, ◌++◌, length, get_or, set, take, min, inl, inr, refl, ap, sym, ◌∙◌, subst, arith, unwrap_or}
use Rattle.std.specs.List.{list_any, count_by}
use Rattle.std.proofs.lemmas.Bool.{cases_eq, cases_lt}
use Rattle.std.proofs.lemmas.List.{length-set, get_or-set_same, get_or-set_other, get_or_append_left, get_or_push, length_push, length-take-le, get_or-take}
use Rattle.std.proofs.lemmas.List.Elements.{All-weaker}
use Rattle.std.proofs.lemmas.List.Sums.{sum_by-cons}
use Rattle.warp_process.specs.declared.message.Message.{Message}
use Rattle.warp_process.specs.View.{View, Process, IsEventTime, IsLeast}
use Rattle.warp_core.specs.declared.flight.Soonest.{Soonest}
use Rattle.warp_core.specs.Inner.Kept.{IsSoonest, IsNextTime, AreNextTimes, IsLeastOf}
use Rattle.warp_core.specs.Matched.{no_process, seen_at}
use Rattle.warp_core.specs.World.{Scene, IsLeastTime, IsLawfulWorld}
use Rattle.warp_core.specs.Play.{IsOtherwiseSame}
use Rattle.warp_core.proofs.Acting.{same_seen}

-- the next time of a block, or an end
pub next_or : (v : View) (end : ℕ) (o : Option ℕ) → IsLeast (IsEventTime v) o → IsNextTime v end (unwrap_or o end)
next_or v end None h = record { least = λ u event. absurd (h u event); event = inr refl }
next_or v end (Some t) h = record { least = h.1; event = inl h.0 }

-- one block has changed
pub next_kept : (old new : List Process) (end b t : ℕ) (next : List ℕ) → b < length old → IsOtherwiseSame old new b → AreNextTimes old end next → IsNextTime (seen_at new b) end t →
    AreNextTimes new end (set next b t)
next_kept old new end b t next l h is here = record {
  count = length-set next b t ∙ (is.count ∙ sym h.count);
  times = λ c within. elim (cases_eq c b) [
    | inl same ↦ subst (λ (k : ℕ). IsNextTime (seen_at new k) end (get_or (set next b t) k 0)) (sym same)
        (subst (IsNextTime (seen_at new b) end) (sym (get_or-set_same next b t 0 (let n = is.count in omega (arith, n, l)))) here)
    | inr other ↦
        subst (IsNextTime (seen_at new c) end) (sym (get_or-set_other next b c t 0 other))
        (subst (λ (v : View). IsNextTime v end (get_or next c 0)) (sym (same_seen old new b c h other)) (is.times c (let n = h.count in omega (arith, n, within))))
  ];
}

-- blocks with the same event times
pub next_same : (old new : List Process) (end : ℕ) (next : List ℕ) → length new ≡ length old → ((b t : ℕ) → b < length old → IsEventTime (seen_at new b) t → IsEventTime (seen_at old b) t) →
    ((b t : ℕ) → b < length old → IsEventTime (seen_at old b) t → IsEventTime (seen_at new b) t) → AreNextTimes old end next → AreNextTimes new end next
next_same old new end next count back forth is = record {
  count = is.count ∙ sym count;
  times = λ b within.
      (let l : b < length old = omega (arith, count, within) in
      let n = is.times b l in
      record { least = λ u event. n.least u (back b u l event); event = elim n.event [ inl event ↦ inl (forth b (get_or next b 0) l event) | inr e ↦ inr e ] });
}

-- one more block
pub next_push : (old : List Process) (end t : ℕ) (next more : List ℕ) (block : Process) → AreNextTimes old end next → IsNextTime block.seen end t → more ≡ next ++ t ∷ [] →
    AreNextTimes (old ++ block ∷ []) end more
next_push old end t next more block is here e = record {
  count = (let n = is.count in let a = ap length e in let b = length_push next t in let c = length_push old block in omega (arith, n, a, b, c));
  times = λ b within. elim (cases_eq b (length old)) [
    | inl last ↦
        (let n = is.count in
        let block_is : get_or (old ++ block ∷ []) b no_process ≡ block = get_or_push old block no_process b (sym last) in
        let time_is : get_or more b 0 ≡ t = ap (λ (ts : List ℕ). get_or ts b 0) e ∙ get_or_push next t 0 b (n ∙ sym last) in
        subst (λ (p : Process). IsNextTime p.seen end (get_or more b 0)) (sym block_is) (subst (IsNextTime block.seen end) (sym time_is) here))
    | inr other ↦
        (let n = is.count in
        let size = length_push old block in
        let below : b < length old = omega (arith, size, within, other) in
        let block_is : get_or (old ++ block ∷ []) b no_process ≡ get_or old b no_process = get_or_append_left old (block ∷ []) no_process b below in
        let time_is : get_or more b 0 ≡ get_or next b 0 = ap (λ (ts : List ℕ). get_or ts b 0) e ∙ get_or_append_left next (t ∷ []) 0 b (omega (arith, n, below)) in
        subst (λ (p : Process). IsNextTime p.seen end (get_or more b 0)) (sym block_is) (subst (IsNextTime (seen_at old b) end) (sym time_is) (is.times b below)))
  ];
}

some_of : (p : Message → Bool) (ms : List Message) → 0 < count_by p ms → list_any p ms ≡ true
some_of p [] h = absurd (omega (arith, h))
some_of p (m ∷ ms) h = go (p m) (some_of p ms) (subst (λ k. 0 < k) (sum_by-cons (λ k. cond (p k) 1 0) m ms) h)
  where
    go : (b : Bool) → (0 < count_by p ms → list_any p ms ≡ true) → 0 < cond b 1 0 + count_by p ms → (b || list_any p ms) ≡ true
    go true rest h = refl
    go false rest h = rest (omega (arith, h))

pub least_more : (times : List ℕ) (i other least x : ℕ) → i < length times → x ≡ get_or times i 0 → IsLeastOf (take i times) other least → IsLeastOf (take (i + 1) times) other (min least x)
least_more times i other least x l at is = record {
  below = λ k within. elim (cases_eq k i) [
    | inl last ↦
        (let here : get_or (take (i + 1) times) k 0 ≡ x = get_or-take (i + 1) times k 0 (omega (arith, last)) ∙ ap (λ (j : ℕ). get_or times j 0) last ∙ sym at in
        omega (arith, here))
    | inr other ↦
        (let size = length-take-le (i + 1) times (omega (arith, l)) in
        let size' = length-take-le i times (omega (arith, l)) in
        let below : k < i = omega (arith, within, size, other) in
        let low = is.below k (omega (arith, size', below)) in
        let here : get_or (take (i + 1) times) k 0 ≡ get_or (take i times) k 0 = get_or-take (i + 1) times k 0 (omega (arith, below)) ∙ sym (get_or-take i times k 0 below) in
        omega (arith, here, low))
  ];
  within = (let low = is.within in omega (arith, low));
  met = elim (cases_lt x least) [
    | inl less ↦ inr (i, (let size = length-take-le (i + 1) times (omega (arith, l)) in omega (arith, size)), (let here = get_or-take (i + 1) times i 0 (omega arith) in omega (arith, here, at, less)))
    | inr more ↦ (elim is.met [
      | inl first ↦ inl (omega (arith, first, more))
      | inr (k, m, e) ↦
          (let size = length-take-le (i + 1) times (omega (arith, l)) in
          let size' = length-take-le i times (omega (arith, l)) in
          let below : k < i = omega (arith, m, size') in
          let here : get_or (take (i + 1) times) k 0 ≡ get_or (take i times) k 0 = get_or-take (i + 1) times k 0 (omega (arith, below)) ∙ sym (get_or-take i times k 0 below) in
          inr (k, omega (arith, size, below), (omega (arith, here, e, more))))
    ])
  ];
}

-- the least of the next times of the blocks and the times in flight
pub least_is : (w : Scene) (next : List ℕ) (s : Soonest) (least : ℕ) → IsLawfulWorld w → AreNextTimes w.blocks (w.horizon + 1) next → IsSoonest w.flight (w.horizon + 1) s →
    IsLeastOf next s.time least → IsLeastTime w least
least_is w next s least law nexts soonest is = record {
  before = record {
    events = λ b u l event.
        (let within : b < length w.blocks = subst (λ k. b < k) (sym law.count) l in
        let size = nexts.count in
        let low = is.below b (omega (arith, size, within)) in
        let first = (nexts.times b within).least u event in
        omega (arith, low, first));
    flight = (let low = is.within in All-weaker (λ (m : Message). s.time ≤ m.time) (λ m. least ≤ m.time) (λ m l. omega (arith, l, low)) w.flight soonest.least);
    end = (let low = is.within in let end = soonest.within in omega (arith, low, end));
  };
  left = elim is.met [
    | inl flies ↦ (elim (cases_eq s.count 0) [
      | inl none ↦ inr (inr (flies ∙ soonest.none none))
      | inr some ↦ (let count = soonest.count in
          inr (inl (subst (λ (t : ℕ). list_any (λ (m : Message). m.time == t) w.flight ≡ true) (sym flies) (some_of (λ m. m.time == s.time) w.flight (omega (arith, count, some))))))
    ])
    | inr (k, l, e) ↦
        (let size = nexts.count in
        let within : k < length w.blocks = omega (arith, size, l) in
        elim (nexts.times k within).event [
          | inl event ↦ inl (k, subst (λ n. k < n) law.count within, subst (IsEventTime (seen_at w.blocks k)) e event)
          | inr end ↦ inr (inr (sym e ∙ end))
        ])
  ];
}

-- The least time in flight, as messages come and leave.
use Rattle.std.proofs.Common.{◌≡◌, ◌≢◌, ℕ, suc, ◌+◌, ◌-◌, ◌<◌, ◌≤◌, ◌==◌, ◌++◌, false, cond, List, [], length, get_or, take, drop, inl, inr, refl, ap, sym, ◌∙◌, subst, arith}
use Rattle.std.specs.List.{All, count_by, remove}
use Rattle.std.proofs.lemmas.Bool.{cases_lt, cases_eq, eq-eqb, ne_eqb, lt-ltb, le-ltb}
use Rattle.std.proofs.lemmas.List.{take-append-le, take_all, length-take-le, length-append}
use Rattle.std.proofs.lemmas.List.Sums.{count_by_more_yes, count_by_more_no, sum_by-remove, count_by-le-length}
use Rattle.std.proofs.lemmas.List.Edits.{length-remove}
use Rattle.std.proofs.lemmas.List.Elements.{All-append, All-weaker, All-more, All-take, All-drop, All-nil, All-get_or}
use Rattle.warp_process.specs.declared.message.Message.{Message}
use Rattle.warp_process.proofs.Told.{count-none}
use Rattle.warp_core.specs.declared.flight.Soonest.{Soonest}
use Rattle.warp_core.specs.Inner.Kept.{IsSoonest, with_time}

pub soonest_none : (end : ℕ) → IsSoonest [] end (record { time = end; count = 0 })
soonest_none end = record { least = All-nil (λ (m : Message). end ≤ m.time); count = refl; none = λ e. refl; within = omega arith }

-- one more message
pub soonest_more : (flight : List Message) (i end : ℕ) (s : Soonest) (m : Message) → i < length flight → (get_or flight i m).time ≤ end → IsSoonest (take i flight) end s →
    IsSoonest (take (i + 1) flight) end (with_time s (get_or flight i m).time)
soonest_more flight i end s m l within is = elim (cases_lt (get_or flight i m).time s.time) [
  | inl earlier ↦ rw (lt-ltb (get_or flight i m).time s.time earlier) (new earlier)
  | inr later ↦ (elim (cases_eq (get_or flight i m).time s.time) [
    | inl same ↦ rw (le-ltb (get_or flight i m).time s.time later, eq-eqb (get_or flight i m).time s.time same) (one_more same)
    | inr other ↦ rw (le-ltb (get_or flight i m).time s.time later, ne_eqb (get_or flight i m).time s.time other) (unchanged later other)
  ])
]
  where
    new : (get_or flight i m).time < s.time → IsSoonest (take (i + 1) flight) end (record { time = (get_or flight i m).time; count = 1 })
    new earlier = record {
      least = All-more (λ (k : Message). (get_or flight i m).time ≤ k.time) flight i m l
          (All-weaker (λ (k : Message). s.time ≤ k.time) (λ k. (get_or flight i m).time ≤ k.time) (λ k a. omega (arith, a, earlier)) (take i flight) is.least) (omega arith);
      count =
          (let before : count_by (λ (k : Message). k.time == (get_or flight i m).time) (take i flight) ≡ 0 =
          count-none (λ (k : Message). k.time == (get_or flight i m).time) (take i flight)
          (All-weaker (λ (k : Message). s.time ≤ k.time) (λ k. (k.time == (get_or flight i m).time) ≡ false) (λ k a. ne_eqb k.time (get_or flight i m).time (omega (arith, a, earlier))) (take i flight) is.least) in
          let more = count_by_more_yes (λ (k : Message). k.time == (get_or flight i m).time) flight i m l (eq-eqb (get_or flight i m).time (get_or flight i m).time refl) in
          omega (arith, before, more));
      none = λ e. absurd (omega (arith, e));
      within = within;
    }

    one_more : (get_or flight i m).time ≡ s.time → IsSoonest (take (i + 1) flight) end (record { time = s.time; count = s.count + 1 })
    one_more same = record {
      least = All-more (λ (k : Message). s.time ≤ k.time) flight i m l is.least (omega (arith, same));
      count =
          (let more = count_by_more_yes (λ (k : Message). k.time == s.time) flight i m l (eq-eqb (get_or flight i m).time s.time same) in
          let before = is.count in
          omega (arith, before, more));
      none = λ e. absurd (omega (arith, e));
      within = is.within;
    }

    unchanged : s.time ≤ (get_or flight i m).time → (get_or flight i m).time ≢ s.time → IsSoonest (take (i + 1) flight) end s
    unchanged later other = record {
      least = All-more (λ (k : Message). s.time ≤ k.time) flight i m l is.least later;
      count = is.count ∙ sym (count_by_more_no (λ (k : Message). k.time == s.time) flight i m l (ne_eqb (get_or flight i m).time s.time other));
      none = is.none;
      within = is.within;
    }

pub soonest_whole : (flight : List Message) (i end : ℕ) (s : Soonest) → length flight ≤ i → IsSoonest (take i flight) end s → IsSoonest flight end s
soonest_whole flight i end s past is = subst (λ (ms : List Message). IsSoonest ms end s) (take_all i flight past) is

-- what is left, where a message has left and others have come
pub left_of : (flight out sent : List Message) (place : ℕ) → place < length flight → out ≡ remove flight place ++ sent → take (length flight - 1) out ≡ remove flight place
left_of flight out sent place l e =
    let size = length-remove flight place l in
    ap (take (length flight - 1)) e ∙ (take-append-le (length flight - 1) (remove flight place) sent (omega (arith, size)) ∙ take_all (length flight - 1) (remove flight place) (omega (arith, size)))

pub left_count : (flight : List Message) (place end : ℕ) (s : Soonest) (m : Message) → place < length flight → m ≡ get_or flight place m → IsSoonest flight end s →
    s.count ≡ count_by (λ k. k.time == s.time) (remove flight place) + cond (m.time == s.time) 1 0
left_count flight place end s m l at is =
    let left = sum_by-remove (λ (k : Message). cond (k.time == s.time) 1 0) flight place m l in
    let same : ◌≡◌ {A = ℕ} (cond ((get_or flight place m).time == s.time) 1 0) (cond (m.time == s.time) 1 0) = ap (λ (k : Message). cond (k.time == s.time) 1 0) (sym at) in
    let count = is.count in
    omega (arith, left, same, count)

pub rest_of : (P : Message → Type 0) (flight : List Message) (place : ℕ) → All P flight → All P (remove flight place)
rest_of P flight place all = All-append P (take place flight) (drop (suc place) flight) (All-take P place flight all) (All-drop P (suc place) flight all)

pub later_than : (flight : List Message) (place end : ℕ) (s : Soonest) (m : Message) → place < length flight → m ≡ get_or flight place m → IsSoonest flight end s → s.time ≤ m.time
later_than flight place end s m l at is = subst (λ (k : Message). s.time ≤ k.time) (sym at) (All-get_or (λ (k : Message). s.time ≤ k.time) flight place m l is.least)

-- there is room for one more in the count
pub countable : (flight : List Message) (i end : ℕ) (s : Soonest) → i < length flight → IsSoonest (take i flight) end s → s.count + 1 ≤ length flight
countable flight i end s l is =
    let count = is.count in
    let few = count_by-le-length (λ (m : Message). m.time == s.time) (take i flight) in
    let size = length-take-le i flight (omega (arith, l)) in
    omega (arith, count, few, size, l)

-- a slice of what is in flight now: what was there before, without the message that left
pub slice_left : (flight out sent slice : List Message) (place len : ℕ) → place < length flight → len ≡ length flight → slice ≡ out → out ≡ remove flight place ++ sent → take (len - 1) slice ≡ remove flight place
slice_left flight out sent slice place len l size same e =
    ap (λ (ms : List Message). take (len - 1) ms) same ∙ (ap (λ k. take (k - 1) out) size ∙ left_of flight out sent place l e)

pub left_within : (flight out sent slice : List Message) (place len : ℕ) → place < length flight → len ≡ length flight → slice ≡ out → out ≡ remove flight place ++ sent → len - 1 ≤ length slice
left_within flight out sent slice place len l size same e =
    let a = ap length same in
    let b = ap length e in
    let c = length-append (remove flight place) sent in
    let d = length-remove flight place l in
    omega (arith, a, b, c, d, size)

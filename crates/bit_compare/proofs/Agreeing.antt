-- Up to when two bits agree, and the first time at which they don't.
use Rattle.std.proofs.Common.{◌≡◌, ◌⊎◌, inl, inr, ℕ, ◌<◌, ◌≤◌, min, true, false, Option, Some, None, refl, sym, ◌∙◌, subst, arith}
use Rattle.gate_values.specs.declared.logic.Logic.{Logic}
use Rattle.gate_values.specs.declared.logic.Logic.TheVariants.{X}
use Rattle.bit_compare.specs.declared.cursor.Cursor.{Cursor}
use Rattle.bit_compare.specs.declared.difference.Difference.{Difference}
use Rattle.bit_compare.specs.declared.difference.Tolerance.{Tolerance}
use Rattle.bit_compare.specs.declared.times.Times.{Times}
use Rattle.bit_compare.specs.Agreement.{Agrees, AreAlike, IsAmong, IsCompared, IsExpected, IsFinding}
use Rattle.bit_compare.specs.declared.shown.Shown.{Shown}
use Rattle.bit_compare.specs.Shown.Moments.{shown}
use Rattle.bit_compare.specs.Inner.Cursors.{Holds, IsNearUntil, bit_of}
use Rattle.bit_compare.specs.Shown.Steps.{IsNext}
use Rattle.bit_compare.specs.Inner.Until.{AreTogether, IsUntil, Stands}

le_or_lt : (n m : ℕ) → (n ≤ m) ⊎ (m < n)
le_or_lt n m = grind arith

-- the same near as far, and for the same value
moved : (f : ℕ → Logic) (near far : ℕ) (v w : Logic) (t u : ℕ) → near ≡ far → v ≡ w → t ≡ u → IsAmong near v f t → IsAmong far w f u
moved f near far v w t u en ev et a = let b = subst (λ (n : ℕ). IsAmong n v f t) en a in let c = subst (λ (x : Logic). IsAmong far x f t) ev b in subst (λ (s : ℕ). IsAmong far w f s) et c

module _ (how : Tolerance) (e : Cursor) (within : e.within ≡ how.within) (v : Logic) (end : ℕ) (near : IsNearUntil e v end) where
  among : (t : ℕ) → e.time ≤ t → t < end → IsAmong how.within v (bit_of e) t
  among t a b = moved (bit_of e) e.within how.within v v t t within refl refl (near.among t a b)

  none : end ≤ e.time → ¬ IsAmong how.within v (bit_of e) e.time
  none h m = near.none h (moved (bit_of e) how.within e.within v v e.time e.time (sym within) refl refl m)

  -- only the value itself is expected
  pub expected-alone : how.any_for_x ≡ false → IsUntil e.time (IsExpected how v (bit_of e)) end
  expected-alone f = record { holds = λ t a b. inl (among t a b); fails = λ h x. no h x }
    where
      no : end ≤ e.time → IsExpected how v (bit_of e) e.time → ⊥
      no h (inl m) = none h m
      no h (inr m) = let bad : true ≡ false = sym m.0 ∙ f in absurd (cc)

-- the value itself, or x
pub expected-either : (how : Tolerance) (e : Cursor) → e.within ≡ how.within → (v : Logic) (end free last : ℕ) → IsNearUntil e v end → IsNearUntil e X free → how.any_for_x ≡ true → (last ≡ end) ⊎ (last ≡ free) → end ≤ last → free ≤ last
    → IsUntil e.time (IsExpected how v (bit_of e)) last
expected-either how e within v end free last near x f one a b = record { holds = λ t l m. yes t l m one; fails = λ h y. no h y }
  where
    yes : (t : ℕ) → e.time ≤ t → t < last → (last ≡ end) ⊎ (last ≡ free) → IsExpected how v (bit_of e) t
    yes t l m (inl s) = inl (among how e within v end near t l (omega arith))
    yes t l m (inr s) = inr (f, among how e within X free x t l (omega arith))

    no : last ≤ e.time → IsExpected how v (bit_of e) e.time → ⊥
    no h (inl m) = none how e within v end near (omega arith) m
    no h (inr m) = none how e within X free x (omega arith) m.1

-- two bits are alike as long as their values stay, and each is near the other
pub alike-until : (how : Tolerance) (e a : Cursor) → AreTogether how e a → (stay leave known taken : ℕ) → Holds e stay → Holds a leave → IsNearUntil a (bit_of e e.time) known → IsUntil e.time (IsExpected how (bit_of a a.time) (bit_of e)) taken
    → IsUntil e.time (AreAlike how (bit_of e) (bit_of a)) (min (min stay leave) (min known taken))
alike-until how e a at stay leave known taken he ha near far = record { holds = yes; fails = no }
  where
    yes : (t : ℕ) → e.time ≤ t → t < min (min stay leave) (min known taken) → AreAlike how (bit_of e) (bit_of a) t
    yes t l m =
        let later : a.time ≤ t = omega (arith, at.time) in
        let same_e : bit_of e t ≡ bit_of e e.time = he.same t l (omega arith) in
        let same_a : bit_of a t ≡ bit_of a a.time = ha.same t later (omega arith) in (
          moved (bit_of a) a.within how.within (bit_of e e.time) (bit_of e t) t t at.actual_within (sym same_e) refl (near.among t later (omega arith)),
          subst (λ (v : Logic). IsExpected how v (bit_of e) t) (sym same_a) (far.holds t l (omega arith)),
        )

    no : min (min stay leave) (min known taken) ≤ e.time → ¬ AreAlike how (bit_of e) (bit_of a) e.time
    no h (x, y) = by (le_or_lt known e.time)
      where
        by : (known ≤ e.time) ⊎ (e.time < known) → ⊥
        by (inl k) = near.none (omega (arith, at.time)) (moved (bit_of a) how.within a.within (bit_of e e.time) (bit_of e e.time) e.time a.time (sym at.actual_within) refl (sym at.time) x)
        by (inr k) = far.fails (omega (arith, he.later, ha.later, at.time)) (subst (λ (t : ℕ). IsExpected how (bit_of a t) (bit_of e) e.time) (sym at.time) y)

-- where x isn't free, bits agree where they are alike
pub agreed-alike : (how : Tolerance) (time end : ℕ) (e a : ℕ → Logic) → (how.any_for_x ≡ true → e time ≡ X → ⊥) → IsUntil time (AreAlike how e a) end → IsUntil time (Agrees how e a) end
agreed-alike how time end e a bound is = record { holds = λ t l m. inr (is.holds t l m); fails = λ h x. no h x }
  where
    no : end ≤ time → Agrees how e a time → ⊥
    no h (inl m) = bound m.0 m.1
    no h (inr m) = is.fails h m

module _ (how : Tolerance) (times : Times) (e a : ℕ → Logic) (seen : ℕ) where
  pub stands-none : Stands how times e a seen None → IsFinding how times e a None
  stands-none s t compared = s.agree t compared (s.next_is t compared)

  module _ (time until : ℕ) (s : Stands how times e a seen (Some time)) (is : IsUntil time (Agrees how e a) until) where
    pub stands-seen : seen ≤ time
    stands-seen = let a = s.next_is.1 in omega (arith, a, s.seen_before)

    before : (t : ℕ) → IsCompared times t → t < time → Agrees how e a t
    before t compared l = by (le_or_lt s.low t)
      where
        by : (s.low ≤ t) ⊎ (t < s.low) → Agrees how e a t
        by (inl m) = let no = s.next_is.2 t compared m in absurd (omega (arith, no, l))
        by (inr m) = s.agree t compared m

    pub stands-differs : until ≤ time → (d : Difference) → d.time ≡ time → d.expected ≡ e time → d.found ≡ a time → IsFinding how times e a (Some d)
    stands-differs h d et ee ef = record {
      compared = rw et s.next_is.0;
      differs = rw et (is.fails h);
      first = λ t compared l. before t compared (omega arith);
      expected_there = rw et ee;
      found_there = rw et ef;
    }

    pub stands-on : time < until → (next : Option ℕ) → IsNext times until next → Stands how times e a time next
    stands-on h next n = record { low = until; seen_before = omega arith; next_is = n; agree = agree }
      where
        agree : (t : ℕ) → IsCompared times t → t < until → Agrees how e a t
        agree t compared l = by (le_or_lt time t)
          where
            by : (time ≤ t) ⊎ (t < time) → Agrees how e a t
            by (inl m) = is.holds t m l
            by (inr m) = before t compared m

pub stands-first : (how : Tolerance) (times : Times) (e a : ℕ → Logic) (next : Option ℕ) → IsNext times 0 next → Stands how times e a 0 next
stands-first how times e a next n = record { low = 0; seen_before = omega arith; next_is = n; agree = λ t c l. absurd (omega arith) }

pub until-along : (how : Tolerance) (e f a b : Shown) (time now end : ℕ) → e ≡ f → a ≡ b → time ≡ now → IsUntil time (Agrees how (shown e) (shown a)) end → IsUntil now (Agrees how (shown f) (shown b)) end
until-along how e f a b time now end ee ea et is =
    let one = subst (λ (s : Shown). IsUntil time (Agrees how (shown s) (shown a)) end) ee is in
    let two = subst (λ (s : Shown). IsUntil time (Agrees how (shown f) (shown s)) end) ea one in
    subst (λ (t : ℕ). IsUntil t (Agrees how (shown f) (shown b)) end) et two

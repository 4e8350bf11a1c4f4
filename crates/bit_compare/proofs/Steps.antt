-- Steps, and the first one that isn't below a time.
use Rattle.std.proofs.Common.{◌≡◌, ◌⊎◌, inl, inr, ℕ, ◌+◌, ◌-◌, ◌*◌, ◌/◌, ◌%◌, ◌<◌, ◌≤◌, arith}
use Rattle.std.proofs.Math.Nat.{mul-le-mul_left}
use Rattle.bit_compare.specs.declared.times.Times.{Times}
use Rattle.bit_compare.specs.Inner.Steps.{IsStep}

le_or_lt : (n m : ℕ) → (n ≤ m) ⊎ (m < n)
le_or_lt n m = grind arith

-- so many steps, and a part of one
whole : (d step : ℕ) → 0 < step → step * (d / step) + d % step ≡ d
whole d step h = omega arith

part : (d step : ℕ) → 0 < step → d % step < step
part d step h = omega arith

turned : (n step : ℕ) → n * step ≡ step * n
turned n step = omega arith

more_steps : (n q step : ℕ) → q < n → step * q + step ≤ step * n
more_steps n q step h = let l : q + 1 ≤ n = omega arith in let m : step * (q + 1) ≤ step * n = mul-le-mul_left step l in omega (arith, m)

fewer_steps : (n q step : ℕ) → n ≤ q → step * n ≤ step * q
fewer_steps n q step h = mul-le-mul_left step h

module _ (times : Times) (low : ℕ) (moves : 0 < times.step) where
  -- the start itself
  pub step-start : low ≤ times.start → IsStep times low times.start
  step-start h = record { above = h; steps = 0; stepped = omega arith; first = λ n l. omega arith }

  abbrev past : ℕ
  past = low - times.start

  -- a step at the time
  pub step-there : times.start ≤ low → past % times.step ≡ 0 → IsStep times low low
  step-there h e = record {
    above = omega arith;
    steps = past / times.step;
    stepped = omega (arith, whole past times.step moves, turned (past / times.step) times.step);
    first = λ n l. l;
  }

  -- the next step after the time
  pub step-after : times.start ≤ low → 0 < past % times.step → IsStep times low (low + (times.step - past % times.step))
  step-after h pos = record {
    above = omega arith;
    steps = past / times.step + 1;
    stepped = (let e : (past / times.step + 1) * times.step ≡ times.step * (past / times.step) + times.step = omega arith in omega (arith, e, whole past times.step moves, part past times.step moves));
    first = λ n l. first n l (le_or_lt n (past / times.step));
  }
    where
      first : (n : ℕ) → low ≤ times.start + n * times.step → (n ≤ past / times.step) ⊎ (past / times.step < n) → low + (times.step - past % times.step) ≤ times.start + n * times.step
      first n l (inl few) = absurd (omega (arith, l, turned n times.step, fewer_steps n (past / times.step) times.step few, whole past times.step moves))
      first n l (inr many) = omega (arith, l, turned n times.step, more_steps n (past / times.step) times.step many, whole past times.step moves, part past times.step moves)

-- What the text depends on, and what it is where each net is told.
use Rattle.std.proofs.Common.{◌≡◌, ℕ, zero, suc, ◌+◌, ◌<◌, ◌≤◌, Bool, true, false, cond, List, [], ◌++◌, length, get_or, refl, ap, sym, ◌∙◌, arith}
use Rattle.std.specs.Prelude.{codes}
use Rattle.std.proofs.lemmas.List.{append_cancel_left}
use Rattle.gate_values.specs.declared.logic.Logic.{Logic}
use Rattle.gate_values.specs.declared.logic.Logic.TheVariants.{X}
use Rattle.gate_values.specs.declared.logic.Change.{Change}
use Rattle.gate_values.specs.Changes.{changes}
use Rattle.gate_stimulus.specs.declared.timescale.Timescale.{Timescale}
use Rattle.gate_stimulus.specs.declared.timescale.Unit.TheVariants.{Ns}
use Rattle.vcd_dumps.specs.Dump.{var_line, var_lines, value_line, first_lines, header, moments, dump_text}
use Rattle.net_waves.specs.Waves.{wave_of, wave_value}
use Rattle.vcd_dumps.proofs.DumpLaws.{dump_text-agree}
use Rattle.gate_stimulus.proofs.WaveValues.{latest-changes}
use Rattle.vcd_only.specs.Told.{is_told, if_told, told_vars, told_header, told_first, hidden, told_text}

some_scale : Timescale
some_scale = record { number = 1; unit = Ns }

first_agree : (f g : ℕ → ℕ → Logic) (nets : ℕ) → ((n : ℕ) → n < nets → f n 0 ≡ g n 0) → (n : ℕ) → n ≤ nets → first_lines f n ≡ first_lines g n
unfolding first_lines
first_agree f g nets agree zero h = refl
first_agree f g nets agree (suc n) h = rw (first_agree f g nets agree n (omega arith), agree n (omega arith)) refl

-- The moments of a dump depend on the values of its nets up to the horizon alone.
moments-agree : (names : List (List ℕ)) (f g : ℕ → ℕ → Logic) (horizon : ℕ) → ((n t : ℕ) → n < length names → t ≤ horizon → f n t ≡ g n t)
    → moments f (length names) horizon horizon ≡ moments g (length names) horizon horizon
unfolding dump_text
moments-agree names f g horizon agree =
    let whole = append_cancel_left (header [] names some_scale) _ _ (dump_text-agree [] names some_scale f g horizon agree) in
    let first = first_agree f g (length names) (λ n h. agree n 0 h (omega arith)) (length names) (omega arith) in
    let below = append_cancel_left (first_lines g (length names)) _ _ (ap (λ l. l ++ (codes "$end\n" ++ moments f (length names) horizon horizon)) (sym first) ∙ whole) in
    append_cancel_left (codes "$end\n") _ _ below

told_first-agree : (told : List Bool) (f g : ℕ → ℕ → Logic) (nets : ℕ) → ((n : ℕ) → n < nets → f n 0 ≡ g n 0) → (n : ℕ) → n ≤ nets → told_first told f n ≡ told_first told g n
unfolding told_first
told_first-agree told f g nets agree zero h = refl
told_first-agree told f g nets agree (suc n) h = rw (told_first-agree told f g nets agree n (omega arith), agree n (omega arith)) refl

hidden-agree : (told : List Bool) (f g : ℕ → ℕ → Logic) (n t : ℕ) → f n t ≡ g n t → hidden told f n t ≡ hidden told g n t
hidden-agree told f g n t e = ap (λ (v : Logic). cond (is_told told n) v X) e

-- The text depends on the values of the named nets up to the horizon alone.
pub told_text-agree : (told : List Bool) (top : List ℕ) (names : List (List ℕ)) (scale : Timescale) (f g : ℕ → ℕ → Logic) (horizon : ℕ)
    → ((n t : ℕ) → n < length names → t ≤ horizon → f n t ≡ g n t) → told_text told top names scale f horizon ≡ told_text told top names scale g horizon
unfolding told_text
told_text-agree told top names scale f g horizon agree =
    rw (
      told_first-agree told f g (length names) (λ n h. agree n 0 h (omega arith)) (length names) (omega arith),
      moments-agree names (hidden told f) (hidden told g) horizon (λ n t h k. hidden-agree told f g n t (agree n t h k)),
    ) refl

-- The text of waves is that of the function whose changes they are.
pub told_text-waves : (told : List Bool) (top : List ℕ) (names : List (List ℕ)) (scale : Timescale) (lists : List (List Change)) (f : ℕ → ℕ → Logic) (horizon : ℕ)
    → ((n : ℕ) → n < length names → wave_of lists n ≡ changes (f n) (horizon + 1)) → told_text told top names scale (wave_value lists) horizon ≡ told_text told top names scale f horizon
told_text-waves told top names scale lists f horizon are =
    told_text-agree told top names scale (wave_value lists) f horizon (λ n t h k. rw (are n h) (latest-changes (f n) (horizon + 1) t (omega arith)))

-- ---- where each net is told

module _ (told : List Bool) (nets : ℕ) (all : (n : ℕ) → n < nets → is_told told n ≡ true) where
  all_vars : (names : List (List ℕ)) (n : ℕ) → n ≤ nets → told_vars told names n ≡ var_lines names n
  unfolding told_vars var_lines
  all_vars names zero h = refl
  all_vars names (suc n) h = rw (all_vars names n (omega arith), all n (omega arith)) refl

  all_first : (value : ℕ → ℕ → Logic) (n : ℕ) → n ≤ nets → told_first told value n ≡ first_lines value n
  unfolding told_first first_lines
  all_first value zero h = refl
  all_first value (suc n) h = rw (all_first value n (omega arith), all n (omega arith)) refl

-- The text in which each net is told is the whole dump.
pub told_text-all : (told : List Bool) (top : List ℕ) (names : List (List ℕ)) (scale : Timescale) (value : ℕ → ℕ → Logic) (horizon : ℕ)
    → ((n : ℕ) → n < length names → is_told told n ≡ true) → told_text told top names scale value horizon ≡ dump_text top names scale value horizon
unfolding told_text told_header dump_text header
told_text-all told top names scale value horizon all =
    rw (
      all_vars told (length names) all names (length names) (omega arith),
      all_first told (length names) all value (length names) (omega arith),
      moments-agree names (hidden told value) value horizon (λ n t h k. ap (λ (b : Bool). cond b (value n t) X) (all n h)),
    ) refl

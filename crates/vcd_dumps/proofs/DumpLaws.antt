-- Laws of the text of a dump: one net or one time more; what it depends on; how long it is.
use Rattle.std.proofs.Common.{◌≡◌, ℕ, zero, suc, ◌+◌, ◌*◌, ◌<◌, ◌≤◌, ◌^◌, Bool, true, false, cond, ◌||◌, nat_eq, List, [], ◌++◌, length, get_or, refl, ap, ◌∙◌, arith, add-one, length-append}
use Rattle.std.specs.Prelude.{codes}
use Rattle.std.proofs.lemmas.Fmt.{length-decimal-le}
use Rattle.gate_values.specs.declared.logic.Logic.{Logic}
use Rattle.gate_values.specs.declared.logic.Change.{Change}
use Rattle.gate_values.specs.Changes.{just_before, changes}
use Rattle.gate_stimulus.specs.declared.timescale.Timescale.{Timescale}
use Rattle.gate_stimulus.specs.declared.timescale.Unit.{Unit}
use Rattle.gate_stimulus.specs.declared.timescale.Unit.TheVariants as units
use Rattle.gate_stimulus.specs.Timescales.{unit_name}
use Rattle.vcd_dumps.specs.Codes.{code_of}
use Rattle.net_waves.specs.Waves.{wave_of, wave_value}
use Rattle.vcd_dumps.specs.Dump.{stamp, value_line, var_line, var_lines, timescale_line, scope_line, header, first_lines, has_change, some_change, change_lines, moment, moments, dump_text}
use Rattle.vcd_dumps.proofs.Coding.{length-code_of}
use Rattle.gate_stimulus.proofs.WaveValues.{latest-changes}

pub var_lines-none : (names : List (List ℕ)) → var_lines names 0 ≡ []
unfolding var_lines
var_lines-none names = refl

pub var_lines-next : (names : List (List ℕ)) (n : ℕ) → var_lines names (n + 1) ≡ var_lines names n ++ var_line n (get_or names n [])
unfolding var_lines
var_lines-next names n = rw (add-one n) refl

pub first_lines-none : (v : ℕ → ℕ → Logic) → first_lines v 0 ≡ []
unfolding first_lines
first_lines-none v = refl

pub first_lines-next : (v : ℕ → ℕ → Logic) (n : ℕ) → first_lines v (n + 1) ≡ first_lines v n ++ value_line (v n 0) n
unfolding first_lines
first_lines-next v n = rw (add-one n) refl

-- two functions that agree for the nets below `nets` at the times up to the horizon have the same dump
module _ (f g : ℕ → ℕ → Logic) (nets horizon : ℕ) (agree : (n t : ℕ) → n < nets → t ≤ horizon → f n t ≡ g n t) where
  pub same_first : (n : ℕ) → n ≤ nets → first_lines f n ≡ first_lines g n
  unfolding first_lines
  same_first zero h = refl
  same_first (suc n) h = rw (same_first n (omega arith), agree n 0 (omega arith) (omega arith)) refl

  same_before : (n t : ℕ) → n < nets → t ≤ horizon → just_before (f n) t ≡ just_before (g n) t
  same_before n zero h k = refl
  same_before n (suc t) h k = agree n t h (omega arith)

  same_change : (t n : ℕ) → n < nets → t ≤ horizon → has_change f t n ≡ has_change g t n
  same_change t n h k = rw (agree n t h k, same_before n t h k) refl

  same_some : (t n : ℕ) → n ≤ nets → t ≤ horizon → some_change f t n ≡ some_change g t n
  unfolding some_change
  same_some t zero h k = refl
  same_some t (suc n) h k = ap (λ b. b || has_change f t n) (same_some t n (omega arith) k) ∙ ap (λ b. some_change g t n || b) (same_change t n (omega arith) k)

  same_lines : (t n : ℕ) → n ≤ nets → t ≤ horizon → change_lines f t n ≡ change_lines g t n
  unfolding change_lines
  same_lines t zero h k = refl
  same_lines t (suc n) h k =
      ap (λ l. l ++ cond (has_change f t n) (value_line (f n t) n) []) (same_lines t n (omega arith) k)
      ∙ ap (λ b. change_lines g t n ++ cond b (value_line (f n t) n) []) (same_change t n (omega arith) k)
      ∙ ap (λ v. change_lines g t n ++ cond (has_change g t n) (value_line v n) []) (agree n t (omega arith) k)

  same_moment : (t : ℕ) → t ≤ horizon → moment f nets horizon t ≡ moment g nets horizon t
  unfolding moment
  same_moment t k =
      ap (λ b. cond (b || nat_eq t horizon) (stamp t ++ change_lines f t nets) []) (same_some t nets (omega arith) k)
      ∙ ap (λ l. cond (some_change g t nets || nat_eq t horizon) (stamp t ++ l) []) (same_lines t nets (omega arith) k)

  same_moments : (t : ℕ) → t ≤ horizon → moments f nets horizon t ≡ moments g nets horizon t
  unfolding moments
  same_moments zero k = refl
  same_moments (suc t) k = ap (λ l. l ++ moment f nets horizon (suc t)) (same_moments t (omega arith)) ∙ ap (λ l. moments g nets horizon t ++ l) (same_moment (suc t) k)

-- The dump depends on the values of the named nets up to the horizon alone.
pub dump_text-agree : (top : List ℕ) (names : List (List ℕ)) (scale : Timescale) (f g : ℕ → ℕ → Logic) (horizon : ℕ) → ((n t : ℕ) → n < length names → t ≤ horizon → f n t ≡ g n t) → dump_text top names scale f horizon ≡ dump_text top names scale g horizon
unfolding dump_text
dump_text-agree top names scale f g horizon agree =
    rw (same_first f g (length names) horizon agree (length names) (omega arith), same_moments f g (length names) horizon agree horizon (omega arith)) refl

-- The dump of waves is the dump of the function whose changes they are.
pub dump_text-waves : (top : List ℕ) (names : List (List ℕ)) (scale : Timescale) (lists : List (List Change)) (f : ℕ → ℕ → Logic) (horizon : ℕ) → ((n : ℕ) → n < length names → wave_of lists n ≡ changes (f n) (horizon + 1)) → dump_text top names scale (wave_value lists) horizon ≡ dump_text top names scale f horizon
dump_text-waves top names scale lists f horizon are =
    dump_text-agree top names scale (wave_value lists) f horizon (λ n t h k. rw (are n h) (latest-changes (f n) (horizon + 1) t (omega arith)))

-- ---- how long it is
length-value_line : (v : Logic) (n : ℕ) → length (value_line v n) ≤ 6
length-value_line v n = omega (arith, length-append (code_of n) (codes "\n"), length-code_of n)

length-stamp : (t : ℕ) → t ≤ 2 ^ 40 → length (stamp t) ≤ 22
length-stamp t h = grind (arith, length-append, length-decimal-le 20 t)

-- a line of a name that lies in memory
pub length-var_line : (n : ℕ) (name : List ℕ) → length name < 2 ^ 64 → length (var_line n name) ≤ 2 ^ 65
length-var_line n name h = grind (arith, length-append, length-code_of n)

length-first_lines : (v : ℕ → ℕ → Logic) (n : ℕ) → length (first_lines v n) ≤ 6 * n
unfolding first_lines
length-first_lines v zero = omega arith
length-first_lines v (suc n) = omega (arith, length-append (first_lines v n) (value_line (v n 0) n), length-value_line (v n 0) n, length-first_lines v n)

length-change_lines : (v : ℕ → ℕ → Logic) (t n : ℕ) → length (change_lines v t n) ≤ 6 * n
unfolding change_lines
length-change_lines v t zero = omega arith
length-change_lines v t (suc n) =
    let here = go (has_change v t n) in
    omega (arith, length-append (change_lines v t n) (cond (has_change v t n) (value_line (v n t) n) []), here, length-change_lines v t n)
  where
    go : (b : Bool) → length (cond b (value_line (v n t) n) []) ≤ 6
    go true = length-value_line (v n t) n
    go false = omega arith

length-moment : (v : ℕ → ℕ → Logic) (nets horizon t : ℕ) → nets ≤ 1000000 → t ≤ 2 ^ 40 → length (moment v nets horizon t) ≤ 2 ^ 23
unfolding moment
length-moment v nets horizon t h k = go (some_change v t nets || nat_eq t horizon)
  where
    go : (b : Bool) → length (cond b (stamp t ++ change_lines v t nets) []) ≤ 2 ^ 23
    go true = omega (arith, length-append (stamp t) (change_lines v t nets), length-stamp t k, length-change_lines v t nets)
    go false = omega arith

length-moments : (v : ℕ → ℕ → Logic) (nets horizon t : ℕ) → nets ≤ 1000000 → t ≤ 2 ^ 40 → length (moments v nets horizon t) ≤ 2 ^ 23 * t
unfolding moments
length-moments v nets horizon zero h k = omega arith
length-moments v nets horizon (suc t) h k =
    omega (arith, length-append (moments v nets horizon t) (moment v nets horizon (suc t)), length-moment v nets horizon (suc t) h k, length-moments v nets horizon t h (omega arith))

-- what stands below the header
pub length-below : (v : ℕ → ℕ → Logic) (nets horizon : ℕ) → nets ≤ 1000000 → horizon ≤ 2 ^ 40 → length (first_lines v nets ++ (codes "$end\n" ++ moments v nets horizon horizon)) ≤ 2 ^ 64
length-below v nets horizon h k =
    omega (arith, length-append (first_lines v nets) (codes "$end\n" ++ moments v nets horizon horizon), length-append (codes "$end\n") (moments v nets horizon horizon), length-first_lines v nets, length-moments v nets horizon horizon h k)

length-unit_name : (u : Unit) → length (unit_name u) ≤ 2
length-unit_name units.S = omega arith
length-unit_name units.Ms = omega arith
length-unit_name units.Us = omega arith
length-unit_name units.Ns = omega arith
length-unit_name units.Ps = omega arith
length-unit_name units.Fs = omega arith

length-timescale_line : (scale : Timescale) → scale.number < 2 ^ 64 → length (timescale_line scale) ≤ 2 ^ 10
length-timescale_line scale h = grind (arith, length-append, length-unit_name scale.unit, length-decimal-le 20 scale.number)

length-scope_line : (top : List ℕ) → length top < 2 ^ 64 → length (scope_line top) ≤ 2 ^ 65
length-scope_line top h = grind (arith, length-append)

-- what stands above the values
pub length-header : (top : List ℕ) (names : List (List ℕ)) (scale : Timescale) → length top < 2 ^ 64 → scale.number < 2 ^ 64 → length (var_lines names (length names)) ≤ 2 ^ 85 → length (header top names scale) ≤ 2 ^ 90
unfolding header
length-header top names scale a b c =
    let rest = codes "$upscope $end\n$enddefinitions $end\n#0\n$dumpvars\n" in
    omega (arith, length-append (timescale_line scale) (scope_line top ++ (var_lines names (length names) ++ rest)), length-append (scope_line top) (var_lines names (length names) ++ rest), length-append (var_lines names (length names)) rest, length-timescale_line scale b, length-scope_line top a)

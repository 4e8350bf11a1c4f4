-- Which places digits reach, and the digits that a code has.
use Rattle.std.proofs.Common.{◌≡◌, ℕ, zero, suc, ◌<◌, ◌≤◌, inl, inr, Bool, true, false, not, cond, ◌&&◌, ◌||◌, nat_le, nat_lt, List, [], ◌∷◌, ◌++◌, length, map, set, filter, get_or, slice_get, replicate, Some, refl, ap, sym, ◌∙◌, arith, get_or-set_same, get_or-set_other, length-set}
use Rattle.std.proofs.lemmas.List.{length-replicate}
use Rattle.std.proofs.lemmas.Bool.Decides.{nat_tests}
use Rattle.std.proofs.lemmas.Option.{same_Some}
use Rattle.std.proofs.lemmas.Slice.Eq.{bytes_eq-Decides}
use Rattle.std.specs.Str.{bytes_eq}
use Rattle.gate_values.specs.declared.logic.Logic.{Logic}
use Rattle.gate_values.specs.declared.logic.Logic.TheVariants.{X}
use Rattle.gate_values.specs.declared.logic.Change.{Change}
use Rattle.gate_values.specs.Changes.{last_value, latest, same}
use Rattle.gate_values.proofs.ChangeLists.{same_is}
use Rattle.gate_vcd.specs.Changes.{Event, Source, changes_with, change_of, past_end, value_at_place}
use Rattle.gate_vcd.specs.Inner.Items.{AreGiven, given_after, last_of, makes, reaches}
use Rattle.gate_vcd.specs.Shown.Known.{is_of}
use Rattle.net_waves.proofs.Compared.{cases_eq, le_true, lt_false}
use Rattle.gate_vcd.proofs.Keeping.{same_bytes}
use Rattle.gate_vcd.proofs.Settling.{AreUpTo, latest-append}
use Rattle.gate_vcd.proofs.Links.{last_below-passes, last_below-stands, slice_get-is}

either : (a b c : Bool) → ((a || b) || c) ≡ false → (a ≡ false) × (b ≡ false) × (c ≡ false)
either true b c e = cc
either false true c e = cc
either false false c e = (refl, refl, e)

not_true : (b : Bool) → not b ≡ false → b ≡ true
not_true true e = refl
not_true false e = cc

past : (n m : ℕ) → nat_lt n m ≡ false → m ≤ n
past n m e = grind (arith, nat_tests, e)

-- what isn't reached isn't reached further on
pub reaches-less : (had digits : List ℕ) (place further : ℕ) → place ≤ further → reaches had digits place ≡ false → reaches had digits further ≡ false
unfolding reaches
reaches-less had digits place further h e =
    let (a, b, c) = either (nat_lt place (length had)) (nat_lt place (length digits)) (not (same (past_end had) (past_end digits))) e in
    let la : length had ≤ place = past place (length had) a in
    let lb : length digits ≤ place = past place (length digits) b in
    rw (lt_false further (length had) (omega arith), lt_false further (length digits) (omega arith)) c

-- a place that isn't reached keeps its value
pub reaches-same : (had digits : List ℕ) (place : ℕ) → reaches had digits place ≡ false → value_at_place place digits ≡ value_at_place place had
unfolding reaches
reaches-same had digits place e =
    let (a, b, c) = either (nat_lt place (length had)) (nat_lt place (length digits)) (not (same (past_end had) (past_end digits))) e in
    rw (a, b) (sym (same_is (past_end had) (past_end digits) (not_true (same (past_end had) (past_end digits)) c)))

-- a place of which digits make no change keeps its value
pub makes-same : (had digits : List ℕ) (place : ℕ) → (reaches had digits place && makes had digits place) ≡ false → value_at_place place digits ≡ value_at_place place had
unfolding makes
makes-same had digits place e = go (reaches had digits place) refl e
  where
    by : (a b : Bool) → (a || not b) ≡ false → b ≡ true
    by true b e = cc
    by false b e = not_true b e

    go : (r : Bool) → reaches had digits place ≡ r → (r && (nat_le (length digits) 1 || not (same (value_at_place place had) (value_at_place place digits)))) ≡ false → value_at_place place digits ≡ value_at_place place had
    go false is e = reaches-same had digits place is
    go true is e = sym (same_is (value_at_place place had) (value_at_place place digits) (by (nat_le (length digits) 1) (same (value_at_place place had) (value_at_place place digits)) e))

-- the last value of a source is that of the digits that its code has
value-given : (source : Source) (had : List ℕ) (es : List Event) → last_value (value_at_place source.place had) (changes_with source es) ≡ value_at_place source.place (given_after source.code had es)
value-given source had [] = refl
value-given source had (e ∷ es) = go (bytes_eq source.code e.code) (λ digits. value-given source digits es)
  where
    go : (b : Bool) → ((digits : List ℕ) → last_value (value_at_place source.place digits) (changes_with source es) ≡ value_at_place source.place (given_after source.code digits es)) → last_value (value_at_place source.place had) (map (change_of source.place) (cond b (e ∷ filter (λ (x : Event). bytes_eq source.code x.code) es) (filter (λ (x : Event). bytes_eq source.code x.code) es)))
        ≡ value_at_place source.place (given_after source.code (cond b e.digits had) es)
    go true ih = ih e.digits
    go false ih = ih had

-- no digits say x
no_digits : (place : ℕ) → value_at_place place [] ≡ X
no_digits place = rw (lt_false place 0 (omega arith)) refl

pub value-given-all : (source : Source) (es : List Event) → last_value X (changes_with source es) ≡ value_at_place source.place (given_after source.code [] es)
value-given-all source es = ap (λ v. last_value v (changes_with source es)) (sym (no_digits source.place)) ∙ value-given source [] es

-- after all changes a value is the last one
pub latest-last : (v : Logic) (cs : List Change) (now t : ℕ) → AreUpTo now cs → now ≤ t → latest v cs t ≡ last_value v cs
unfolding latest
latest-last v [] now t up h = refl
latest-last v (c ∷ cs) now t up h = rw (le_true c.time t (omega (arith, up.0))) (latest-last c.value cs now t up.1 h)

-- a change to the value that stands changes nothing
pub latest-still : (cs : List Change) (c : Change) (t : ℕ) → AreUpTo c.time cs → c.value ≡ last_value X cs → latest X (cs ++ c ∷ []) t ≡ latest X cs t
latest-still cs c t up e = latest-append X cs c t ∙ go (nat_le c.time t) refl
  where
    go : (b : Bool) → nat_le c.time t ≡ b → cond b c.value (latest X cs t) ≡ latest X cs t
    go false h = refl
    go true h = let l : c.time ≤ t = grind (arith, nat_tests, h) in e ∙ sym (latest-last X cs c.time t up l)

-- one event more
pub given-more : (code had : List ℕ) (es : List Event) (e : Event) → given_after code had (es ++ e ∷ []) ≡ cond (bytes_eq code e.code) e.digits (given_after code had es)
given-more code had [] e = refl
given-more code had (x ∷ es) e = given-more code (cond (bytes_eq code x.code) x.digits had) es e

pub given-none : (sources : List Source) (n : ℕ) → n ≡ length sources → AreGiven sources [] (replicate n [])
given-none sources n e = record { count = length-replicate n [] ∙ e; digits = λ code k at. replicate-none n k }
  where
    replicate-none : (n k : ℕ) → get_or (replicate {A = List ℕ} n []) k [] ≡ []
    replicate-none zero k = refl
    replicate-none (suc n) zero = refl
    replicate-none (suc n) (suc k) = replicate-none n k

pub given-same : (sources : List Source) (es all : List Event) (given : List (List ℕ)) → all ≡ es → AreGiven sources es given → AreGiven sources all given
given-same sources es all given e law = rw e law

-- the digits of a change are kept at the last source of its code
pub given-digits : (sources : List Source) (now : ℕ) (code digits : List ℕ) (es : List Event) (given : List (List ℕ)) (last : ℕ) → last_of sources code ≡ Some last → AreGiven sources es given
    → AreGiven sources (es ++ record { time = now; code = code; digits = digits } ∷ []) (set given last digits)
given-digits sources now code digits es given last is law = record {
  count = length-set given last digits ∙ law.count;
  digits = λ other k at. by other k at ∙ sym (given-more other [] es (record { time = now; code = code; digits = digits }));
}
  where
    stands : last < length sources
    stands = last_below-stands (is_of code) sources (length sources) last is

    by : (other : List ℕ) (k : ℕ) → last_of sources other ≡ Some k → get_or (set given last digits) k [] ≡ cond (bytes_eq other code) digits (given_after other [] es)
    by other k at = go (bytes_eq other code) refl
      where
        go : (b : Bool) → bytes_eq other code ≡ b → get_or (set given last digits) k [] ≡ cond b digits (given_after other [] es)
        go true t =
            let one : k ≡ last = same_Some k last (sym at ∙ ap (last_of sources) (same_bytes other code t) ∙ is) in
            rw one (get_or-set_same given last digits [] (omega (arith, stands, law.count)))
        go false t = elim (cases_eq k last) [
          | inl one ↦ (
              let here : k < length sources = last_below-stands (is_of other) sources (length sources) k at in
              let s : Source = get_or sources k (record { code = []; place = 0 }) in
              let stood : slice_get sources k ≡ Some s = slice_get-is sources k (record { code = []; place = 0 }) here in
              let own : s.code ≡ other = same_bytes s.code other (last_below-passes (is_of other) sources (length sources) k s at stood) in
              let that : s.code ≡ code = same_bytes s.code code (last_below-passes (is_of code) sources (length sources) k s (rw one is) stood) in
              let bad : true ≡ false = sym ((bytes_eq-Decides other code).1 (sym own ∙ that)) ∙ t in
              absurd (cc))
          | inr differ ↦ get_or-set_other given last k digits [] differ ∙ law.digits other k at
        ]

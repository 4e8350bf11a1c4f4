-- Names as a set of texts keeps them.
use Rattle.std.proofs.Common.{◌≡◌, ℕ, ◌<◌, ◌≤◌, Bool, true, false, not, ◌&&◌, cond, ltb, List, [], ◌∷◌, length, map, Some, None, Ok, Err, refl, ap, sym, ◌∙◌, inl, inr, string_bytes, Global, arith}
use Rattle.std.specs.Prelude.{String}
use Rattle.std.specs.List.{list_any, list_all, position, position_or_len}
use Rattle.std.specs.Str.{bytes_eq}
use Rattle.std.proofs.lemmas.Bool.{cases_lt, lt-ltb, le-ltb}
use Rattle.std.proofs.lemmas.List.{length-map}
use Rattle.std.proofs.lemmas.List.Sums.{prefix_len-le-length}
use Rattle.gate_netlist.specs.declared.fault.BenchCause.TheVariants.{DrivenTwice, TooManyNets}
use Rattle.gate_netlist.specs.Bench.{is_among, refusal, unless}
use Rattle.gate_netlist.proofs.Splitting.{list_any-map}

abbrev Key : Type 0
Key = String Global

abbrev pub has_bytes : List ℕ → Key → Bool
has_bytes n k = bytes_eq n (string_bytes k)

pub among_keys : (ks : List Key) (n : List ℕ) → is_among (map string_bytes ks) n ≡ list_any (has_bytes n) ks
among_keys ks n = list_any-map (λ other. bytes_eq n other) string_bytes ks

place_at : (n len i : ℕ) → cond (ltb n len) (Some n) None ≡ Some i → i ≡ n
place_at n len i e = elim (cases_lt n len) [
  | inl less ↦ (let some : cond (ltb n len) (Some n) None ≡ Some n = rw (lt-ltb _ _ less) refl in cc)
  | inr more ↦ (let none : cond (ltb n len) (Some n) None ≡ None = rw (le-ltb _ _ more) refl in absurd cc)
]

place_past : (n len : ℕ) → cond (ltb n len) (Some n) None ≡ None → len ≤ n
place_past n len e = elim (cases_lt n len) [
  | inl less ↦ (let some : cond (ltb n len) (Some n) None ≡ Some n = rw (lt-ltb _ _ less) refl in absurd cc)
  | inr more ↦ more
]

pub place_some : {X : Type 0} (p : X → Bool) (xs : List X) (i : ℕ) → position p xs ≡ Some i → i ≡ position_or_len p xs
place_some p xs i e = place_at (position_or_len p xs) (length xs) i e

pub place_none : {X : Type 0} (p : X → Bool) (xs : List X) → position p xs ≡ None → length xs ≡ position_or_len p xs
place_none p xs e = let h = place_past (position_or_len p xs) (length xs) e in let i = prefix_len-le-length (λ x. not (p x)) xs in omega arith

pub twice : {X : Type 0} (x : X) (ks : List Key) (n : List ℕ) → list_any (has_bytes n) ks ≡ true → unless (refusal (map string_bytes ks) (Some n)) x ≡ Err DrivenTwice
twice x ks n e = rw (among_keys ks n, e) refl

pub too_many : {X : Type 0} (x : X) (ks : List Key) (n : List ℕ) → list_any (has_bytes n) ks ≡ false → 999999 ≤ length ks → unless (refusal (map string_bytes ks) (Some n)) x ≡ Err TooManyNets
too_many x ks n e le = rw (among_keys ks n, e, length-map ks string_bytes, le-ltb _ _ le) refl

pub fresh : {X : Type 0} (x : X) (ks : List Key) (n : List ℕ) → list_any (has_bytes n) ks ≡ false → length ks < 999999 → unless (refusal (map string_bytes ks) (Some n)) x ≡ Ok x
fresh x ks n e lt = rw (among_keys ks n, e, length-map ks string_bytes, lt-ltb _ _ lt) refl

-- a name was there before, where putting it in adds nothing
pub was_among : (key : Key) (n : List ℕ) (ks : List Key) (new t : Bool) → string_bytes key ≡ n → new ≡ not (list_any (has_bytes (string_bytes key)) ks) → new ≡ t → list_any (has_bytes n) ks ≡ not t
was_among key n ks new t is e f =
    let flipped : (b c : Bool) → c ≡ not b → b ≡ not c = λ b c h. elim b as (λ b. c ≡ not b → b ≡ not c) [ true ↦ (λ h. ap not (sym h)) | false ↦ (λ h. ap not (sym h)) ] h in
    ap (λ m. list_any (has_bytes m) ks) (sym is) ∙ flipped _ new e ∙ ap not f

pub list_all-map : {X Y : Type 0} (p : Y → Bool) (f : X → Y) (xs : List X) → list_all p (map f xs) ≡ list_all (λ x. p (f x)) xs
list_all-map p f [] = refl
list_all-map p f (x ∷ xs) = ap (λ b. p (f x) && b) (list_all-map p f xs)

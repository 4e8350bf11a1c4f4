-- Names that differ, with one more at the end.
use Rattle.std.proofs.Common.{◌≡◌, ◌∙◌, ℕ, suc, ◌+◌, ◌<◌, Bool, true, false, cond, eqb, List, [], ◌∷◌, ◌++◌, length, get_or, Option, Some, None, refl, sym, append-nil, arith, inl, inr}
use Rattle.std.specs.Prelude.{option_to_list}
use Rattle.std.specs.List.{list_any, position, position_or_len}
use Rattle.std.specs.Str.{bytes_eq}
use Rattle.std.proofs.lemmas.Bool.{cases_Bool, cases_lt, lt-ltb, eq-eqb, eqb-true}
use Rattle.std.proofs.lemmas.List.{length-append, get_or_append_left}
use Rattle.std.proofs.Math.Seq.{get_or-append_seam}
use Rattle.std.proofs.lemmas.List.Folds.{position_or_len_push}
use Rattle.gate_netlist.specs.declared.fault.BenchCause.{BenchCause}
use Rattle.gate_netlist.specs.Netlist.{NamesDiffer}
use Rattle.gate_netlist.specs.Bench.{is_among, refusal}
use Rattle.gate_netlist.proofs.Naming.{place_none, place_some}

pub bytes_eq-itself : (xs : List ℕ) → bytes_eq xs xs ≡ true
bytes_eq-itself [] = refl
bytes_eq-itself (x ∷ xs) = rw (eq-eqb x x refl) (bytes_eq-itself xs)

apart : (m n : ℕ) → m < n → eqb m n ≡ false
apart m n l = elim (cases_Bool (eqb m n)) [
  | inl same ↦ (let e = eqb-true m n same in absurd (omega arith))
  | inr other ↦ other
]

found_at : {X : Type 0} (p : X → Bool) (xs : List X) (i : ℕ) → position_or_len p xs ≡ i → i < length xs → position p xs ≡ Some i
found_at p xs i e l = rw (e, lt-ltb i (length xs) l) refl

pub none_passes : {X : Type 0} (p : X → Bool) (xs : List X) → list_any p xs ≡ false → position_or_len p xs ≡ length xs
none_passes p [] e = refl
none_passes p (x ∷ xs) e =
    elim (cases_Bool (p x)) [
      | inl passes ↦ (let g : true ≡ false = rw passes at e in absurd cc)
      | inr fails ↦ rw fails (let h : list_any p xs ≡ false = rw fails at e in omega (arith, none_passes p xs h))
    ]

pub passes_none : {X : Type 0} (p : X → Bool) (xs : List X) → position_or_len p xs ≡ length xs → list_any p xs ≡ false
passes_none p [] e = refl
passes_none p (x ∷ xs) e =
    elim (cases_Bool (p x)) [
      | inl passes ↦ (let g : 0 ≡ suc (length xs) = rw passes at e in absurd (omega arith))
      | inr fails ↦ (let g : 1 + position_or_len p xs ≡ suc (length xs) = rw fails at e in rw fails (passes_none p xs (omega arith)))
    ]

pub absent : {X : Type 0} (p : X → Bool) (xs : List X) → position p xs ≡ None → list_any p xs ≡ false
absent p xs e = passes_none p xs (sym (place_none p xs e))

-- one more at the end changes no place that was found
place_before : {X : Type 0} (p : X → Bool) (xs : List X) (y : X) (i : ℕ) → position p xs ≡ Some i → i < length xs → position p (xs ++ y ∷ []) ≡ Some i
place_before p xs y i e l =
    let found : i ≡ position_or_len p xs = place_some p xs i e in
    let other : position_or_len p (xs ++ y ∷ []) ≡ i = position_or_len_push p xs y ∙ rw (← found, apart i (length xs) l) refl in
    found_at p (xs ++ y ∷ []) i other (omega (arith, length-append xs (y ∷ [])))

place_last : {X : Type 0} (p : X → Bool) (xs : List X) (y : X) → list_any p xs ≡ false → p y ≡ true → position p (xs ++ y ∷ []) ≡ Some (length xs)
place_last p xs y none passes =
    let past = none_passes p xs none in
    let last : position_or_len p (xs ++ y ∷ []) ≡ length xs = position_or_len_push p xs y ∙ rw (past, eq-eqb (length xs) (length xs) refl, passes) (omega arith) in
    found_at p (xs ++ y ∷ []) (length xs) last (omega (arith, length-append xs (y ∷ [])))

pub names_differ_more : (names : List (List ℕ)) (name : List ℕ) → NamesDiffer names → is_among names name ≡ false → NamesDiffer (names ++ name ∷ [])
names_differ_more names name differ new = λ n l.
    elim (cases_lt n (length names)) [
      | inl before ↦ rw (get_or_append_left names (name ∷ []) [] n before) (place_before (λ other. bytes_eq (get_or names n []) other) names name n (differ n before) before)
      | inr past ↦
          (let last : n ≡ length names = omega (arith, length-append names (name ∷ [])) in
          rw (last, get_or-append_seam names name [] []) (place_last (λ other. bytes_eq name other) names name new (bytes_eq-itself name)))
    ]

pub no_name_differs : NamesDiffer []
no_name_differs = λ n l. absurd (omega arith)

free-test : (a : Bool) (c : BenchCause) (rest : Option BenchCause) → cond a (Some c) rest ≡ None → a ≡ false
free-test true c rest e = absurd cc
free-test false c rest e = refl

-- a net that may be defined has a new name
pub names_differ_with : (earlier : List (List ℕ)) (net : Option (List ℕ)) → refusal earlier net ≡ None → NamesDiffer earlier → NamesDiffer (earlier ++ option_to_list net)
names_differ_with earlier None e differ = rw append-nil differ
names_differ_with earlier (Some n) e differ = names_differ_more earlier n differ (free-test (is_among earlier n) _ _ e)

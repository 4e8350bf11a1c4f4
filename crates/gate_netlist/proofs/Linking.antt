-- Nets are defined where their numbers are below the count of names.
use Rattle.std.proofs.Common.{◌≡◌, ℕ, ◌<◌, Bool, true, false, not, ◌&&◌, cond, ltb, List, [], ◌∷◌, length, map, Option, Result, Ok, Err, refl, ap, sym, ◌∙◌, inl, inr, arith}
use Rattle.std.specs.List.{list_any, list_all, position_or_len}
use Rattle.std.specs.Str.{bytes_eq}
use Rattle.std.proofs.lemmas.Bool.{cases_Bool, cases_lt, lt-ltb, le-ltb}
use Rattle.std.proofs.lemmas.List.Sums.{prefix_len-le-length}
use Rattle.gate_netlist.specs.declared.bench.Definition.{Definition}
use Rattle.gate_netlist.specs.declared.fault.BenchCause.{BenchCause}
use Rattle.gate_netlist.specs.declared.fault.BenchCause.TheVariants.{Undriven}
use Rattle.gate_netlist.specs.Statements.{Name, Statement, Nothing, Input, Output, Gate, Flop}
use Rattle.gate_netlist.specs.Bench.{is_among, uses, number_among, definition_of, output_of}
use Rattle.gate_netlist.specs.Inner.Passes.{made_by, is_linked}
use Rattle.gate_netlist.proofs.Differing.{none_passes, passes_none}

some_passes : {X : Type 0} (p : X → Bool) (xs : List X) → position_or_len p xs < length xs → list_any p xs ≡ true
some_passes p xs less =
    elim (cases_Bool (list_any p xs)) [
      | inl passes ↦ passes
      | inr fails ↦ absurd (omega (arith, none_passes p xs fails))
    ]

place_below : {X : Type 0} (p : X → Bool) (xs : List X) → ltb (position_or_len p xs) (length xs) ≡ list_any p xs
place_below p xs =
    elim (cases_lt (position_or_len p xs) (length xs)) [
      | inl less ↦ lt-ltb _ _ less ∙ sym (some_passes p xs less)
      | inr more ↦ le-ltb _ _ more ∙ sym (passes_none p xs (omega (arith, more, prefix_len-le-length (λ x. not (p x)) xs)))
    ]

all_below : (nets inputs : List Name) → list_all (λ net. ltb net (length nets)) (map (number_among nets) inputs) ≡ list_all (is_among nets) inputs
all_below nets [] = refl
all_below nets (n ∷ ns) = rw (place_below (λ other. bytes_eq n other) nets, all_below nets ns) refl

one_below : (nets : List Name) (n : Name) → ltb (number_among nets n) (length nets) ≡ list_all (is_among nets) (n ∷ [])
one_below nets n = rw (place_below (λ other. bytes_eq n other) nets) (elim (is_among nets n) as (λ b. b ≡ b && true) [ true ↦ refl | false ↦ refl ])

are_used : (nets : List Name) (s : Statement) → is_linked (definition_of nets s) (output_of nets s) (length nets) ≡ list_all (is_among nets) (uses s)
are_used nets Nothing = refl
are_used nets (Input n) = refl
are_used nets (Output n) = one_below nets n
are_used nets (Gate n kind inputs) = all_below nets inputs
are_used nets (Flop n d) = one_below nets d

abbrev made : List Name → Statement → Result (Option Definition × Option ℕ) BenchCause
made nets s = Ok (definition_of nets s, output_of nets s)

-- a line that says this is linked, where its nets are
pub linked_by : (nets : List Name) (s : Statement) (count : ℕ) (t : Bool) → count ≡ length nets → t ≡ is_linked (definition_of nets s) (output_of nets s) count
    → made_by nets s ≡ cond t (made nets s) (Err Undriven)
linked_by nets s count t f g =
    let used : list_all (is_among nets) (uses s) ≡ t = sym (are_used nets s) ∙ ap (λ n. is_linked (definition_of nets s) (output_of nets s) n) (sym f) ∙ sym g in
    rw used (elim t as (λ b. cond (not b) (Err Undriven) (made nets s) ≡ cond b (made nets s) (Err Undriven)) [ true ↦ refl | false ↦ refl ])

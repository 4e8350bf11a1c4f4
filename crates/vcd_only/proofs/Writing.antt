-- What is written of nets and of changes, one after another.
use Rattle.std.proofs.Common.{◌≡◌, ℕ, ◌+◌, ◌<◌, List, [], ◌∷◌, ◌++◌, Bool, get_or, refl, ap, sym, ◌∙◌, append_assoc, append-nil, add-one}
use Rattle.std.specs.List.{AllByRecursion}
use Rattle.gate_values.specs.declared.logic.Logic.{Logic}
use Rattle.net_waves.specs.declared.timeline.Stop.{Stop}
use Rattle.vcd_dumps.specs.Dump.{var_line, value_line}
use Rattle.vcd_dumps.specs.Walk.{stop_lines, walked, last_stop}
use Rattle.vcd_only.specs.Told.{if_told, told_vars, told_first}
use Rattle.vcd_only.specs.Inner.Stops.{IsWritten}

pub told_vars-none : (told : List Bool) (names : List (List ℕ)) → told_vars told names 0 ≡ []
unfolding told_vars
told_vars-none told names = refl

pub told_vars-next : (told : List Bool) (names : List (List ℕ)) (n : ℕ) → told_vars told names (n + 1) ≡ told_vars told names n ++ if_told told n (var_line n (get_or names n []))
unfolding told_vars
told_vars-next told names n = rw (add-one n) refl

pub told_first-none : (told : List Bool) (v : ℕ → ℕ → Logic) → told_first told v 0 ≡ []
unfolding told_first
told_first-none told v = refl

pub told_first-next : (told : List Bool) (v : ℕ → ℕ → Logic) (n : ℕ) → told_first told v (n + 1) ≡ told_first told v n ++ if_told told n (value_line (v n 0) n)
unfolding told_first
told_first-next told v n = rw (add-one n) refl

-- ---- changes

pub written-start : (text : List ℕ) (all : List Stop) → AllByRecursion (λ (s : Stop). s.net < 1000000) all → IsWritten text text 0 all all
written-start text all known = record { whole = refl; end = refl; known = known }

pub written-known : (old mid : List ℕ) (last : ℕ) (rest more all : List Stop) (s : Stop) → IsWritten old mid last rest all → rest ≡ s ∷ more → s.net < 1000000
written-known old mid last rest more all s w e =
    let known : AllByRecursion (λ (x : Stop). x.net < 1000000) (s ∷ more) = rw e at w.known in
    known.0

pub written-step : (old mid new : List ℕ) (last : ℕ) (rest more all : List Stop) (s : Stop) → IsWritten old mid last rest all → rest ≡ s ∷ more → new ≡ mid ++ stop_lines last s.time s.net s.value → IsWritten old new s.time more all
written-step old mid new last rest more all s w e put =
    let known : AllByRecursion (λ (x : Stop). x.net < 1000000) (s ∷ more) = rw e at w.known in
    record {
      whole = ap (λ t. t ++ walked s.time more) put ∙ append_assoc mid (stop_lines last s.time s.net s.value) (walked s.time more) ∙ ap (λ (r : List Stop). mid ++ walked last r) (sym e) ∙ w.whole;
      end = ap (last_stop last) (sym e) ∙ w.end;
      known = known.1;
    }

pub written-end : (old new : List ℕ) (last : ℕ) (rest all : List Stop) → IsWritten old new last rest all → rest ≡ [] → (new ≡ old ++ walked 0 all) × (last ≡ last_stop 0 all)
written-end old new last rest all w e = (sym (append-nil new) ∙ ap (λ (r : List Stop). new ++ walked last r) (sym e) ∙ w.whole, ap (last_stop last) (sym e) ∙ w.end)

-- What is written of changes, one after another.
use Rattle.std.proofs.Common.{◌≡◌, ℕ, ◌<◌, List, [], ◌∷◌, ◌++◌, refl, ap, sym, ◌∙◌, subst, append_assoc}
use Rattle.std.proofs.lemmas.List.{append-nil}
use Rattle.std.specs.List.{AllByRecursion}
use Rattle.gate_values.specs.declared.logic.Logic.{Logic}
use Rattle.byte_sinks.specs.Sink.{Held}
use Rattle.byte_sinks.specs.Lots.{Lot, Passes}
use Rattle.vcd_dumps.specs.Dump.{stamp, value_line}
use Rattle.vcd_dumps.specs.Walk.{stop_lines, walked, last_stop}
use Rattle.vcd_dumps.specs.Inner.Walk.{IsWalked, GoesOn}
use Rattle.net_waves.specs.declared.timeline.Stop.{Stop}
use Rattle.byte_sinks.proofs.Passing.{passes_then, passes_none}
use Rattle.net_waves.proofs.Compared.{eq_false}

-- a change at a later time
pub stop_lines-later : (last t n : ℕ) (v : Logic) → (t ≡ 0 → ⊥) → (t ≡ last → ⊥) → stop_lines last t n v ≡ stamp t ++ value_line v n
stop_lines-later last t n v some new = rw (eq_false t 0 some, eq_false t last new) refl

-- what is written of two lists, one behind the other
pub walked-append : (last : ℕ) (xs ys : List Stop) → walked last (xs ++ ys) ≡ walked last xs ++ walked (last_stop last xs) ys
walked-append last [] ys = refl
walked-append last (x ∷ xs) ys =
    ap (λ l. stop_lines last x.time x.net x.value ++ l) (walked-append x.time xs ys) ∙ sym (append_assoc (stop_lines last x.time x.net x.value) (walked x.time xs) (walked (last_stop x.time xs) ys))

pub last_stop-append : (last : ℕ) (xs ys : List Stop) → last_stop last (xs ++ ys) ≡ last_stop (last_stop last xs) ys
last_stop-append last [] ys = refl
last_stop-append last (x ∷ xs) ys = last_stop-append x.time xs ys

pub walked_start : (sink : Held) (n : Lot) (first : ℕ) (rest all : List Stop) → rest ≡ all → AllByRecursion (λ (s : Stop). s.net < 1000000) all → IsWalked sink sink n n first first rest all
walked_start sink n first rest all e known = rw e (record {
  text = [];
  written = passes_none sink n;
  whole = refl;
  end = refl;
  known = known;
})

pub walked_step : (old mid new : Held) (from mid_lot to : Lot) (first last : ℕ) (rest more all : List Stop) (s : Stop) → IsWalked old mid from mid_lot first last rest all → rest ≡ s ∷ more → Passes mid new mid_lot (stop_lines last s.time s.net s.value) to → IsWalked old new from to first s.time more all
walked_step old mid new from mid_lot to first last rest more all s w e put =
    let known : AllByRecursion (λ (x : Stop). x.net < 1000000) (s ∷ more) = rw e at w.known in
    record {
      text = w.text ++ stop_lines last s.time s.net s.value;
      written = passes_then w.written put;
      whole = append_assoc w.text (stop_lines last s.time s.net s.value) (walked s.time more) ∙ ap (λ (r : List Stop). w.text ++ walked last r) (sym e) ∙ w.whole;
      end = ap (last_stop last) (sym e) ∙ w.end;
      known = known.1;
    }

pub walked_known : (old mid : Held) (from mid_lot : Lot) (first last : ℕ) (rest more all : List Stop) (s : Stop) → IsWalked old mid from mid_lot first last rest all → rest ≡ s ∷ more → s.net < 1000000
walked_known old mid from mid_lot first last rest more all s w e =
    let known : AllByRecursion (λ (x : Stop). x.net < 1000000) (s ∷ more) = rw e at w.known in
    known.0

pub walked_end : (old new : Held) (from to : Lot) (first last : ℕ) (rest all : List Stop) → IsWalked old new from to first last rest all → rest ≡ [] → Passes old new from (walked first all) to × (last ≡ last_stop first all)
walked_end old new from to first last rest all w e =
    let text : w.text ≡ walked first all = sym (append-nil w.text) ∙ ap (λ (r : List Stop). w.text ++ walked last r) (sym e) ∙ w.whole in
    (rw (← text) w.written, ap (last_stop last) (sym e) ∙ w.end)

pub All-parts : {X : Type 0} (P : X → Type 0) (xs ys : List X) → AllByRecursion P (xs ++ ys) → AllByRecursion P xs × AllByRecursion P ys
All-parts P [] ys a = (tt, a)
All-parts P (x ∷ xs) ys a = let rest = All-parts P xs ys a.1 in ((a.0, rest.0), rest.1)

-- several stops at once
pub walked_chunk : (old mid new : Held) (from mid_lot to : Lot) (first last : ℕ) (chunk rest more all : List Stop) → IsWalked old mid from mid_lot first last rest all → rest ≡ chunk ++ more → Passes mid new mid_lot (walked last chunk) to → IsWalked old new from to first (last_stop last chunk) more all
walked_chunk old mid new from mid_lot to first last chunk rest more all w e put = record {
  text = w.text ++ walked last chunk;
  written = passes_then w.written put;
  whole = append_assoc w.text (walked last chunk) (walked (last_stop last chunk) more) ∙ ap (λ (r : List ℕ). w.text ++ r) (sym (walked-append last chunk more)) ∙ ap (λ (r : List Stop). w.text ++ walked last r) (sym e) ∙ w.whole;
  end = sym (last_stop-append last chunk more) ∙ ap (last_stop last) (sym e) ∙ w.end;
  known = (All-parts (λ (s : Stop). s.net < 1000000) chunk more (subst (AllByRecursion (λ (s : Stop). s.net < 1000000)) e w.known)).1;
}

pub chunk_known : (old mid : Held) (from mid_lot : Lot) (first last : ℕ) (chunk rest more all : List Stop) → IsWalked old mid from mid_lot first last rest all → rest ≡ chunk ++ more → AllByRecursion (λ (s : Stop). s.net < 1000000) chunk
chunk_known old mid from mid_lot first last chunk rest more all w e = (All-parts (λ (s : Stop). s.net < 1000000) chunk more (subst (AllByRecursion (λ (s : Stop). s.net < 1000000)) e w.known)).0

-- nothing was put
pub goes_none : (sink : Held) (lot : Lot) (text : List ℕ) → GoesOn sink sink lot text text lot
goes_none sink lot text = record { text = []; went = passes_none sink lot; all = append-nil text }

-- more was put
pub goes_then : (old mid new : Held) (from mid_lot to : Lot) (first so_far more : List ℕ) → GoesOn old mid from first so_far mid_lot → Passes mid new mid_lot more to → GoesOn old new from first (so_far ++ more) to
goes_then old mid new from mid_lot to first so_far more goes put = record {
  text = goes.text ++ more;
  went = passes_then goes.went put;
  all = sym (append_assoc first goes.text more) ∙ ap (λ r. r ++ more) goes.all;
}

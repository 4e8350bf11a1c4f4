-- The lists of the sources of a code, settled one after another from the last one on.
use Rattle.std.proofs.Common.{◌≡◌, ◌≢◌, ℕ, suc, ◌<◌, ◌≤◌, Bool, true, false, cond, ◌&&◌, nat_le, List, [], ◌∷◌, ◌++◌, length, map, set, get_or, slice_get, Option, Some, None, Result, Ok, Err, IfErr, OnOk, refl, ap, sym, ◌∙◌, arith, inl, inr, get_or-set_same, get_or-set_other, length-set}
use Rattle.std.proofs.lemmas.List.{length-map, get_or-map}
use Rattle.std.proofs.lemmas.Option.{same_Some}
use Rattle.gate_values.specs.declared.logic.Change.{Change}
use Rattle.gate_vcd.specs.declared.fault.StimFault.{StimFault}
use Rattle.gate_vcd.specs.declared.known.KnownCodes.{KnownCodes}
use Rattle.gate_vcd.specs.declared.source.Source.{Source as Held}
use Rattle.gate_vcd.specs.Faults.{out_of_memory}
use Rattle.gate_vcd.specs.Tokens.{Token}
use Rattle.gate_vcd.specs.Changes.{Event, Source, value_at_place}
use Rattle.gate_vcd.specs.Inner.Items.{AreHeld, AreSettled, IsTaken, Taken, makes, moves, reaches}
use Rattle.gate_vcd.specs.Inner.Settled.{settled}
use Rattle.gate_vcd.specs.Inner.Known.{AreFalling, AreLinked, knows, last_below, sources_in}
use Rattle.gate_vcd.specs.Shown.Known.{is_of, source}
use Rattle.net_waves.proofs.Compared.{cases_eq, cases_lt, le_true, le_false}
use Rattle.gate_vcd.proofs.Keeping.{same_bytes}
use Rattle.gate_vcd.proofs.Reaching.{reaches-less}
use Rattle.gate_vcd.proofs.Links.{rank, slice_get-within, slice_get-is, last_below-less, last_below-passes, last_below-stands, last_below-last}

and_false : (b : Bool) → (b && false) ≡ false
and_false true = refl
and_false false = refl

-- the change that digits make at a time for a source
abbrev pub change_for : ℕ → List ℕ → Source → Change
change_for now digits source = record { time = now; value = value_at_place source.place digits }

-- From a bound on the lists of the sources of the code are settled; the next source is the last one before it.
pub record IsSettling (sources : List Source) (now : ℕ) (code had digits : List ℕ) (old lists : List (List Change)) (next : Option ℕ) : Type 0 where
  pub bound : ℕ
  pub within : bound ≤ length sources
  pub last : next ≡ last_below (is_of code) sources bound
  pub count : length lists ≡ length old
  pub changes : (k : ℕ) (source : Source) → slice_get sources k ≡ Some source
      → get_or lists k [] ≡ cond (nat_le bound k && moves code had digits source) (settled (get_or old k []) (change_for now digits source)) (get_or old k [])

module _ (sources : List Source) (now : ℕ) (code had digits : List ℕ) (old : List (List Change)) where
  pub settling-start : (next : Option ℕ) → next ≡ last_below (is_of code) sources (length sources) → IsSettling sources now code had digits old old next
  settling-start next e = record {
    bound = length sources;
    within = omega arith;
    last = e;
    count = refl;
    changes = λ k source at. rw (le_false (length sources) k (slice_get-within sources k source at)) refl;
  }

  pub settling-stands : (lists : List (List Change)) (j : ℕ) → IsSettling sources now code had digits old lists (Some j) → j < length sources
  settling-stands lists j s = last_below-stands (is_of code) sources s.bound j (sym s.last)

  -- the list of the next source is settled
  pub settling-step : (last : List ℕ → Option ℕ) (before : List (Option ℕ)) (lists : List (List Change)) (j : ℕ) (source : Source) → AreLinked last before sources → slice_get sources j ≡ Some source → reaches had digits source.place ≡ true → length old ≡ length sources
      → IsSettling sources now code had digits old lists (Some j)
      → IsSettling sources now code had digits old (cond (makes had digits source.place) (set lists j (settled (get_or lists j []) (change_for now digits source))) lists) (get_or before j None)
  settling-step last before lists j source linked at reach long s = record {
    bound = j;
    within = omega (arith, s.within, less);
    last = linked.links j source at ∙ ap (λ c. last_below (is_of c) sources j) (same_bytes source.code code passes);
    count = counted (makes had digits source.place) ∙ s.count;
    changes = changes;
  }
    where
      less : j < s.bound
      less = last_below-less (is_of code) sources s.bound j (sym s.last)

      passes : is_of code source ≡ true
      passes = last_below-passes (is_of code) sources s.bound j source (sym s.last) at

      counted : (m : Bool) → length (cond m (set lists j (settled (get_or lists j []) (change_for now digits source))) lists) ≡ length lists
      counted true = length-set lists j (settled (get_or lists j []) (change_for now digits source))
      counted false = refl

      mine : get_or lists j [] ≡ get_or old j []
      mine = s.changes j source at ∙ rw (le_false s.bound j less) refl

      here : (m : Bool) → get_or (cond m (set lists j (settled (get_or lists j []) (change_for now digits source))) lists) j [] ≡ cond m (settled (get_or old j []) (change_for now digits source)) (get_or old j [])
      here true =
          let stands : j < length lists = omega (arith, s.count, long, slice_get-within sources j source at) in
          get_or-set_same lists j (settled (get_or lists j []) (change_for now digits source)) [] stands ∙ ap (λ cs. settled cs (change_for now digits source)) mine
      here false = mine

      elsewhere : (m : Bool) (k : ℕ) → k ≢ j → get_or (cond m (set lists j (settled (get_or lists j []) (change_for now digits source))) lists) k [] ≡ get_or lists k []
      elsewhere true k n = get_or-set_other lists j k (settled (get_or lists j []) (change_for now digits source)) [] n
      elsewhere false k n = refl

      changes : (k : ℕ) (x : Source) → slice_get sources k ≡ Some x
          → get_or (cond (makes had digits source.place) (set lists j (settled (get_or lists j []) (change_for now digits source))) lists) k [] ≡ cond (nat_le j k && moves code had digits x) (settled (get_or old k []) (change_for now digits x)) (get_or old k [])
      changes k x there = elim (cases_eq k j) [
        | inl e ↦ (
            let own : source ≡ x = same_Some source x (sym at ∙ ap (slice_get sources) (sym e) ∙ there) in
            rw (e, ← own, le_true j j (omega arith), passes, reach) (here (makes had digits source.place)))
        | inr n ↦ elsewhere (makes had digits source.place) k n ∙ s.changes k x there ∙ others k x there n
      ]
        where
          others : (k : ℕ) (x : Source) → slice_get sources k ≡ Some x → k ≢ j
              → cond (nat_le s.bound k && moves code had digits x) (settled (get_or old k []) (change_for now digits x)) (get_or old k []) ≡ cond (nat_le j k && moves code had digits x) (settled (get_or old k []) (change_for now digits x)) (get_or old k [])
          others k x there n = elim (cases_lt k j) [
            | inl l ↦ rw (le_false j k l, le_false s.bound k (omega (arith, less))) refl
            | inr g ↦ elim (cases_lt k s.bound) [
              | inl low ↦ (let no : is_of code x ≡ false = last_below-last (is_of code) sources s.bound (Some j) k x (sym s.last) (omega arith) low there in
                  rw no (neither (nat_le s.bound k) (nat_le j k)))
              | inr high ↦ rw (le_true j k g, le_true s.bound k high) refl
            ]
          ]
            where
              neither : (a b : Bool) → cond (a && false) (settled (get_or old k []) (change_for now digits x)) (get_or old k []) ≡ cond (b && false) (settled (get_or old k []) (change_for now digits x)) (get_or old k [])
              neither true true = refl
              neither true false = refl
              neither false true = refl
              neither false false = refl

  pub settling-less : (last : List ℕ → Option ℕ) (before : List (Option ℕ)) (j : ℕ) (source : Source) → AreLinked last before sources → slice_get sources j ≡ Some source → rank (get_or before j None) < suc j
  settling-less last before j source linked at = go (get_or before j None) (linked.links j source at)
    where
      go : (o : Option ℕ) → o ≡ last_below (is_of source.code) sources j → rank o < suc j
      go None e = omega arith
      go (Some i) e = let l : i < j = last_below-less (is_of source.code) sources j i (sym e) in omega arith

  -- none before the bound is reached
  settling-over : (lists : List (List Change)) (next : Option ℕ) (s : IsSettling sources now code had digits old lists next)
      → ((k : ℕ) (source : Source) → k < s.bound → slice_get sources k ≡ Some source → moves code had digits source ≡ false) → AreSettled sources now code had digits old lists
  settling-over lists next s none = record {
    count = s.count;
    changes = λ k source at. s.changes k source at ∙ by k source at;
  }
    where
      by : (k : ℕ) (source : Source) → slice_get sources k ≡ Some source
          → cond (nat_le s.bound k && moves code had digits source) (settled (get_or old k []) (change_for now digits source)) (get_or old k []) ≡ cond (moves code had digits source) (settled (get_or old k []) (change_for now digits source)) (get_or old k [])
      by k source at = elim (cases_lt k s.bound) [
        | inl low ↦ rw (none k source low at, le_false s.bound k low) refl
        | inr high ↦ rw (le_true s.bound k high) refl
      ]

  pub settling-end : (lists : List (List Change)) (next : Option ℕ) → next ≡ None → IsSettling sources now code had digits old lists next → AreSettled sources now code had digits old lists
  settling-end lists next none s = settling-over lists next s
      (λ k source low at. (let no : is_of code source ≡ false = last_below-last (is_of code) sources s.bound None k source (sym s.last ∙ none) (omega arith) low at in rw no refl))

  -- the digits don't reach the next one, nor any before it
  pub settling-stops : (lists : List (List Change)) (j : ℕ) (source : Source) → AreFalling sources → slice_get sources j ≡ Some source → reaches had digits source.place ≡ false
      → IsSettling sources now code had digits old lists (Some j) → AreSettled sources now code had digits old lists
  settling-stops lists j source falls at stops s = settling-over lists (Some j) s none
    where
      none : (k : ℕ) (x : Source) → k < s.bound → slice_get sources k ≡ Some x → moves code had digits x ≡ false
      none k x low there = elim (cases_lt j k) [
        | inl past ↦ (let no : is_of code x ≡ false = last_below-last (is_of code) sources s.bound (Some j) k x (sym s.last) (omega arith) low there in rw no refl)
        | inr before ↦ rw (reaches-less had digits source.place x.place (falls k j x source before there at) stops) (and_false (is_of code x))
      ]

pub no_source : Held
no_source = record { code = record { now = []; ref_ptr = (0, 0) }; place = 0 }

-- the place of a source that stands at a number
pub place-of : (sources : List Held) (number : ℕ) (s : Source) (d : Held) → number < length sources → slice_get (map source sources) number ≡ Some s → (get_or sources number d).place ≡ s.place
place-of sources number s d l at =
    let lm : number < length (map source sources) = omega (arith, length-map sources source) in
    let own : slice_get (map source sources) number ≡ Some (source (get_or sources number d)) = slice_get-is (map source sources) number (source d) lm ∙ ap (λ x. Some x) (get_or-map source sources number d (source d) l) in
    ap (λ (x : Source). x.place) (same_Some (source (get_or sources number d)) s (sym own ∙ at))

-- digits of a code whose lists are settled
pub takes-digits : (known : KnownCodes) (now : ℕ) (t : Token) (code digits : List ℕ) (es : List Event) (new : Taken) (r : Result (Unit {0}) StimFault) → knows known code ≡ true
    → OnOk r (AreHeld (sources_in known) now (es ++ record { time = now; code = code; digits = digits } ∷ []) new) → IfErr r (λ e. e ≡ out_of_memory) → IsTaken known now t code (Some digits) es new r
takes-digits known now t code digits es new (Ok x) has held err = (has, held)
takes-digits known now t code digits es new (Err e) has held err = inl err

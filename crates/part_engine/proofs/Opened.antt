-- An engine over a part's queues has played nothing of the part.
use Rattle.std.proofs.Common.{◌≡◌, ◌∙◌, ℕ, suc, ◌+◌, ◌<◌, ◌++◌, ◌&&◌, inl, inr, Bool, true, false, cond, IsTrue, List, [], ◌∷◌, map, length, get_or, refl, ap, sym, subst, arith}
use Rattle.std.specs.Bool.{beq}
use Rattle.std.proofs.lemmas.Bool.{cases_Bool, cond-true, cond-false}
use Rattle.std.proofs.lemmas.List.{length-map, length-append, get_or_append_left}
use Rattle.gate_values.specs.Behaviour.{Outside, initial_of}
use Rattle.warp_stores.specs.Delays.{empty_after}
use Rattle.warp_gates.specs.Cells.{AreGates}
use Rattle.place_moves.specs.Journals.{queue_of}
use Rattle.warp_engine.specs.Runs.{Run}
use Rattle.warp_engine.specs.Opening.{IsOpened, DoSuit}
use Rattle.warp_engine.specs.Nexts.{AreParted, IsUsed}
use Rattle.warp_engine.proofs.Opening.{run_opens}
use Rattle.warp_part.specs.Portion.{Portion, IsPortion, is_driven, is_used}
use Rattle.warp_part.specs.Inner.Building.{has}
use Rattle.warp_part.specs.Shown.Building.{place_of}
use Rattle.warp_part.specs.Placing.{net_of_place, place_source, place_given, place_cells}
use Rattle.warp_part.proofs.PartBuilding.{place_is, slot_some}
use Rattle.warp_part.proofs.Placing.{nothing_past}
use Rattle.part_engine.specs.Runs.{IsOpeningRun}
use Rattle.part_engine.specs.Inner.Queues.{delay_at, HasDelays, AreQueues}
use Rattle.part_engine.proofs.Sources.{driven_from, delay_placed, place_there, set_at, cells_many, content_at}
use Rattle.part_engine.proofs.Uses.{used_place, place_used}

behind : (xs ys : List ℕ) (k : ℕ) → get_or (xs ++ ys) (length xs + k) 0 ≡ get_or ys k 0
behind [] ys k = ap (λ i. get_or ys i 0) (let e : 0 + k ≡ k = omega arith in e)
behind (x ∷ xs) ys k = ap (λ i. get_or (x ∷ xs ++ ys) i 0) (let e : length (x ∷ xs) + k ≡ suc (length xs + k) = omega arith in e) ∙ behind xs ys k

found : (delays : List ℕ) (delay : ℕ) (p : Portion) (used : Bool) → HasDelays p used delays → IsTrue (has delays delay) → (place_of delays delay < length delays) × (get_or delays (place_of delays delay) 0 ≡ delay)
found delays delay p used are h = place_is delays delay (slot_some delays delay are.rising h)

is_put : (a b used : Bool) → a ≡ true → b ≡ used → (a && beq b used) ≡ true
is_put true true true e f = refl
is_put true false false e f = refl
is_put true true false e f = absurd (let g = f in cc)
is_put true false true e f = absurd (let g = f in cc)
is_put false b used e f = absurd (let g = e in cc)

module _ (p : Portion) (portion : IsPortion p) (numbering read unread : List ℕ) (queues : AreQueues p numbering read unread) where
  abbrev number : ℕ → ℕ
  number i = get_or numbering i 0

  abbrev Own : ℕ → Type 0
  Own i = is_driven (get_or p.sources i Outside) ≡ true

  used_number : (i : ℕ) → Own i → is_used p (net_of_place p i) ≡ true → (number i < length read) × (get_or read (number i) 0 ≡ delay_at p i)
  used_number i own used =
      let l : i < length p.nets = place_there p portion i own in
      let there : IsTrue (has read (delay_at p i)) = queues.read.each i l (is_put (is_driven (get_or p.sources i Outside)) (is_used p (net_of_place p i)) true own used) in
      let at : number i ≡ place_of read (delay_at p i) =
      queues.numbers.each i l
      ∙ cond-true (is_driven (get_or p.sources i Outside)) (cond (is_used p (net_of_place p i)) (place_of read (delay_at p i)) (length read + place_of unread (delay_at p i))) 0 own
      ∙ cond-true (is_used p (net_of_place p i)) (place_of read (delay_at p i)) (length read + place_of unread (delay_at p i)) used in
      subst (λ n. (n < length read) × (get_or read n 0 ≡ delay_at p i)) (sym at) (found read (delay_at p i) p true queues.read there)

  record IsBehind (i : ℕ) : Type 0 where
    at : ℕ
    is : number i ≡ length read + at
    within : at < length unread
    delay : get_or unread at 0 ≡ delay_at p i

  unused_number : (i : ℕ) → Own i → is_used p (net_of_place p i) ≡ false → IsBehind i
  unused_number i own unused =
      let l : i < length p.nets = place_there p portion i own in
      let there : IsTrue (has unread (delay_at p i)) = queues.unread.each i l (is_put (is_driven (get_or p.sources i Outside)) (is_used p (net_of_place p i)) false own unused) in
      let f = found unread (delay_at p i) p false queues.unread there in
      record {
        at = place_of unread (delay_at p i);
        is = queues.numbers.each i l
            ∙ cond-true (is_driven (get_or p.sources i Outside)) (cond (is_used p (net_of_place p i)) (place_of read (delay_at p i)) (length read + place_of unread (delay_at p i))) 0 own
            ∙ cond-false (is_used p (net_of_place p i)) (place_of read (delay_at p i)) (length read + place_of unread (delay_at p i)) unused;
        within = f.0;
        delay = f.1;
      }

  numbered : (i : ℕ) → Own i → (number i < length (read ++ unread)) × (get_or (read ++ unread) (number i) 0 ≡ delay_at p i)
  numbered i own = elim (cases_Bool (is_used p (net_of_place p i))) [
    | inl used ↦ (let u = used_number i own used in (omega (arith, u.0, length-append read unread), get_or_append_left read unread 0 (number i) u.0 ∙ u.1))
    | inr unused ↦ (let u : IsBehind i = unused_number i own unused in (omega (arith, u.is, u.within, length-append read unread), ap (λ n. get_or (read ++ unread) n 0) u.is ∙ behind read unread u.at ∙ u.delay))
  ]

  pub suits : DoSuit (place_source p) (place_cells p) numbering (read ++ unread) (map initial_of p.sources)
  suits = record {
    sources = set_at p portion;
    within = λ i h. (numbered i (driven_from p.nets (get_or p.sources i Outside) h)).0;
    delays = λ i h. (numbered i (driven_from p.nets (get_or p.sources i Outside) h)).1 ∙ sym (delay_placed p.nets (get_or p.sources i Outside));
    contents = content_at p portion;
  }

  module _ (last : ℕ) (run : Run) (opened : IsOpened (place_cells p) numbering read unread (map initial_of p.sources) last run) where
    number_is : (i : ℕ) → queue_of run.book.gates i ≡ number i
    number_is i = ap (λ (ns : List ℕ). get_or ns i 0) opened.book.numbers

    many : length run.book.queues.read ≡ length read
    many = ap length opened.book.read ∙ length-map read empty_after

    parted : AreParted (place_source p) run.book
    parted = record {
      used = λ i used h.
          let own : Own i = driven_from p.nets (get_or p.sources i Outside) h in
          let l : i < length p.nets = place_there p portion i own in
          let u = used_number i own (place_used p portion i l (subst (λ cs. IsUsed cs i) opened.book.cells used)) in
          omega (arith, u.0, many, number_is i);
      first = λ i h below.
          let own : Own i = driven_from p.nets (get_or p.sources i Outside) h in
          let l : i < length p.nets = place_there p portion i own in
          elim (cases_Bool (is_used p (net_of_place p i))) [
            | inl used ↦ subst (λ cs. IsUsed cs i) (sym opened.book.cells) (used_place p portion i l used)
            | inr unused ↦ (let u : IsBehind i = unused_number i own unused in absurd (omega (arith, u.is, many, number_is i, below)))
          ];
    }

    pub opens : AreGates run.book.gates → IsOpeningRun p last run
    opens gates = record {
      runs = λ given. record {
        is = run_opens (place_source p) (place_given p given) (place_cells p) numbering read unread (map initial_of p.sources) last run opened gates suits
            (λ i t far. nothing_past p portion given i t (omega (arith, cells_many p portion)));
        horizon = opened.horizon;
        cells = opened.book.cells;
        parted = parted;
      };
      mark = opened.book.mark;
    }

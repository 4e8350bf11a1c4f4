-- Times that are played on the way to one, and the way back.
use Rattle.std.proofs.Common.{◌≡◌, ◌∙◌, ℕ, suc, ◌+◌, ◌<◌, ◌≤◌, List, [], ◌∷◌, map, length, refl, ap, sym, subst, arith}
use Rattle.std.specs.List.{All, AllByRecursion, flat_map}
use Rattle.std.proofs.lemmas.List.Elements.{All-from_recursion, recursion_from_All}
use Rattle.gate_values.specs.declared.logic.Logic.{Logic}
use Rattle.gate_values.specs.Behaviour.{Source}
use Rattle.warp_stores.specs.declared.least.TheConstants.{NEVER}
use Rattle.warp_stores.specs.Words.{Move}
use Rattle.warp_stores.specs.Dated.{Dated, before, since, undated}
use Rattle.warp_stores.specs.Least.{least_of}
use Rattle.warp_stores.specs.Delays.{Delayed, queue_at, least_due, made_since, cut_since, back_from}
use Rattle.warp_gates.specs.Cells.{Cell, Gates, AreGates, value_at, cell_at, unmoved, HaveSettled, HaveRestored}
use Rattle.place_moves.specs.Journals.{IsPlayed, AreBrought, IsBack, IsReadTo, output_back}
use Rattle.place_moves.specs.Moves.{first_before}
use Rattle.warp_stores.specs.Lists.{words_at}
use Rattle.place_moves.proofs.Quieting.{quiet_until}
use Rattle.place_moves.proofs.Backing.{back_plays}
use Rattle.place_moves.proofs.Taking.{back_outputs}
use Rattle.place_moves.proofs.Asking.{undone_there, unmade-within}
use Rattle.warp_journal.specs.Books.{Book, AreAlike, Played, IsBrought, MayPlay, Keeps, HasStayed, MayGoBack, HasGoneBack, all_of, journal_of}
use Rattle.warp_journal.specs.Inner.Parts.{AreAsMany}
use Rattle.warp_journal.specs.Inner.Playing.{IsStill, MayPass, IsDueFrom, HasPassed, HasPlayedSome}
use Rattle.warp_journal.proofs.Parting.{many_all, back-many, back_each}

-- ---- nothing that is ahead comes true before the mark

least-from : (m : ℕ) (ds : List (Dated Move)) (delay : ℕ) → m ≤ NEVER → AllByRecursion (λ d. m ≤ d.0 + delay) ds → m ≤ least_of (map (λ d. d.0 + delay) ds)
least-from m [] delay l h = l
least-from m (d ∷ ds) delay l h = omega (arith, h.0, least-from m ds delay l h.1)

due-from : (m : ℕ) (queues : List Delayed) → m ≤ NEVER → ((number : ℕ) → AllByRecursion (λ d. m ≤ d.0 + (queue_at queues number).delay) (queue_at queues number).line.ahead) → m ≤ least_due queues
due-from m [] l h = l
due-from m (q ∷ qs) l h = omega (arith, least-from m q.line.ahead q.delay l (h 0), due-from m qs l (λ number. h (suc number)))

mark-due : (source : ℕ → Source) (given : ℕ → ℕ → Logic) (floor : ℕ) (book : Book) → book.mark ≤ NEVER → IsPlayed source given floor (journal_of book) → book.mark ≤ least_due (all_of book.queues)
mark-due source given floor book l played = due-from book.mark (all_of book.queues) l (λ number. let r : IsReadTo book.mark (queue_at (all_of book.queues) number) = played.queues number in r.ahead)

-- ---- times at which nothing is due

same_alike : (book : Book) → AreAlike book book
same_alike book = record { cells = refl; numbers = refl; read = refl; unread = refl }

then_alike : (old mid new : Book) → AreAlike old mid → AreAlike mid new → AreAlike old new
then_alike old mid new a b = record { cells = b.cells ∙ a.cells; numbers = b.numbers ∙ a.numbers; read = b.read ∙ a.read; unread = b.unread ∙ a.unread }

pub passed_none : (time : ℕ) (book : Book) → book.mark ≤ time → HasPassed time book book
passed_none time book l = record { from = omega arith; to = l; alike = same_alike book; each = λ source given floor played still. played }

pub passed_quiet : (time : ℕ) (old new : Book) → old.mark ≤ time → IsDueFrom time old → new ≡ record { mark = time; gates = old.gates; queues = old.queues; history = old.history } → HasPassed time old new
passed_quiet time old new l due e =
    subst (λ (b : Book). HasPassed time old b) (sym e)
    (record {
      from = l;
      to = omega arith;
      alike = record { cells = refl; numbers = refl; read = refl; unread = refl };
      each = λ source given floor played still. quiet_until source given floor time (journal_of old) played l due still;
    })

module _ (time : ℕ) (first now : Book) (may : MayPass time first) (passed : HasPassed time first now) where
  abbrev pub played_now : Played now
  played_now = record { source = may.of.source; given = may.of.given; floor = may.of.floor; is = passed.each may.of.source may.of.given may.of.floor may.of.is may.still }

  -- up to a time it may be passed
  pub may_go : (due : ℕ) → due ≤ time → now.mark ≤ due → MayPass due now
  may_go due l m = record { of = played_now; ahead = m; still = λ t a b. may.still t (omega (arith, passed.from)) (omega arith) }

  pub mark_due : time ≤ NEVER → now.mark ≤ least_due (all_of now.queues)
  mark_due l = let of : Played now = played_now in mark-due of.source of.given of.floor now (omega (arith, passed.to)) of.is

  module _ (due : ℕ) (mid : Book) (here : mid.mark ≡ due) (quiet : HasPassed due now mid) (l : due ≤ time) where
    pub still_now : (source : ℕ → Source) (given : ℕ → ℕ → Logic) → IsStill source given first.mark time → IsStill source given now.mark due
    still_now source given still t a b = still t (omega (arith, passed.from)) (omega arith)

    abbrev pub mid_played : Played mid
    mid_played =
        record { source = may.of.source; given = may.of.given; floor = may.of.floor; is = quiet.each may.of.source may.of.given may.of.floor (passed.each may.of.source may.of.given may.of.floor may.of.is may.still) (still_now may.of.source may.of.given may.still) }

    -- the next step, at which nothing is brought, may be played
    pub may_step : due < time → MayPlay mid.mark [] mid
    may_step m =
        record {
          of = mid_played;
          ahead = omega arith;
          brought = record {
            still = λ t a b. absurd (omega arith);
            brought = may.still mid.mark (omega (arith, passed.from, quiet.from)) (omega (arith, here));
          };
        }

    pub passed_step : due < time → (new : Book) → mid.mark ≤ new.mark → new.mark ≤ time → Keeps mid.mark [] mid new → HasPassed time first new
    passed_step m new a b keeps =
        record {
          from = omega (arith, passed.from, quiet.from);
          to = b;
          alike = then_alike first mid new (then_alike first now mid passed.alike quiet.alike) keeps.alike;
          each = λ source given floor played still.
              keeps.each source given floor (quiet.each source given floor (passed.each source given floor played still) (still_now source given still))
              (record { still = λ t c d. absurd (omega arith); brought = still mid.mark (omega (arith, passed.from, quiet.from)) (omega (arith, here)) });
        }

-- ---- the time itself

abbrev pub may_pass : (time : ℕ) (outside : List Move) (book : Book) → MayPlay time outside book → MayPass time book
may_pass time outside book may = record { of = may.of; ahead = may.ahead; still = may.brought.still }

module _ (time : ℕ) (outside : List Move) (first now mid : Book) (may : MayPlay time outside first) (passed : HasPassed time first now) (here : mid.mark ≡ time) (quiet : HasPassed time now mid) where
  pub may_end : MayPlay mid.mark outside mid
  may_end =
      let b : IsBrought may.of.source may.of.given first.mark time outside = may.brought in
      let go : MayPass time first = may_pass time outside first may in
      record {
        of = mid_played time first now go passed time mid here quiet (omega arith);
        ahead = omega arith;
        brought = record {
          still = λ t a c. absurd (omega arith);
          brought = subst (λ (t : ℕ). AreBrought may.of.source may.of.given t outside) (sym here) b.brought;
        };
      }

  pub ended : (new : Book) → Keeps mid.mark outside mid new → Keeps time outside first new
  ended new keeps =
      record {
        alike = then_alike first mid new (then_alike first now mid passed.alike quiet.alike) keeps.alike;
        each = λ source given floor played brought.
            keeps.each source given floor
            (quiet.each source given floor (passed.each source given floor played brought.still) (λ t a b. brought.still t (omega (arith, passed.from)) (omega arith)))
            (record { still = λ t a b. absurd (omega arith); brought = subst (λ (t : ℕ). AreBrought source given t outside) (sym here) brought.brought });
      }

pub some_passed : (time : ℕ) (outside : List Move) (old new : Book) → HasPassed time old new → HasPlayedSome time outside old new
some_passed time outside old new passed =
    record { from = passed.from; keeps = record { alike = passed.alike; each = λ source given floor played brought. passed.each source given floor played brought.still } }

-- ---- the way back

pub may_return : (time : ℕ) (outside : List Move) (old some : Book) → MayPlay time outside old → HasPlayedSome time outside old some → MayGoBack old.mark some
may_return time outside old some may played =
    let is : IsPlayed may.of.source may.of.given may.of.floor (journal_of old) = (let of : Played old = may.of in of.is) in
    record {
      of = record { source = may.of.source; given = may.of.given; floor = may.of.floor; is = played.keeps.each may.of.source may.of.given may.of.floor is may.brought };
      low = is.forgotten;
      high = played.from;
    }

pub returned : (time : ℕ) (outside : List Move) (old some new : Book) → HasPlayedSome time outside old some → HasGoneBack old.mark some new → HasStayed time outside old new
returned time outside old some new played back =
    record {
      mark = (let b : IsBack old.mark (journal_of some) (journal_of new) = back.back in b.mark);
      keeps = record {
        alike = then_alike old some new played.keeps.alike back.alike;
        each = λ source given floor is brought.
            back_plays source given floor (journal_of some) (played.keeps.each source given floor is brought) old.mark is.forgotten played.from (journal_of new) back.back;
      };
    }

-- what a way back asks, and what it is
module _ (time : ℕ) (book : Book) (may : MayGoBack time book) where
  pub back_words : All (λ w. w.place < length book.gates.cells) (undated (since time book.history))
  back_words = let of : Played book = may.of in undone_there of.source of.given of.floor (journal_of book) of.is time may.low may.high

  pub back_puts : All (λ w. w.place < length book.gates.cells) (flat_map (made_since time) (all_of book.queues))
  back_puts = All-from_recursion (λ (w : Move). w.place < length book.gates.cells) (flat_map (made_since time) (all_of book.queues)) every
    where
      every : AllByRecursion (λ w. w.place < length book.gates.cells) (flat_map (made_since time) (all_of book.queues))
      every = let of : Played book = may.of in unmade-within of.source of.given of.floor (journal_of book) of.is time may.low may.high

  pub gone_back : (mid new : Gates) (after : Book) → mid.cells ≡ book.gates.cells → mid.queues ≡ book.gates.queues → mid.values ≡ unmoved (undated (since time book.history)) book.gates.values → AreGates mid → HaveSettled book.gates mid
      → new.cells ≡ mid.cells → new.queues ≡ mid.queues → new.values ≡ mid.values → AreGates new → HaveRestored (flat_map (made_since time) (all_of book.queues)) mid new
      → after.mark ≡ time → after.gates ≡ new → after.history ≡ before time book.history → after.queues.read ≡ map (back_from time) (map (cut_since time) book.queues.read) → after.queues.unread ≡ map (back_from time) (map (cut_since time) book.queues.unread)
      → HasGoneBack time book after
  gone_back mid new after cells numbers values law settled cells' numbers' values' law' restored mark gates history read unread =
      let many : AreAsMany book.queues after.queues = back-many time book.queues after.queues read unread in
      let same : new ≡ after.gates = sym gates in
      let within : AllByRecursion (λ w. w.place < length mid.outputs) (flat_map (made_since time) (all_of book.queues)) =
      (let len : length mid.outputs ≡ length book.gates.cells = law.outputs ∙ ap (λ (cs : List Cell). length cs) cells in
      subst (λ (n : ℕ). AllByRecursion (λ (w : Move). w.place < n) (flat_map (made_since time) (all_of book.queues))) (sym len)
      (recursion_from_All (λ (w : Move). w.place < length book.gates.cells) (flat_map (made_since time) (all_of book.queues)) back_puts)) in
      record {
        alike = record {
          cells = ap (λ (g : Gates). g.cells) gates ∙ cells' ∙ cells;
          numbers = ap (λ (g : Gates). g.queues) gates ∙ numbers' ∙ numbers;
          read = many.read;
          unread = many.unread;
        };
        back = record {
          mark = mark;
          history = history;
          law = subst AreGates same law';
          cells = ap (λ (g : Gates). g.cells) gates ∙ cells' ∙ cells;
          numbers = ap (λ (g : Gates). g.queues) gates ∙ numbers' ∙ numbers;
          values = ap (λ (g : Gates). g.values) gates ∙ values' ∙ values;
          outputs = λ place.
              subst (λ (g : Gates). value_at g.outputs place ≡ output_back g.values (cell_at book.gates.cells place) (first_before (value_at book.gates.outputs place) (words_at place (flat_map (made_since time) (all_of book.queues)))) (value_at book.gates.outputs place)) same
              (back_outputs book.gates mid new (flat_map (made_since time) (all_of book.queues)) cells values' within settled restored place);
          same = many_all book.queues after.queues many;
          queues = back_each time book.queues after.queues read unread;
        };
      }

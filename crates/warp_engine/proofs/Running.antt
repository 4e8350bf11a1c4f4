-- How calls keep what is true of a run, and how a place's log grows.
use Rattle.std.proofs.Common.{◌≡◌, ◌∙◌, ℕ, suc, ◌+◌, ◌<◌, ◌≤◌, inl, inr, List, [], ◌++◌, map, Result, Ok, Err, length, refl, ap, sym, subst, arith}
use Rattle.std.specs.List.{flat_map}
use Rattle.std.specs.Result.{OnOk, OnErr}
use Rattle.gate_values.specs.declared.logic.Logic.{Logic}
use Rattle.gate_values.specs.declared.logic.Change.{Change}
use Rattle.gate_values.specs.Behaviour.{Source, value}
use Rattle.gate_values.specs.Changes.{changes}
use Rattle.warp_stores.specs.Words.{Move}
use Rattle.warp_stores.specs.Dated.{Dated}
use Rattle.warp_stores.specs.Delays.{told_since}
use Rattle.warp_stores.specs.Lists.{changes_at}
use Rattle.warp_gates.specs.Cells.{Cell, cell_at}
use Rattle.place_moves.specs.Journals.{Journal, IsPlayed}
use Rattle.place_moves.specs.Logs.{log_of}
use Rattle.place_moves.proofs.Telling.{outside_told, changes_grow}
use Rattle.place_moves.proofs.Logging.{log-driven, log-outside}
use Rattle.place_moves.proofs.Sourcing.{driven_or_not}
use Rattle.place_moves.proofs.Backing.{back_plays}
use Rattle.place_moves.proofs.Regiving.{given_plays}
use Rattle.place_moves.proofs.Beginning.{forgotten_plays}
use Rattle.warp_journal.specs.Books.{Book, Played, MayPlay, HasPlayed, HasStayed, MayGoBack, HasGoneBack, HasLostBelow, journal_of}
use Rattle.warp_engine.specs.Runs.{Run, Ran, MayRun, HasRun, HasRested, IsRun, makings, MayReturn, HasReturned, HasDropped}
use Rattle.warp_engine.specs.Logs.{log_up_to}

abbrev played_of : (run : Run) → Ran run → Played run.book
played_of run ran = record { source = ran.source; given = ran.given; floor = ran.floor; is = ran.is.played }

-- ---- a time is played

pub may_play : (time : ℕ) (outside : List Move) (run : Run) → MayRun time outside run → MayPlay time outside run.book
may_play time outside run may = record { of = played_of run may.of; ahead = may.ahead; brought = may.brought }

pub has_run : (time : ℕ) (outside : List Move) (run : Run) (book : Book) → MayRun time outside run → HasPlayed time outside run.book book → HasRun time outside run (record run { book = book })
has_run time outside run book may played =
    record {
      mark = played.mark;
      like = record { alike = played.keeps.alike; horizon = refl };
      follows = λ source given floor is brought. record {
        played = played.keeps.each source given floor is.played brought;
        low = omega (arith, is.low, may.ahead, played.mark);
      };
    }

pub has_rested : (time : ℕ) (outside : List Move) (run : Run) (book : Book) → HasStayed time outside run.book book → HasRested time outside run (record run { book = book })
has_rested time outside run book stayed =
    record {
      mark = stayed.mark;
      like = record { alike = stayed.keeps.alike; horizon = refl };
      follows = λ source given floor is brought. record {
        played = stayed.keeps.each source given floor is.played brought;
        low = omega (arith, is.low, stayed.mark);
      };
    }

-- ---- what was made is taken back, and something else is given from a time on

pub may_go_back : (time : ℕ) (run : Run) → MayReturn time run → MayGoBack time run.book
may_go_back time run may = record { of = played_of run may.of; low = may.low; high = may.high }

pub has_returned : (time : ℕ) (run : Run) (book : Book) → MayReturn time run → HasGoneBack time run.book book → HasReturned time run (record run { book = book })
has_returned time run book may back =
    record {
      mark = back.back.mark;
      like = record { alike = back.alike; horizon = refl };
      anew = λ source given given' floor is low agree past.
          let cells : book.gates.cells ≡ run.book.gates.cells = back.alike.cells in
          let played : IsPlayed source given floor (journal_of book) = back_plays source given floor (journal_of run.book) is.played time low may.high (journal_of book) back.back in
          record {
            played = given_plays source given given' floor (journal_of book) played (λ t p l. agree t p (omega (arith, back.back.mark))) (λ p t l. past p t (subst (λ (cs : List Cell). length cs ≤ p) cells l));
            low = omega (arith, low, back.back.mark);
          };
    }

-- ---- what isn't needed is forgotten

pub has_dropped : (time : ℕ) (run : Run) (book : Book) → HasLostBelow time run.book book → HasDropped time run (record run { book = book })
has_dropped time run book lost =
    record {
      mark = lost.forgotten.mark;
      gates = lost.forgotten.gates;
      history = lost.forgotten.history;
      like = record { alike = lost.alike; horizon = refl };
      keeps = λ source given floor is low high. record {
        played = forgotten_plays source given floor time (journal_of run.book) (journal_of book) is.played low high lost.forgotten;
        low = omega (arith, high, lost.forgotten.mark);
      };
    }

-- ---- logs

-- a place's log is longer by what is told of it
pub log_longer : (source : ℕ → Source) (given : ℕ → ℕ → Logic) (floor time : ℕ) (run : Run) → IsRun source given floor run → floor ≤ time → time ≤ run.book.mark
    → (place : ℕ) → log_up_to source given run.horizon run.book.mark place ≡ log_up_to source given run.horizon time place ++ changes_at place (makings time run)
log_longer source given floor time run is low high place =
    let j : Journal = journal_of run.book in
    let played : IsPlayed source given floor j = is.played in
    let all : List Change = changes (value source given place) (run.horizon + 1) in
    let told : List (Dated Move) = flat_map (told_since time run.horizon) j.queues in
    elim (driven_or_not (cell_at j.gates.cells place) (source place) (played.gates.sources place)) [
      | inl out ↦
          log-outside (source place) j.mark all out
          ∙ sym (ap (λ (cs : List Change). cs ++ changes_at place told) (log-outside (source place) time all out)
          ∙ ap (map (λ (d : Dated Move). record { time = d.0; value = d.1.after })) (outside_told source given floor j played place time run.horizon low out))
      | inr driven ↦
          log-driven (source place) j.mark all driven ∙ changes_grow source given floor j played place time run.horizon low high driven
          ∙ ap (λ (cs : List Change). cs ++ changes_at place told) (sym (log-driven (source place) time all driven))
    ]

-- ---- calls

pub on_ok : {A E : Type 0} (result : Result A E) (P Q : Type 0) → (P → Q) → OnOk result P → OnOk result Q
on_ok (Ok a) P Q f h = f h
on_ok (Err e) P Q f h = tt

pub on_err : {A E : Type 0} (result : Result A E) (P Q : Type 0) → (P → Q) → OnErr result P → OnErr result Q
on_err (Ok a) P Q f h = tt
on_err (Err e) P Q f h = f h

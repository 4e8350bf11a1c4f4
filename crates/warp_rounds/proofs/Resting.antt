-- Turns that receive and finish nothing, and when a window may have no event time.
use Rattle.std.proofs.Common.{◌≡◌, ℕ, ◌+◌, ◌-◌, ◌<◌, ◌≤◌, ◌⊎◌, inl, inr, List, [], length, refl, sym, ap, subst, arith}
use Rattle.std.specs.Prelude.{Option, Some, None, unwrap_or}
use Rattle.std.specs.List.{Any, count_by, range_with_len}
use Rattle.std.proofs.lemmas.List.{drop_all, nil_from_length}
use Rattle.warp_process.specs.declared.message.Message.{Message}
use Rattle.warp_process.specs.View.{View, Process, IsLeast, is_busy}
use Rattle.warp_process.specs.Lawful.{IsLawful, IsLawfulProcess}
use Rattle.warp_process.specs.Advance.{IsAdvanced}
use Rattle.warp_process.specs.Commit.{IsCommittable, IsCommitted, IsCommitRefusal}
use Rattle.warp_process.specs.declared.fault.BlockFault.{BlockFault}
use Rattle.warp_process.specs.Sends.{Sends}
use Rattle.warp_process.proofs.Sends.{same_standing, sends_nothing}
use Rattle.warp_rounds.specs.Turn.{AreReceived, IsTurn, IsFaultyTurn, IsPending, IsAfterPending, IsLeastPending, put_behind}
use Rattle.warp_rounds.specs.Visit.{Fits, IsVisit, IsFaultyVisit}
use Rattle.warp_rounds.specs.Inner.Turn.{IsFirstPast}
use Rattle.warp_rounds.proofs.Turning.{held_back}

none_advanced : (v : View) → IsAdvanced v v 0
none_advanced v = let none : v.mark - v.mark ≡ 0 = omega arith in record {
  part = refl;
  horizon = refl;
  floor = refl;
  queues = refl;
  finished = sym (ap (λ n. count_by (is_busy v) (range_with_len v.mark n)) none);
  stays = λ z. refl;
  moves = λ some. absurd (omega arith);
}

pub rests : (old new : Process) (ms : List Message) (floor window : ℕ) → length ms ≡ 0 → window ≡ 0 → IsCommittable old.seen floor → IsCommitted old new floor → IsLawful new.seen →
    IsTurn old new ms floor window
rests old new ms floor window none short possible committed lawful = record {
  settled = new;
  before = record {
    heard = old;
    received = subst (λ (list : List Message). AreReceived old.seen old.seen list) (sym (nil_from_length ms none)) refl;
    possible = possible;
    committed = committed;
    lawful = lawful;
  };
  count = 0;
  advanced = none_advanced new.seen;
  all = inl (sym short);
}

pub rests_sends : (old new : Process) (floor : ℕ) (IsLater : ℕ → Type 0) → IsCommitted old new floor → (out : List Message) → Sends old.seen new.seen IsLater out out
rests_sends old new floor IsLater committed out =
    sends_nothing old.seen new.seen IsLater out out (same_standing old.seen new.seen committed.part committed.logs) refl

-- the floor is refused
pub stays_sends : (old new : Process) (IsLater : ℕ → Type 0) → new ≡ old → (out : List Message) → Sends old.seen new.seen IsLater out out
stays_sends old new IsLater same out =
    subst (λ (p : Process). Sends old.seen p.seen IsLater out out) (sym same) (sends_nothing old.seen old.seen IsLater out out (λ p. refl) refl)

pub rest_refused : (old new : Process) (ms : List Message) (floor window : ℕ) (fault : BlockFault) → length ms ≡ 0 → new ≡ old → IsCommitRefusal old.seen floor fault →
    IsFaultyTurn old new ms floor window fault
rest_refused old new ms floor window fault none same cause =
    held_back old old new ms floor window fault (subst (λ (list : List Message). AreReceived old.seen old.seen list) (sym (nil_from_length ms none)) refl) same cause

none_behind : (out : List Message) → [] ≡ put_behind out out
none_behind out = sym (drop_all (length out) out (omega arith))

least_same : (P Q : ℕ → Type 0) (first : Option ℕ) → ((t : ℕ) → P t → Q t) → ((t : ℕ) → Q t → P t) → IsLeast P first → IsLeast Q first
least_same P Q None to from h = λ t q. h t (from t q)
least_same P Q (Some t) to from h = (to t h.0, λ u q. h.1 u (from u q))

none_told : (ms : List Message) (t : ℕ) → length ms ≡ 0 → Any (λ m. m.time ≡ t) ms → ⊥
none_told ms t none (k, m, within, at, is) = omega arith

-- a commit leaves the event times as they are
pub rests_least : (old new : Process) (ms : List Message) (floor : ℕ) (first : Option ℕ) → length ms ≡ 0 → IsCommitted old new floor →
    IsLeast (IsPending old.seen ms) first → (out : List Message) → IsLeastPending new.seen (put_behind out out) (unwrap_or first (new.seen.horizon + 1))
rests_least old new ms floor first none committed least out =
    subst (λ (list : List Message). IsLeastPending new.seen list (unwrap_or first (new.seen.horizon + 1))) (none_behind out) (record {
      found = first;
      first = least_same (IsPending old.seen ms) (IsPending new.seen []) first
          (λ t p. elim p [ inl event ↦ inl ((committed.events t).1 event) | inr told ↦ absurd (none_told ms t none told) ])
          (λ t p. elim p [ inl event ↦ inl ((committed.events t).0 event) | inr told ↦ absurd (none_told [] t refl told) ])
          least;
      reported = refl;
    })

past_all : (P : ℕ → Type 0) (first : Option ℕ) (floor : ℕ) → IsLeast P first → IsFirstPast first floor → (t : ℕ) → P t → floor < t
past_all P None floor least past t p = absurd (least t p)
past_all P (Some u) floor least past t p = omega (arith, least.1 t p, past)

-- where the first time is known, and has its turn if it isn't past the floor
pub fits_from : (v : View) (ms : List Message) (floor window own : ℕ) (first : Option ℕ) → IsLeast (IsPending v ms) first → own ≤ window →
    (0 < window → (0 < own) ⊎ IsFirstPast first floor) → Fits v ms floor window own
fits_from v ms floor window own first least within some =
    (within, λ l. elim (some l) [ inl has ↦ inl has | inr past ↦ inr (past_all (IsPending v ms) first floor least past) ])

-- ---- visits

-- a turn by a window that fits, where its messages are a list's items
pub visits : (old new : Process) (ms list : List Message) (floor window own : ℕ) (before out : List Message) (told least : ℕ) → ms ≡ list → least ≡ told →
    IsLawfulProcess old → Fits old.seen list floor window own → IsTurn old new ms floor own → Sends old.seen new.seen (IsAfterPending old.seen ms) before out →
    IsLeastPending new.seen (put_behind before out) told → IsVisit floor window before out least
visits old new ms list floor window own before out told least same is lawful fits turn sends first = record {
  old = old;
  new = new;
  messages = ms;
  own = own;
  lawful = lawful;
  fits = subst (λ (xs : List Message). Fits old.seen xs floor window own) (sym same) fits;
  turn = turn;
  sends = sends;
  told = subst (λ (n : ℕ). IsLeastPending new.seen (put_behind before out) n) (sym is) first;
}

pub visits_faulty : (old new : Process) (ms list : List Message) (floor window own : ℕ) (before out : List Message) (fault : BlockFault) → ms ≡ list →
    IsLawfulProcess old → Fits old.seen list floor window own → IsFaultyTurn old new ms floor own fault →
    Sends old.seen new.seen (IsAfterPending old.seen ms) before out → IsFaultyVisit floor window before out fault
visits_faulty old new ms list floor window own before out fault same lawful fits turn sends = record {
  old = old;
  new = new;
  messages = ms;
  own = own;
  lawful = lawful;
  fits = subst (λ (xs : List Message). Fits old.seen xs floor window own) (sym same) fits;
  turn = turn;
  sends = sends;
}

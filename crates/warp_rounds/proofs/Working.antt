-- What workers have done in a round, visit by visit, and what comes of it at the round's end.
use Rattle.std.proofs.Common.{◌≡◌, ℕ, zero, suc, ◌<◌, ◌≤◌, ◌*◌, ◌⊎◌, inl, inr, min, true, List, [], ◌∷◌, ◌++◌, All, length, fold, Option, Some, None, Err, refl, sym, ap, ◌∙◌, subst, arith, length-append}
use Rattle.std.proofs.lemmas.List.Elements.{All-nil, All-head, All-tail, All-push, All-append}
use Rattle.std.proofs.lemmas.List.Sums.{fold-append}
use Rattle.std.proofs.lemmas.Bool.{true≢false}
use Rattle.std.proofs.Math.Nat.{zero-mul, mul-one}
use Rattle.warp_process.specs.declared.message.Message.{Message}
use Rattle.warp_process.specs.declared.fault.BlockFault.{BlockFault}
use Rattle.warp_process.specs.declared.fault.BlockFault.TheVariants as block
use Rattle.warp_rounds.specs.declared.fault.RunFault.{RunFault}
use Rattle.warp_rounds.specs.declared.fault.RunFault.TheVariants.{Block, Stalled, Gather, NoThread, Memory}
use Rattle.warp_rounds.specs.declared.round.EndFault.{EndFault}
use Rattle.warp_rounds.specs.declared.round.EndFault.TheVariants.{WrongSeats, Undrawn}
use Rattle.warp_rounds.specs.Faults.{fault_of_block}
use Rattle.warp_rounds.specs.Words.{never}
use Rattle.warp_rounds.specs.Seats.{RoundId, RoundView, SeatView, empty_seat, least_of, IsEnd, IsUnmarked}
use Rattle.warp_rounds.specs.Visit.{IsVisit, IsFaultyVisit}
use Rattle.warp_rounds.specs.Runs.{IsStall, IsBlockFault}
use Rattle.warp_rounds.specs.Inner.Work.{IsUndelivered, Visited, IsVisited, lowered, least_told, AreVisits, HasPlayed, IsWorkFault, IsPlayedOut, IsOver, HasLaps, IsRoundFault}

-- ---- faults

-- a visit's fault is one of a worker
pub visit_fault : (blocks floor window : ℕ) (sent : List Message) (f : BlockFault) → IsFaultyVisit floor window [] sent f →
    IsWorkFault blocks floor window (fault_of_block f)
visit_fault blocks floor window sent block.Memory h = tt
visit_fault blocks floor window sent block.WrongNet h = inl (record { sent = sent; visit = h })
visit_fault blocks floor window sent block.PastHorizon h = inl (record { sent = sent; visit = h })
visit_fault blocks floor window sent block.BelowFloor h = inl (record { sent = sent; visit = h })
visit_fault blocks floor window sent block.CountLimit h = inl (record { sent = sent; visit = h })
visit_fault blocks floor window sent block.FloorBack h = inl (record { sent = sent; visit = h })
visit_fault blocks floor window sent block.Unprocessed h = inl (record { sent = sent; visit = h })
visit_fault blocks floor window sent (block.Unsettled net time) h = inl (record { sent = sent; visit = h })

-- and so is that of delivering what a visit sent
pub delivery_fault : (blocks floor window least : ℕ) (sent : List Message) (fault : RunFault) → IsVisit floor window [] sent least → IsUndelivered blocks sent fault →
    IsWorkFault blocks floor window fault
delivery_fault blocks floor window least sent (Block f) visit (is, astray) =
    subst (IsBlockFault blocks floor window) (sym is) (inr (record { sent = sent; least = least; visit = visit; astray = astray; cause = refl }))
delivery_fault blocks floor window least sent (Stalled time) visit h = absurd h
delivery_fault blocks floor window least sent (Gather f) visit h = absurd h
delivery_fault blocks floor window least sent NoThread visit h = absurd h
delivery_fault blocks floor window least sent Memory visit h = tt

pub work_round : (blocks workers floor window : ℕ) (fault : RunFault) → IsWorkFault blocks floor window fault → IsRoundFault blocks workers floor window fault
work_round blocks workers floor window (Block f) h = h
work_round blocks workers floor window (Stalled time) h = absurd h
work_round blocks workers floor window (Gather f) h = absurd h
work_round blocks workers floor window NoThread h = absurd h
work_round blocks workers floor window Memory h = tt

-- ---- visits

-- before any, where the time is kept to be reported
pub visited_none : (round : RoundId) (floor window : ℕ) (s : SeatView) → s ≡ empty_seat round → HasPlayed round floor window (record s { least = min s.least never })
visited_none round floor window s is = record {
  visits = [];
  visited = record { ours = ap (λ (v : SeatView). v.round) is; made = All-nil (IsVisited floor window); told = ap (λ (v : SeatView). min v.least never) is };
  each = omega (arith, ap (λ (v : SeatView). length v.draws) is);
}

min_assoc : (a b c : ℕ) → min a (min b c) ≡ min (min a b) c
min_assoc a b c = omega arith

-- one visit
pub one_visit : (floor window least : ℕ) (sent : List Message) → IsVisit floor window [] sent least → AreVisits floor window least
one_visit floor window least sent visit =
    let v : Visited = record { sent = sent; least = least } in
    record { visits = v ∷ []; some = omega arith; made = All-push (IsVisited floor window) [] v (All-nil (IsVisited floor window)) visit; told = λ time. refl }

-- some, and more
pub both_visits : (floor window least more : ℕ) → AreVisits floor window least → AreVisits floor window more → AreVisits floor window (min least more)
both_visits floor window least more first second = record {
  visits = first.visits ++ second.visits;
  some = omega (arith, length-append first.visits second.visits, first.some);
  made = All-append (IsVisited floor window) first.visits second.visits first.made second.made;
  told = λ time. fold-append (λ (n : ℕ) (u : Visited). min n u.least) time first.visits second.visits
      ∙ (ap (λ n. lowered n second.visits) (first.told time) ∙ (second.told (min time least) ∙ sym (min_assoc time least more)));
}

-- a block is drawn, and the least time that visits told is kept to be reported
pub visited_more : (round : RoundId) (floor window block kept least : ℕ) (s drawn : SeatView) → HasPlayed round floor window (record s { least = min s.least kept }) →
    drawn ≡ record s { draws = s.draws ++ block ∷ [] } → AreVisits floor window least →
    HasPlayed round floor window (record drawn { least = min drawn.least (min kept least) })
visited_more round floor window block kept least s drawn before draw more =
    let draws : drawn.draws ≡ s.draws ++ block ∷ [] = ap (λ (u : SeatView). u.draws) draw in
    record {
      visits = before.visits ++ more.visits;
      visited = record {
        ours = ap (λ (u : SeatView). u.round) draw ∙ before.visited.ours;
        made = All-append (IsVisited floor window) before.visits more.visits before.visited.made more.made;
        told = ap (λ (u : SeatView). min u.least (min kept least)) draw ∙ (min_assoc s.least kept least ∙ (ap (λ n. min n least) before.visited.told
            ∙ (sym (more.told (least_told before.visits)) ∙ sym (fold-append (λ (n : ℕ) (u : Visited). min n u.least) never before.visits more.visits))));
      };
      each = omega (arith, length-append before.visits more.visits, length-append s.draws (block ∷ []), ap length draws, before.each, more.some);
    }

-- no block is left, and the time that was kept is reported
pub visited_over : (blocks : ℕ) (round : RoundId) (floor window kept : ℕ) (s drawn new : SeatView) (fault : Option RunFault) →
    HasPlayed round floor window (record s { least = min s.least kept }) →
    drawn ≡ record s { marked = true } → new ≡ record drawn { least = min drawn.least kept } → fault ≡ None → IsOver blocks round floor window new fault
visited_over blocks round floor window kept s drawn new fault before mark report well =
    let over : IsPlayedOut round floor window new = (
      record {
        visits = before.visits;
        visited = record {
          ours = ap (λ (u : SeatView). u.round) report ∙ (ap (λ (u : SeatView). u.round) mark ∙ before.visited.ours);
          made = before.visited.made;
          told = ap (λ (u : SeatView). u.least) report ∙ (ap (λ (u : SeatView). min u.least kept) mark ∙ before.visited.told);
        };
        each = omega (arith, before.each, ap (λ (u : SeatView). length u.draws) report, ap (λ (u : SeatView). length u.draws) mark);
      },
      ap (λ (u : SeatView). u.marked) report ∙ ap (λ (u : SeatView). u.marked) mark,
    ) in
    subst (IsOver blocks round floor window new) (sym well) over

-- a block is drawn, and its visit meets a fault
pub visited_faulty : (blocks : ℕ) (round : RoundId) (floor window number kept : ℕ) (s drawn : SeatView) (fault : RunFault) → HasPlayed round floor window (record s { least = min s.least kept }) →
    drawn ≡ record s { draws = s.draws ++ number ∷ [] } → IsWorkFault blocks floor window fault → IsOver blocks round floor window drawn (Some fault)
visited_faulty blocks round floor window number kept s drawn fault before draw met = (ap (λ (u : SeatView). u.round) draw ∙ before.visited.ours, met)

-- a round over the blocks some times, or once
pub over_laps : (blocks laps draws : ℕ) (round : RoundId) → (draws ≡ blocks * laps) ⊎ (draws ≡ blocks) → round.blocks ≡ draws → HasLaps blocks round
over_laps blocks laps draws round (inl many) is = record { laps = laps; each = is ∙ many }
over_laps blocks laps draws round (inr once) is = record { laps = 1; each = is ∙ (once ∙ sym (mul-one blocks)) }

-- where a number is drawn there is a block
pub some_block : (blocks number : ℕ) (round : RoundId) → HasLaps blocks round → number < round.blocks → 0 < blocks
some_block zero number round over drawn = absurd (let none : round.blocks ≡ 0 = over.each ∙ zero-mul over.laps in omega (arith, none))
some_block (suc n) number round over drawn = omega arith

-- ---- a round's end

-- a least number that isn't past another one is its start, or that of an item
least_in : {A : Type 0} (f : A → ℕ) (P : A → Type 0) (Q : Type 0) (most : ℕ) → ((x : A) → P x → f x ≤ most → Q) → (start : ℕ) (xs : List A) → All P xs →
    fold (λ (n : ℕ) (x : A). min n (f x)) start xs ≤ most → (start ≤ most) ⊎ Q
least_in f P Q most one start [] all low = inl low
least_in f P Q most one start (x ∷ xs) all low =
    elim (least_in f P Q most one (min start (f x)) xs (All-tail P x xs all) low) [
      | inl first ↦ elim (lesser start (f x) first) [ inl here ↦ inl here | inr there ↦ inr (one x (All-head P x xs all) there) ]
      | inr found ↦ inr found
    ]
  where
    lesser : (a b : ℕ) → min a b ≤ most → (a ≤ most) ⊎ (b ≤ most)
    lesser a b h = grind arith

stalled_seat : (round : RoundId) (floor window : ℕ) → floor < never → (s : SeatView) → IsPlayedOut round floor window s → s.least ≤ floor → IsStall floor window
stalled_seat round floor window before s (played, marked) low =
    elim (least_in (λ (v : Visited). v.least) (IsVisited floor window) (IsStall floor window) floor
    (λ v made past. record { sent = v.sent; least = v.least; visit = made; back = past }) never played.visits played.visited.made
    (subst (λ (n : ℕ). n ≤ floor) played.visited.told low)) [
      | inl none ↦ absurd (omega arith)
      | inr stall ↦ stall
    ]

-- where visits told a least time that isn't past the floor, one of them told it
pub visits_stall : (floor window least : ℕ) → floor < never → AreVisits floor window least → least ≤ floor → IsStall floor window
visits_stall floor window least before are low =
    elim (least_in (λ (v : Visited). v.least) (IsVisited floor window) (IsStall floor window) floor
    (λ v made past. record { sent = v.sent; least = v.least; visit = made; back = past }) never are.visits are.made
    (subst (λ (n : ℕ). n ≤ floor) (sym (are.told never)) (omega arith))) [
      | inl none ↦ absurd (omega arith)
      | inr stall ↦ stall
    ]

-- where the least time that is told isn't past the floor, a visit told it
pub stalled_round : (round : RoundId) (floor window : ℕ) → floor < never → (seats : List SeatView) → All (IsPlayedOut round floor window) seats →
    least_of seats ≤ floor → IsStall floor window
stalled_round round floor window before seats all low =
    elim (least_in (λ (s : SeatView). s.least) (IsPlayedOut round floor window) (IsStall floor window) floor (stalled_seat round floor window before) never seats all low) [
      | inl none ↦ absurd (omega arith)
      | inr stall ↦ stall
    ]

-- the end of a round refuses no seats that are all there and played out
pub never_refused : (r : RoundView) (round : RoundId) (floor window : ℕ) (seats : List SeatView) (fault : EndFault) → 1 ≤ r.seats → length seats ≡ r.seats →
    All (IsPlayedOut round floor window) seats → IsEnd r seats (Err fault) → ⊥
never_refused r round floor window seats WrongSeats some count all missing = absurd (omega arith)
never_refused r round floor window [] Undrawn some count all end = absurd (omega arith)
never_refused r round floor window (s ∷ seats) Undrawn some count all end =
    true≢false (sym (All-head (IsPlayedOut round floor window) s seats all).1 ∙ All-head IsUnmarked s seats end.2)

-- What a round plays, event by event.
use Rattle.std.proofs.Common.{◌≡◌, ℕ, suc, ◌+◌, ◌<◌, Result, Ok, Err, OnOk, OnErr, IfErr, List, length, get_or, inr, refl, subst, arith}
use Rattle.warp_core.specs.declared.event.Event.TheVariants.{Advance, Commit}
use Rattle.warp_core.specs.declared.event.PlayFault.{PlayFault}
use Rattle.warp_core.specs.declared.event.PlayFault.TheVariants.{NoSuchBlock, NoSuchMessage, Memory}
use Rattle.warp_core.specs.Drive.{IsOrder, IsRaised, flying_to, IsReached, AreReached, IsTurn, AreTurns, IsRound, IsTurnBegun, IsRoundBegun, IsUnfinished, AreRounds}
use Rattle.warp_core.specs.Inner.Turns.{AreTurned, AreTurnsBegun}
use Rattle.warp_core.specs.Play.{IsSameCourse, IsPlayed, IsRefused, IsAfterRefusal}
use Rattle.warp_core.specs.Played.{IsStep}
use Rattle.warp_core.specs.World.{Scene, IsBefore, IsLawfulWorld}
use Rattle.warp_core.proofs.Driving.{raised}

-- what is so is so of an error
pub on_err : {A E : Type 0} (r : Result A E) (P : Type 0) → P → OnErr r P
on_err (Ok x) P p = tt
on_err (Err e) P p = p

-- ---- messages that reach a block

pub none_reached : (b : ℕ) (w : Scene) → AreReached b 0 w w
unfolding AreReached
none_reached b w = refl

pub one_reached : (b count : ℕ) (old middle new : Scene) → AreReached b count old middle → IsReached b middle new → AreReached b (suc count) old new
unfolding AreReached
one_reached b count old middle new before one = (middle, before, one)

-- ---- turns

pub turn_is : (b : ℕ) (old heard new : Scene) → AreReached b (flying_to b old.flight) old heard → IsLawfulWorld new → (r : Result (Unit {0}) PlayFault) → OnOk r (IsPlayed heard new (Advance b 1)) → OnOk r (IsTurn b old new)
turn_is b old heard new reached law (Ok u) played = record { heard = heard; reached = reached; step = record { played = played; law = law } }
turn_is b old heard new reached law (Err e) played = tt

pub turn_begun : (b : ℕ) (old heard new : Scene) → AreReached b (flying_to b old.flight) old heard → b < heard.cut.blocks → (r : Result (Unit {0}) PlayFault) → IfErr r (IsRefused heard (Advance b 1)) → IfErr r (IsAfterRefusal heard new (Advance b 1)) →
    OnErr r (IsTurnBegun b old new)
turn_begun b old heard new reached within (Ok u) refused after = tt
turn_begun b old heard new reached within (Err NoSuchBlock) refused after = absurd (omega (arith, within, refused))
turn_begun b old heard new reached within (Err NoSuchMessage) refused after = absurd refused
turn_begun b old heard new reached within (Err Memory) refused after = inr (heard, reached, after)

-- ---- rounds

turns_more : (order : List ℕ) (count : ℕ) (old middle new : Scene) → AreTurns order count old middle → IsTurn (get_or order count 0) middle new → AreTurns order (suc count) old new
unfolding AreTurns
turns_more order count old middle new turns turn = (middle, turns, turn)

pub turns_next : (order : List ℕ) (count : ℕ) (old middle new : Scene) → AreTurns order count old middle → IsTurn (get_or order count 0) middle new → AreTurns order (count + 1) old new
turns_next order count old middle new turns turn = subst (λ (k : ℕ). AreTurns order k old new) (next count) (turns_more order count old middle new turns turn)
  where
    next : (k : ℕ) → suc k ≡ k + 1
    next k = omega arith

pub round_is : (order : List ℕ) (old committed new : Scene) → IsStep Commit old committed → (r : Result (Unit {0}) PlayFault) → OnOk r (AreTurned order (length order) committed new) → OnOk r (IsRound order old new)
round_is order old committed new step (Ok u) turned = record { committed = committed; step = step; turns = turned.turns }
round_is order old committed new step (Err e) turned = tt

pub round_begun : (order : List ℕ) (old committed new : Scene) → IsStep Commit old committed → (r : Result (Unit {0}) PlayFault) → OnErr r (AreTurnsBegun order committed new) → OnErr r (IsRoundBegun order old new)
round_begun order old committed new step (Ok u) begun = tt
round_begun order old committed new step (Err e) begun = record { committed = committed; step = step; count = begun.count; within = begun.within; turned = begun.turned; turns = begun.turns; begun = begun.begun }

-- after a turn of each block the least time is higher
pub round_raised : (order : List ℕ) (old committed new : Scene) → IsSameCourse old new → IsLawfulWorld new → ((s : ℕ) → IsBefore old s → IsBefore committed s) → ((s : ℕ) → IsBefore old s → IsBefore new s) → IsOrder old.cut.blocks order →
    (r : Result (Unit {0}) PlayFault) → OnOk r (AreTurned order (length order) committed new) → OnOk r (IsRaised old new)
round_raised order old committed new course law never after is (Ok u) turned = raised old new course law after order is (λ t k h l. turned.past t k (never t h) l)
round_raised order old committed new course law never after is (Err e) turned = tt

-- ---- rounds until nothing is left

pub no_rounds : (order : List ℕ) (w : Scene) → AreRounds order 0 w w
unfolding AreRounds
no_rounds order w = refl

one_round : (order : List ℕ) (count : ℕ) (start middle new : Scene) → AreRounds order count start middle → IsUnfinished middle → IsRound order middle new → AreRounds order (suc count) start new
unfolding AreRounds
one_round order count start middle new before left round = (middle, before, left, round)

pub rounds_more : (order : List ℕ) (count : ℕ) (start middle new : Scene) → AreRounds order count start middle → IsUnfinished middle → IsRound order middle new → AreRounds order (count + 1) start new
rounds_more order count start middle new before left round = subst (λ (k : ℕ). AreRounds order k start new) (next count) (one_round order count start middle new before left round)
  where
    next : (k : ℕ) → suc k ≡ k + 1
    next k = omega arith

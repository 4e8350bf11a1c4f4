-- Events are played one after the other, and what comes of it.
use Rattle.std.proofs.Common.{◌≡◌, Some, IfOk, IfErr, slice_get, ℕ, ◌+◌, ◌<◌, ◌≤◌, List, [], ◌∷◌, ◌++◌, length, take, get_or, Option, Result, Ok, Err, Vec, refl, sym, ◌∙◌, subst}
use Rattle.std.specs.declared.alloc.Global.{Global}
use Rattle.std.proofs.lemmas.List.{take_more, take_all}
use Rattle.std.proofs.lemmas.Option.{slice_get-get_or}
use Rattle.gate_netlist.specs.Circuit.{Design}
use Rattle.gate_netlist.specs.Cut.{Ownership}
use Rattle.gate_stimulus.specs.Given.{Given}
use Rattle.warp_core.specs.declared.event.Event.{Event}
use Rattle.warp_core.specs.declared.event.Event.TheVariants.{Deliver, Advance, Commit}
use Rattle.warp_core.specs.declared.event.PlayFault.{PlayFault}
use Rattle.warp_core.specs.declared.event.PlayFault.TheVariants as play
use Rattle.warp_core.specs.World.{Scene, IsLeastTime, IsLawfulWorld, IsStart}
use Rattle.warp_core.specs.Play.{IsPlayed, IsRefused, IsSameCourse}
use Rattle.warp_core.specs.Played.{IsStep, ArePlayed}
use Rattle.warp_text.specs.Inner.FaultLines.{event_fault}
use Rattle.warp_text.specs.Replay.{AreComplete, Stops, Plays, IsReplay}
use Rattle.warp_text.specs.Inner.Replay.{IsReplayed}
use Rattle.warp_text.specs.Answer.{IsCircuitOf}
use Rattle.warp_text.specs.declared.fault.Fault.{Fault}
use Rattle.warp_text.specs.declared.fault.Fault.TheVariants as faults

pub nothing_played : (w : Scene) → ArePlayed w [] w
unfolding ArePlayed
nothing_played w = refl

played_more : (events : List Event) (event : Event) (old middle new : Scene) → ArePlayed old events middle → IsStep event middle new → ArePlayed old (events ++ event ∷ []) new
unfolding ArePlayed
played_more [] event old middle new e h = (new, subst (λ (w : Scene). IsStep event w new) e h, refl)
played_more (first ∷ events) event old middle new (between, h, more) last = (between, h, played_more events event between middle new more last)

-- one event more is played
pub played_next : (events : List Event) (place : ℕ) (d : Event) (old middle new : Scene) → place < length events
    → ArePlayed old (take place events) middle → IsPlayed middle new (get_or events place d) → IsLawfulWorld new → ArePlayed old (take (place + 1) events) new
played_next events place d old middle new within before next law =
    rw (take_more events place d within) (played_more (take place events) (get_or events place d) old middle new before (record { played = next; law = law }))

-- no event is left
pub all_played : (events : List Event) (place : ℕ) (old new : Scene) → length events ≤ place → ArePlayed old (take place events) new → ArePlayed old events new
all_played events place old new none played = rw (take_all place events none) at played

-- an event is refused after those before it
pub stopped_at : (start : Scene) (events : List Event) (place : ℕ) (d : Event) (world : Scene) (cause : PlayFault) → place < length events
    → ArePlayed start (take place events) world → IsRefused world (get_or events place d) cause → Stops start events (event_fault (place + 1) cause)
stopped_at start events place d world play.NoSuchBlock within before h =
    record { place = place; event = get_or events place d; world = world; number_is = refl; event_is = slice_get-get_or events place d within; played = before; refused = h; cause_is = λ e. cc }
stopped_at start events place d world play.NoSuchMessage within before h =
    record { place = place; event = get_or events place d; world = world; number_is = refl; event_is = slice_get-get_or events place d within; played = before; refused = h; cause_is = λ e. cc }
stopped_at start events place d world play.Memory within before h = tt

-- ---- what no event changes

one_course : (event : Event) (old new : Scene) → IsPlayed old new event → IsSameCourse old new
one_course (Deliver place) old new h = h.course
one_course (Advance b steps) old new h = h.1.course
one_course Commit old new h = h.course

pub same_course : (events : List Event) (old new : Scene) → ArePlayed old events new → IsSameCourse old new
unfolding ArePlayed
same_course [] old new e = rw e (record { circuit = refl; cut = refl; stimulus = refl; horizon = refl })
same_course (event ∷ events) old new (middle, h, more) =
    let first = one_course event old middle h.played in
    let rest = same_course events middle new more in
    record { circuit = rest.circuit ∙ first.circuit; cut = rest.cut ∙ first.cut; stimulus = rest.stimulus ∙ first.stimulus; horizon = rest.horizon ∙ first.horizon }

-- ---- the end of a play

-- what stops after events stops by them
pub stopped_after : (start world : Scene) (events : List Event) (fault : Fault) → ArePlayed start events world → Stops world [] fault → Stops start events fault
unfolding ArePlayed
stopped_after start world events (faults.Event number cause) played h = absurd (no_event h.event_is)
  where
    no_event : {event : Event} → slice_get {X = Event} [] h.place ≡ Some event → ⊥
    no_event e = cc
stopped_after start world events (faults.Unfinished time) played h =
    record { world = h.world; played = subst (λ (w : Scene). ArePlayed start events w) (sym h.played) played; least = h.least; within = h.within }
stopped_after start world events faults.Memory played h = tt
stopped_after start world events (faults.Bench f) played h = absurd h
stopped_after start world events (faults.Settings f) played h = absurd h
stopped_after start world events (faults.Only f) played h = absurd h
stopped_after start world events (faults.Stimulus f) played h = absurd h
stopped_after start world events (faults.Schedule f) played h = absurd h
stopped_after start world events (faults.Run f) played h = absurd h

pub plays_stopped : (X : Type 0) (d : Design) (cut : Ownership) (g : Given) (until : ℕ) (events : List Event) (start : Scene) (fault : Fault)
    → IsStart d cut g until start → Stops start events fault → Plays {X = X} d cut g until events (Err fault)
plays_stopped X d cut g until events start (faults.Event number cause) is h = (start, is, h)
plays_stopped X d cut g until events start (faults.Unfinished time) is h = (start, is, h)
plays_stopped X d cut g until events start faults.Memory is h = tt
plays_stopped X d cut g until events start (faults.Bench f) is h = absurd h
plays_stopped X d cut g until events start (faults.Settings f) is h = absurd h
plays_stopped X d cut g until events start (faults.Only f) is h = absurd h
plays_stopped X d cut g until events start (faults.Stimulus f) is h = absurd h
plays_stopped X d cut g until events start (faults.Schedule f) is h = absurd h
plays_stopped X d cut g until events start (faults.Run f) is h = absurd h

pub complete : (start world : Scene) (events : List Event) (until : ℕ) → ArePlayed start events world → world.horizon ≡ until → IsLeastTime world (until + 1) → AreComplete start events
complete start world events until played e least =
    record { world = world; played = played; least = subst (λ (t : ℕ). IsLeastTime world (t + 1)) (sym e) least }

-- what a play from the start answers, by what its end does
pub plays_through : (X : Type 0) (d : Design) (cut : Ownership) (g : Given) (until : ℕ) (events : List Event) (start world : Scene) (result : Result X Fault)
    → IsStart d cut g until start → ArePlayed start events world → world.horizon ≡ until
    → IfOk result (λ _. IsLeastTime world (until + 1)) → IfErr result (Stops world []) → Plays {X = X} d cut g until events result
plays_through X d cut g until events start world (Ok x) is played e least h = (start, is, complete start world events until played e least)
plays_through X d cut g until events start world (Err fault) is played e least h = plays_stopped X d cut g until events start fault is (stopped_after start world events fault played h)

-- what is answered to a stimulus and a schedule over the circuit of two texts is answered to all four
pub replayed : (bench text stimulus schedule : List ℕ) (blocks : Option ℕ) (until : ℕ) (d : Design) (result : Result (Vec ℕ Global) Fault)
    → IsCircuitOf bench text d → IsReplayed d stimulus schedule blocks until result → IsReplay bench text stimulus schedule blocks until result
unfolding IsReplay
replayed bench text stimulus schedule blocks until d (Ok dump) is (r, read, events, listed, rest) = (d, is, r, read, events, listed, rest)
replayed bench text stimulus schedule blocks until d (Err (faults.Event number cause)) is (r, read, events, listed, rest) = (d, is, r, read, events, listed, rest)
replayed bench text stimulus schedule blocks until d (Err (faults.Unfinished time)) is (r, read, events, listed, rest) = (d, is, r, read, events, listed, rest)
replayed bench text stimulus schedule blocks until d (Err (faults.Schedule f)) is (r, read, bad) = (d, is, r, read, bad)
replayed bench text stimulus schedule blocks until d (Err (faults.Stimulus f)) is read = (d, is, read)
replayed bench text stimulus schedule blocks until d (Err faults.Memory) is h = tt
replayed bench text stimulus schedule blocks until d (Err (faults.Bench f)) is h = absurd h
replayed bench text stimulus schedule blocks until d (Err (faults.Settings f)) is h = absurd h
replayed bench text stimulus schedule blocks until d (Err (faults.Run f)) is h = absurd h
replayed bench text stimulus schedule blocks until d (Err (faults.Only f)) is h = absurd h

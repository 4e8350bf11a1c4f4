-- Blocks that have nothing left to do, with nothing in flight, are matched.
use Rattle.std.proofs.Common.{◌≡◌, ◌≢◌, ℕ, ◌+◌, ◌<◌, ◌≤◌, ◌&&◌, not, is_some, Bool, true, false, IsTrue, Option, Some, None, Result, Ok, Err, IfErr, List, [], ◌∷◌, inl, inr, refl, ap, sym, ◌∙◌, subst, arith}
use Rattle.std.proofs.lemmas.Bool.{cases_Bool, cases_lt, ne_eqb, and_from}
use Rattle.gate_values.specs.declared.logic.Logic.{Logic}
use Rattle.gate_values.specs.declared.logic.Logic.TheVariants.{X}
use Rattle.gate_values.specs.declared.logic.Change.{Change}
use Rattle.gate_values.specs.Changes.{pair_at, before_time}
use Rattle.gate_netlist.specs.Circuit.{driver_of, is_input as is_input_driver}
use Rattle.gate_netlist.specs.Cut.{IsOwnership, owner_of}
use Rattle.gate_stimulus.specs.Given.{AreItsChanges, changes_of}
use Rattle.net_waves.specs.Waves.{IsWaveFrom, end_time}
use Rattle.warp_process.specs.Entries.{effective_of, no_messages, is_settled}
use Rattle.warp_part.specs.PartOf.{part_of, part_nets}
use Rattle.warp_part.specs.Portion.{Portion, slot_of, owns, reads, hears, is_input}
use Rattle.warp_process.specs.View.{View, entry_of, log_of}
use Rattle.warp_core.proofs.Mapped.{in_map}
use Rattle.warp_process.proofs.Settled.{settled-none}
use Rattle.warp_core.specs.declared.fault.GatherFault.{GatherFault}
use Rattle.warp_core.specs.declared.fault.GatherFault.TheVariants.{WrongCount, WrongPart, Unfinished, Unsettled, Mismatch, Memory}
use Rattle.warp_core.specs.Gather.{IsFault, IsGathered}
use Rattle.warp_core.specs.Matched.{seen_at, AreMatched, told_by, told_of, IsTold}
use Rattle.warp_core.specs.World.{Scene, IsBefore, IsLeastTime, IsLawfulWorld}
use Rattle.warp_core.proofs.CommittedAll.{owner_below}
use Rattle.warp_core.proofs.Finished.{log_wave, given_wave}
use Rattle.warp_core.proofs.Hearing.{heard_from}
use Rattle.warp_core.proofs.Parts.{net_within}
use Rattle.warp_core.proofs.Settling.{settled_below, heard_entry, input_entry, effective_for}

-- past its end a wave has no changes
none_late : (from : ℕ) (before : Logic) (cs : List Change) (t : ℕ) → IsWaveFrom from before cs → end_time from cs ≤ t → pair_at cs t ≡ None
none_late from before [] t w h = refl
none_late from before (c ∷ cs) t w h =
    let end = end_after (c.time + 1) c.value cs w.2 in
    let ne : c.time ≢ t = omega (arith, end, h) in
    rw (ne_eqb c.time t ne) (none_late (c.time + 1) c.value cs t w.2 h)
  where
    end_after : (from : ℕ) (before : Logic) (cs : List Change) → IsWaveFrom from before cs → from ≤ end_time from cs
    end_after from before [] w = omega arith
    end_after from before (c ∷ cs) w = (let l = end_after (c.time + 1) c.value cs w.2 in omega (arith, l, w.0))

module _ (w : Scene) (law : IsLawfulWorld w) (owners : IsOwnership w.cut) (given : (n : ℕ) → AreItsChanges (changes_of w.stimulus n)) (before : IsBefore w (w.horizon + 1)) where
  abbrev view : ℕ → View
  view b = seen_at w.blocks b

  none_past : (b n t : ℕ) → b < w.cut.blocks → w.horizon < t → entry_of (view b) n t ≡ no_messages
  none_past b n t within past = (law.lawful b within).within n t (subst (λ (k : ℕ). k < t) (sym (law.parts b within).horizon_is) past)

  settled : (b n t : ℕ) → b < w.cut.blocks → is_settled (entry_of (view b) n t) ≡ true
  settled b n t within = elim (cases_lt w.horizon t) [
    | inl past ↦ ap is_settled (none_past b n t within past) ∙ settled-none
    | inr early ↦ settled_below w law (owner_below w.cut owners) (w.horizon + 1) before b n t within (omega (arith, early))
  ]

  told_input : (b n : ℕ) → b < w.cut.blocks → is_input (part_of w.circuit w.cut b) n ≡ true → is_some (slot_of (part_nets w.circuit w.cut b) n) ≡ true →
      IsTold (view b) n (told_of w.cut w.stimulus w.horizon w.blocks n)
  told_input b n within input there t =
      let inner : is_input_driver (driver_of w.circuit n) ≡ true = sym (in_map (part_nets w.circuit w.cut b) (λ m. is_input_driver (driver_of w.circuit m)) false n there) ∙ input in
      let none : is_some (owner_of w.cut n) ≡ false = law.fits.owned n (net_within w.circuit w.cut law.fits b n there) ∙ ap not inner in
      let told : told_of w.cut w.stimulus w.horizon w.blocks n ≡ before_time (w.horizon + 1) (changes_of w.stimulus n) = ap (told_by w.stimulus w.horizon w.blocks n) (no_owner (owner_of w.cut n) none) in
      elim (cases_lt w.horizon t) [
        | inl past ↦
            (let wave = given_wave (changes_of w.stimulus n) w.horizon law.horizon (given n) in
            ap effective_of (none_past b n t within past) ∙ sym (ap (λ cs. pair_at cs t) told ∙ none_late 0 X (before_time (w.horizon + 1) (changes_of w.stimulus n)) t wave.0 (let l = wave.1 in omega (arith, l, past))))
        | inr early ↦
            ap effective_of (input_entry w law (owner_below w.cut owners) (w.horizon + 1) before b n t within (omega (arith, early)) input there)
            ∙ (effective_for (pair_at (before_time (w.horizon + 1) (changes_of w.stimulus n)) t) ∙ ap (λ cs. pair_at cs t) (sym told))
      ]
    where
      no_owner : (o : Option ℕ) → is_some o ≡ false → o ≡ None
      no_owner None e = refl
      no_owner (Some x) e = absurd cc

  told_heard : (b n o : ℕ) → b < w.cut.blocks → hears (part_of w.circuit w.cut b) n ≡ true → owner_of w.cut n ≡ Some o → IsTold (view b) n (told_of w.cut w.stimulus w.horizon w.blocks n)
  told_heard b n o within heard owned t =
      let told : told_of w.cut w.stimulus w.horizon w.blocks n ≡ log_of (view o) n = ap (told_by w.stimulus w.horizon w.blocks n) owned in
      elim (cases_lt w.horizon t) [
        | inl past ↦
            (let o_in = owner_below w.cut owners n o owned in
            let wave = log_wave (view o) (law.lawful o o_in) n in
            let same : (view o).horizon ≡ w.horizon = (law.parts o o_in).horizon_is in
            ap effective_of (none_past b n t within past) ∙ sym (ap (λ cs. pair_at cs t) told ∙ none_late 0 X (log_of (view o) n) t wave.0 (let l = wave.1 in omega (arith, l, past, same))))
        | inr early ↦
            ap effective_of (heard_entry w law (owner_below w.cut owners) (w.horizon + 1) before b n t within (omega (arith, early)) heard o owned)
            ∙ (effective_for (pair_at (log_of (view o) n) t) ∙ ap (λ cs. pair_at cs t) (sym told))
      ]

  told : (b n : ℕ) → b < w.cut.blocks → IsTrue (reads (view b).part n) → IsTold (view b) n (told_of w.cut w.stimulus w.horizon w.blocks n)
  told b n within r =
      let read : reads (part_of w.circuit w.cut b) n ≡ true = subst (λ (q : Portion). reads q n ≡ true) (law.parts b within).part r in
      let there : is_some (slot_of (part_nets w.circuit w.cut b) n) ≡ true = left_of (is_some (slot_of (part_nets w.circuit w.cut b) n)) (not (owns (part_of w.circuit w.cut b) n)) read in
      elim (cases_Bool (is_input (part_of w.circuit w.cut b) n)) [
        | inl input ↦ told_input b n within input there
        | inr inner ↦
            (let heard = and_from (reads (part_of w.circuit w.cut b) n) (not (is_input (part_of w.circuit w.cut b) n)) read (ap not inner) in
            let from = heard_from w.circuit w.cut law.fits b n heard in
            told_heard b n from.owner within heard from.owned)
      ]
    where
      left_of : (a b : Bool) → (a && b) ≡ true → a ≡ true
      left_of true b h = refl
      left_of false b h = absurd cc

  pub world_matched : AreMatched w.circuit w.cut w.stimulus w.horizon w.blocks
  world_matched = record {
    count = law.count;
    parts = law.parts;
    done = λ b within t event.
        (let l = before.events b t within event in
        let end = event.1 in
        let same : (view b).horizon ≡ w.horizon = (law.parts b within).horizon_is in
        absurd (omega (arith, l, end, same)));
    settled = λ b within n t. settled b n t within;
    told = λ b within n r. told b n within r;
  }

  -- so they are gathered, if there is memory
  pub only_memory : (cause : GatherFault) → IsFault w.circuit w.cut w.stimulus w.horizon w.blocks cause → cause ≡ Memory
  only_memory WrongCount h = absurd (h world_matched.count)
  only_memory (WrongPart b) h = absurd (h.1.1.fails (world_matched.parts b h.1.0))
  only_memory (Unfinished b) h = absurd (h.2.1.fails (world_matched.done b h.2.0))
  only_memory (Unsettled b n t) h = absurd (h.3.1.fails (world_matched.settled b h.3.0))
  only_memory (Mismatch b n) h = absurd (h.4.1.fails (world_matched.told b h.4.0))
  only_memory Memory h = refl

-- what is gathered of such a world
pub gathered_whole : (w : Scene) → IsLawfulWorld w → IsOwnership w.cut → ((n : ℕ) → AreItsChanges (changes_of w.stimulus n)) → (r : Result (List (List Change)) GatherFault) →
    IsGathered w.circuit w.cut w.stimulus w.horizon w.blocks r → IsLeastTime w (w.horizon + 1) → IfErr r (λ cause. cause ≡ Memory)
gathered_whole w law owners given (Ok waves) h least = tt
gathered_whole w law owners given (Err cause) h least = only_memory w law owners given least.before cause h

-- All blocks of a world commit at its least time.
use Rattle.std.proofs.Common.{◌≡◌, ℕ, ◌<◌, ◌≤◌, ◌==◌, cond, Option, Some, List, length, get_or, inl, inr, ap, sym, ◌∙◌, subst, arith}
use Rattle.std.specs.List.{list_any}
use Rattle.std.specs.Option.{IfSome}
use Rattle.std.proofs.lemmas.Bool.{eqb-true}
use Rattle.std.proofs.lemmas.List.Folds.{Any-from_list_any}
use Rattle.gate_values.specs.declared.logic.Change.{Change}
use Rattle.gate_netlist.specs.Cut.{Ownership, IsOwnership, owner_of}
use Rattle.warp_process.specs.declared.message.Message.{Message}
use Rattle.warp_process.specs.Commit.{IsCommittable, IsCommitted}
use Rattle.warp_process.specs.Entries.{number_of}
use Rattle.warp_process.specs.Lawful.{IsLawful}
use Rattle.warp_process.specs.Sends.{Place, is_change}
use Rattle.warp_process.specs.View.{Process}
use Rattle.warp_core.specs.Matched.{no_process, seen_at, EachBlock}
use Rattle.warp_core.specs.World.{Scene, number_at, logged, logged_by, AreAccounted, IsBefore, IsLeft, IsLeastTime, IsLawfulWorld}
use Rattle.warp_core.proofs.Acted.{scene_with}
use Rattle.warp_core.proofs.Hearing.{heard_from}
use Rattle.warp_core.proofs.Settling.{settled_below}

-- what is before all that is left isn't later than some of it
pub before_left : (w : Scene) (s t : ℕ) → IsBefore w s → IsLeft w t → s ≤ t
before_left w s t h left = elim left [
  | inl event ↦ h.events event.0 t event.1 event.2
  | inr more ↦ (elim more [
    | inl flies ↦
        (let (k, m, l, at, e) = Any-from_list_any (λ (m : Message). m.time == t) w.flight flies in
        let is = eqb-true m.time t e in
        let below : s ≤ (get_or w.flight k m).time = h.flight k m l in
        let same : (get_or w.flight k m).time ≡ m.time = ap (λ (x : Message). x.time) at in
        omega (arith, below, same, is))
    | inr end ↦ (let l = h.end in omega (arith, l, end))
  ])
]

pub owner_below : (cut : Ownership) → IsOwnership cut → (n o : ℕ) → owner_of cut n ≡ Some o → o < cut.blocks
owner_below cut owners n o e = let P : Option ℕ → Type 0 = λ k. IfSome k (λ b. b < cut.blocks) in subst P e (owners.owned n)

module _ (w : Scene) (law : IsLawfulWorld w) (owners : IsOwnership w.cut) (time : ℕ) (least : IsLeastTime w time) where
  -- every block can
  pub committable : (b : ℕ) → b < w.cut.blocks → IsCommittable (seen_at w.blocks b) time
  committable b within = record {
    forward = before_left w (seen_at w.blocks b).floor time (law.floors b within) least.left;
    processed = λ t below. (let l = least.before.events b t within below.1 in let early = below.0 in absurd (omega (arith, l, early)));
    settled = λ n t below. below.1 (settled_below w law (owner_below w.cut owners) time least.before b n t within below.0);
  }

  module _ (new : List Process) (count : length new ≡ length w.blocks)
      (committed : (b : ℕ) → b < w.cut.blocks → IsCommitted (get_or w.blocks b no_process) (get_or new b no_process) time)
      (lawful : EachBlock w.cut new (λ _ v. IsLawful v)) where
    same_numbers : (p : Place) → p.block < w.cut.blocks → number_at new p ≡ number_at w.blocks p
    same_numbers p within = ap (λ e. number_of e p.value) ((committed p.block within).entries p.net p.time)

    same_logged : (p : Place) (o : ℕ) → owner_of w.cut p.net ≡ Some o → logged w.cut new p ≡ logged w.cut w.blocks p
    same_logged p o is =
        let first : logged w.cut new p ≡ logged_by new p (Some o) = ap (logged_by new p) is in
        let last : logged w.cut w.blocks p ≡ logged_by w.blocks p (Some o) = ap (logged_by w.blocks p) is in
        let log : logged_by new p (Some o) ≡ logged_by w.blocks p (Some o) = ap (λ (cs : List Change). cond (list_any (is_change p) cs) 1 0) ((committed o (owner_below w.cut owners p.net o is)).logs p.net) in
        first ∙ (log ∙ sym last)

    account : AreAccounted w.circuit w.cut (number_at new) new w.flight
    account p heard =
        let from = heard_from w.circuit w.cut law.fits p.block p.net heard.net in
        let held = law.account p heard in
        let number = same_numbers p heard.block in
        let log = same_logged p from.owner from.owned in
        rw (number, log) held

    -- nothing has come, or gone
    pub committed_before : (s : ℕ) → IsBefore w s → IsBefore (scene_with w new w.flight) s
    committed_before s h = record {
      events = λ b u within event. h.events b u within (((committed b within).events u).0 event);
      flight = h.flight;
      end = h.end;
    }

    pub committed_lawful : IsLawfulWorld (scene_with w new w.flight)
    committed_lawful = record {
      fits = law.fits;
      given = law.given;
      horizon = law.horizon;
      count = count ∙ law.count;
      parts = λ b within. (let is = law.parts b within in record { part = (committed b within).part ∙ is.part; horizon_is = (committed b within).horizon ∙ is.horizon_is });
      lawful = lawful;
      account = account;
      inputs = λ b n t within input. (committed b within).entries n t ∙ law.inputs b n t within input;
      flight = law.flight;
      floors = λ b within. subst (IsBefore (scene_with w new w.flight)) (sym (committed b within).floor) (committed_before time least.before);
    }

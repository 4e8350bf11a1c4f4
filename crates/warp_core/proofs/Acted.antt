-- What one block does keeps a world lawful, and nothing that is left to do comes earlier.
use Rattle.std.proofs.Common.{◌≡◌, ℕ, ◌<◌, ◌≤◌, ◌++◌, IsTrue, List, inl, inr, refl, ap, sym, ◌∙◌, subst}
use Rattle.std.specs.List.{All}
use Rattle.std.proofs.lemmas.Bool.{cases_eq}
use Rattle.std.proofs.lemmas.List.Elements.{All-append, All-weaker, All-same}
use Rattle.warp_process.specs.declared.message.Message.{Message}
use Rattle.warp_process.specs.Lawful.{IsLawful}
use Rattle.warp_process.specs.Opening.{opening_view}
use Rattle.warp_part.specs.PartOf.{part_of}
use Rattle.warp_part.specs.Portion.{is_input}
use Rattle.warp_process.specs.Sends.{IsSendOf, Sends}
use Rattle.warp_process.specs.View.{View, Process, entry_of, IsEventTime}
use Rattle.warp_core.specs.Matched.{seen_at, EachBlock, IsBlockOf}
use Rattle.warp_core.specs.World.{Scene, number_at, AreAccounted, IsFlying, IsBefore, IsLawfulWorld}
use Rattle.warp_core.specs.Play.{IsOtherwiseSame}
use Rattle.warp_core.proofs.Acting.{same_seen, sent_accounted, sent_flying}

-- One block has changed, and sent messages behind those of the flight that are left.
pub record IsAct (w : Scene) (b : ℕ) (new : List Process) (before out : List Message) (IsLater : ℕ → Type 0) : Type 0 where
  pub others : IsOtherwiseSame w.blocks new b
  pub part : (seen_at new b).part ≡ (seen_at w.blocks b).part
  pub horizon : (seen_at new b).horizon ≡ (seen_at w.blocks b).horizon
  pub floor : (seen_at new b).floor ≡ (seen_at w.blocks b).floor
  pub lawful : IsLawful (seen_at new b)
  pub account : AreAccounted w.circuit w.cut (number_at new) w.blocks before
  pub inputs : (n t : ℕ) → IsTrue (is_input (part_of w.circuit w.cut b) n) → entry_of (seen_at new b) n t ≡ entry_of (seen_at w.blocks b) n t
  pub flying : All (IsFlying w.circuit w.cut w.horizon) before
  pub rest : (s : ℕ) → All (λ m. s ≤ m.time) w.flight → All (λ m. s ≤ m.time) before
  pub sends : Sends (seen_at w.blocks b) (seen_at new b) IsLater before out
  pub pending : (s t : ℕ) → IsBefore w s → IsEventTime (seen_at new b) t → s ≤ t
  pub later : (s t : ℕ) → IsBefore w s → IsLater t → s ≤ t

-- the world with other blocks and another flight
abbrev pub scene_with : Scene → List Process → List Message → Scene
scene_with w blocks flight = record {
  circuit = w.circuit;
  cut = w.cut;
  stimulus = w.stimulus;
  horizon = w.horizon;
  blocks = blocks;
  flight = flight;
}

module _ (w : Scene) (law : IsLawfulWorld w) (b : ℕ) (within : b < w.cut.blocks) (new : List Process) (before out : List Message) (IsLater : ℕ → Type 0)
    (act : IsAct w b new before out IsLater) where
  -- what is so of the other blocks, and of the one that has changed
  each_kept : (P : ℕ → View → Type 0) → EachBlock w.cut w.blocks P → P b (seen_at new b) → EachBlock w.cut new P
  each_kept P old here c l = elim (cases_eq c b) [
    | inl same ↦ subst (λ (k : ℕ). P k (seen_at new k)) (sym same) here
    | inr other ↦ subst (P c) (sym (same_seen w.blocks new b c act.others other)) (old c l)
  ]

  pub act_before : (s : ℕ) → IsBefore w s → IsBefore (scene_with w new out) s
  act_before s h = record {
    events = λ c u l event. elim (cases_eq c b) [
      | inl same ↦ act.pending s u h (subst (λ (k : ℕ). IsEventTime (seen_at new k) u) same event)
      | inr other ↦ h.events c u l (subst (λ (v : View). IsEventTime v u) (same_seen w.blocks new b c act.others other) event)
    ];
    flight = All-same (λ (m : Message). s ≤ m.time) out (before ++ act.sends.sent) act.sends.appended
        (All-append (λ (m : Message). s ≤ m.time) before act.sends.sent (act.rest s h.flight)
        (All-weaker (IsSendOf (seen_at w.blocks b) IsLater) (λ m. s ≤ m.time) (λ m is. act.later s m.time h is.later) act.sends.sent act.sends.named));
    end = h.end;
  }

  pub act_lawful : IsLawfulWorld (scene_with w new out)
  act_lawful =
      let is = law.parts b within in
      record {
        fits = law.fits;
        given = law.given;
        horizon = law.horizon;
        count = act.others.count ∙ law.count;
        parts = each_kept (IsBlockOf w.circuit w.cut w.horizon) law.parts (record { part = act.part ∙ is.part; horizon_is = act.horizon ∙ is.horizon_is });
        lawful = each_kept (λ _ v. IsLawful v) law.lawful act.lawful;
        account = sent_accounted w.circuit w.cut law.fits w.blocks new b (seen_at w.blocks b) (seen_at new b) act.others.others is.part (act.part ∙ is.part) (λ n. refl) (λ n. refl)
            (number_at new) IsLater before out act.sends act.account;
        inputs = λ c n t l input. elim (cases_eq c b) [
          | inl same ↦ subst (λ (k : ℕ). entry_of (seen_at new k) n t ≡ entry_of (opening_view (part_of w.circuit w.cut k) w.stimulus w.horizon) n t) (sym same)
              (act.inputs n t (subst (λ (k : ℕ). IsTrue (is_input (part_of w.circuit w.cut k) n)) same input) ∙ law.inputs b n t within (subst (λ (k : ℕ). IsTrue (is_input (part_of w.circuit w.cut k) n)) same input))
          | inr other ↦ ap (λ (v : View). entry_of v n t) (same_seen w.blocks new b c act.others other) ∙ law.inputs c n t l input
        ];
        flight = All-same (IsFlying w.circuit w.cut w.horizon) out (before ++ act.sends.sent) act.sends.appended
            (All-append (IsFlying w.circuit w.cut w.horizon) before act.sends.sent act.flying
            (sent_flying w.circuit w.cut law.fits (seen_at w.blocks b) b w.horizon IsLater act.sends.sent is.part is.horizon_is act.sends.named));
        floors = λ c l. elim (cases_eq c b) [
          | inl same ↦ subst (λ (k : ℕ). IsBefore (scene_with w new out) (seen_at new k).floor) (sym same)
              (subst (IsBefore (scene_with w new out)) (sym act.floor) (act_before (seen_at w.blocks b).floor (law.floors b within)))
          | inr other ↦ subst (λ (v : View). IsBefore (scene_with w new out) v.floor) (sym (same_seen w.blocks new b c act.others other)) (act_before (seen_at w.blocks c).floor (law.floors c l))
        ];
      }

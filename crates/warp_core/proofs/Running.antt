-- A block finishes event times.
use Rattle.std.proofs.Common.{◌≡◌, ℕ, ◌<◌, List, [], inl, inr, ap, sym, ◌∙◌, subst, arith}
use Rattle.std.proofs.lemmas.Bool.{cases_eq}
use Rattle.warp_process.specs.declared.message.Message.{Message}
use Rattle.warp_process.specs.Advance.{IsAdvanced, IsAfterEvent}
use Rattle.warp_process.specs.Entries.{Received, number_of, entry_in}
use Rattle.warp_process.specs.Lawful.{IsLawful}
use Rattle.warp_part.specs.Portion.{Portion, of_net}
use Rattle.warp_process.specs.Sends.{Place, Sends}
use Rattle.warp_process.specs.View.{View, Process, entry_of}
use Rattle.warp_process.proofs.Laws.{none_before_advance}
use Rattle.warp_core.specs.Matched.{seen_at}
use Rattle.warp_core.specs.World.{Scene, number_at, IsLawfulWorld}
use Rattle.warp_core.specs.Play.{IsOtherwiseSame}
use Rattle.warp_core.proofs.Acting.{same_seen}
use Rattle.warp_core.proofs.Acted.{IsAct}

-- entries are a matter of the part and the queues
same_entries : (old new : View) → new.part ≡ old.part → new.queues ≡ old.queues → (n t : ℕ) → entry_of new n t ≡ entry_of old n t
same_entries old new part queues n t =
    ap (λ (q : Portion). entry_in (of_net q.nets new.queues [] n) t) part ∙ ap (λ (qs : List (List Received)). entry_in (of_net old.part.nets qs [] n) t) queues

module _ (w : Scene) (law : IsLawfulWorld w) (b count : ℕ) (within : b < w.cut.blocks) (new : List Process) (out : List Message) (others : IsOtherwiseSame w.blocks new b)
    (advanced : IsAdvanced (seen_at w.blocks b) (seen_at new b) count) (lawful : IsLawful (seen_at new b))
    (sends : Sends (seen_at w.blocks b) (seen_at new b) (IsAfterEvent (seen_at w.blocks b)) w.flight out) where
  same_numbers : (p : Place) → number_at new p ≡ number_at w.blocks p
  same_numbers p = elim (cases_eq p.block b) [
    | inl here ↦ subst (λ (k : ℕ). number_of (entry_of (seen_at new k) p.net p.time) p.value ≡ number_of (entry_of (seen_at w.blocks k) p.net p.time) p.value) (sym here)
        (ap (λ e. number_of e p.value) (same_entries (seen_at w.blocks b) (seen_at new b) advanced.part advanced.queues p.net p.time))
    | inr other ↦ ap (λ (v : View). number_of (entry_of v p.net p.time) p.value) (same_seen w.blocks new b p.block others other)
  ]

  pub run_act : IsAct w b new w.flight out (IsAfterEvent (seen_at w.blocks b))
  run_act = record {
    others = others;
    part = advanced.part;
    horizon = advanced.horizon;
    floor = advanced.floor;
    lawful = lawful;
    account = λ p heard. (let same = same_numbers p in rw same (law.account p heard));
    inputs = λ n t input. same_entries (seen_at w.blocks b) (seen_at new b) advanced.part advanced.queues n t;
    flying = law.flight;
    rest = λ s all. all;
    sends = sends;
    pending = λ s t h event.
        (let former = none_before_advance (law.lawful b within) lawful advanced t event in
        let l = h.events b former.0 within former.1 in omega (arith, l, former.2));
    later = λ s t h after. (let l = h.events b after.0 within after.1 in omega (arith, l, after.2));
  }

-- What a block hears, as what happens to it.
use Rattle.std.proofs.Common.{◌≡◌, ◌∙◌, ℕ, ◌<◌, ◌&&◌, inl, inr, Bool, true, false, Option, Some, None, is_some, IsSome, IsTrue, List, length, get_or, refl, ap, sym, subst}
use Rattle.std.proofs.lemmas.Bool.{cases_Bool, true≢false, cond-false}
use Rattle.std.proofs.lemmas.List.Folds.{list_any_at}
use Rattle.gate_values.specs.declared.logic.Logic.{Logic}
use Rattle.gate_values.specs.Behaviour.{Outside}
use Rattle.gate_values.specs.Changes.{pair_at}
use Rattle.warp_part.specs.Portion.{owns, is_driven, is_used}
use Rattle.warp_process.specs.Entries.{Received, entry_in, effective_of}
use Rattle.warp_process.specs.View.{View, effective_at, log_of, news_of, is_busy}
use Rattle.warp_process.specs.Lawful.{IsLawful}
use Rattle.warp_process.proofs.Rows.{source_here, queue_here}
use Rattle.part_engine.proofs.Sources.{source_out}

-- what isn't there is none
pub some_or_none : (o : Option Logic) → (IsSome o → ⊥) → o ≡ None
some_or_none None n = refl
some_or_none (Some v) n = absurd (n refl)

module _ (v : View) (lawful : IsLawful v) where
  abbrev net : ℕ → ℕ
  net i = get_or v.part.nets i 0

  -- of an own net nothing is heard
  pub unheard : (i t : ℕ) → i < length v.part.nets → is_driven (get_or v.part.sources i Outside) ≡ true → effective_at v (net i) t ≡ None
  unheard i t l own =
      let owned : IsTrue (owns v.part (net i)) = ap is_driven (source_here v lawful i l) ∙ own in
      ap (λ (q : List Received). effective_of (entry_in q t)) (queue_here v lawful i l ∙ lawful.own i l owned)

  -- what is heard is of a net that a gate reads
  pub heard_busy : (i t : ℕ) → i < length v.part.nets → IsSome (effective_at v (net i) t) → is_busy v t ≡ true
  heard_busy i t l some = elim (cases_Bool (is_driven (get_or v.part.sources i Outside))) [
    | inl own ↦ absurd (true≢false (sym (subst (λ o. IsSome o) (unheard i t l own) some)))
    | inr out ↦
        let read : is_used v.part (net i) ≡ true = lawful.part.read i l (source_out (get_or v.part.sources i Outside) out) in
        let news : news_of v (net i) t ≡ effective_at v (net i) t =
        cond-false (owns v.part (net i)) (pair_at (log_of v (net i)) t) (effective_at v (net i) t) (ap is_driven (source_here v lawful i l) ∙ out) in
        list_any_at (λ n. is_used v.part n && is_some (news_of v n t)) v.part.nets i 0 l (both (is_used v.part (net i)) (is_some (news_of v (net i) t)) read (ap is_some news ∙ some))
  ]
    where
      both : (a b : Bool) → a ≡ true → b ≡ true → (a && b) ≡ true
      both a b e f = rw (e, f) refl

  -- at a time that isn't busy nothing is heard
  pub quiet_none : (i t : ℕ) → i < length v.part.nets → is_busy v t ≡ false → effective_at v (net i) t ≡ None
  quiet_none i t l quiet = some_or_none (effective_at v (net i) t) (λ some. true≢false (sym (heard_busy i t l some) ∙ quiet))

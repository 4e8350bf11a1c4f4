-- One block of a list has changed.
use Rattle.std.proofs.Common.{◌≡◌, ℕ, ◌+◌, ◌<◌, inl, inr, List, length, get_or, set, ap, sym, ◌∙◌, subst, arith}
use Rattle.std.specs.List.{remove}
use Rattle.std.proofs.lemmas.Bool.{cases_eq}
use Rattle.std.proofs.lemmas.List.{length-set, get_or-set_same, get_or-set_other, get_or_default}
use Rattle.std.proofs.lemmas.List.Edits.{remove-append_left}
use Rattle.warp_process.specs.declared.message.Message.{Message}
use Rattle.warp_process.specs.declared.message.Sign.{Sign}
use Rattle.warp_process.specs.Commit.{IsCommitted}
use Rattle.warp_process.specs.Lawful.{IsLawful}
use Rattle.warp_process.specs.Sends.{SendsOnce}
use Rattle.warp_process.specs.View.{View, Process}
use Rattle.warp_core.specs.Matched.{no_process, seen_at}
use Rattle.warp_core.specs.Play.{IsOtherwiseSame}
use Rattle.warp_core.proofs.Sweeping.{seen_is}

module _ (blocks : List Process) (i : ℕ) (old new : Process) (within : i < length blocks) (at : old ≡ get_or blocks i old) where
  pub one_changed : IsOtherwiseSame blocks (set blocks i new) i
  one_changed = record { count = length-set blocks i new; others = λ c other. get_or-set_other blocks i c new no_process other }

  pub seen_after : seen_at (set blocks i new) i ≡ new.seen
  seen_after = ap (λ (p : Process). p.seen) (get_or-set_same blocks i new no_process within)

  -- what is so of the block before and after
  pub between : (P : View → View → Type 0) → P old.seen new.seen → P (seen_at blocks i) (seen_at (set blocks i new) i)
  between P h = subst (λ (v : View). P v (seen_at (set blocks i new) i)) (seen_is blocks i old within at) (subst (P old.seen) (sym seen_after) h)

-- what was sent, where a message has left meanwhile
pub sends_without : (old new : View) (sign : Sign) (IsLater : ℕ → Type 0) (flight out left : List Message) (place : ℕ) → place < length flight → SendsOnce old new sign IsLater flight out → left ≡ remove out place →
    SendsOnce old new sign IsLater (remove flight place) left
sends_without old new sign IsLater flight out left place within once e = record {
  sends = record {
    sent = once.sends.sent;
    appended = e ∙ (ap (λ (ms : List Message). remove ms place) once.sends.appended ∙ remove-append_left flight once.sends.sent place within);
    named = once.sends.named;
    balance = once.sends.balance;
  };
  signed = once.signed;
  once = once.once;
}

-- the first blocks have committed
pub committed_more : (first blocks : List Process) (i time : ℕ) (old new : Process) → i < length blocks → old ≡ get_or blocks i old → get_or blocks i no_process ≡ get_or first i no_process → IsCommitted old new time →
    ((b : ℕ) → b < i → IsCommitted (get_or first b no_process) (get_or blocks b no_process) time) → (b : ℕ) → b < i + 1 → IsCommitted (get_or first b no_process) (get_or (set blocks i new) b no_process) time
committed_more first blocks i time old new l at rest is before b below = elim (cases_eq b i) [
  | inl last ↦
      (let was : old ≡ get_or first i no_process = at ∙ (get_or_default blocks i old no_process l ∙ rest) in
      subst (λ (k : ℕ). IsCommitted (get_or first k no_process) (get_or (set blocks i new) k no_process) time) (sym last)
      (subst (λ (p : Process). IsCommitted p (get_or (set blocks i new) i no_process) time) was
      (subst (λ (p : Process). IsCommitted old p time) (sym (get_or-set_same blocks i new no_process l)) is)))
  | inr other ↦ subst (λ (p : Process). IsCommitted (get_or first b no_process) p time) (sym (get_or-set_other blocks i b new no_process other)) (before b (omega (arith, below, other)))
]

pub lawful_more : (blocks : List Process) (i : ℕ) (new : Process) → i < length blocks → IsLawful new.seen → ((b : ℕ) → b < i → IsLawful (seen_at blocks b)) → (b : ℕ) → b < i + 1 → IsLawful (seen_at (set blocks i new) b)
lawful_more blocks i new l is before b below = elim (cases_eq b i) [
  | inl last ↦ subst (λ (k : ℕ). IsLawful (seen_at (set blocks i new) k)) (sym last) (subst (λ (p : Process). IsLawful p.seen) (sym (get_or-set_same blocks i new no_process l)) is)
  | inr other ↦ subst (λ (p : Process). IsLawful p.seen) (sym (get_or-set_other blocks i b new no_process other)) (before b (omega (arith, below, other)))
]

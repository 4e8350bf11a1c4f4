-- Sends compose: what several calls sent, one after another, is the difference between the first logs and the last.
use Rattle.std.proofs.Common.{◌≡◌, ℕ, Bool, true, false, cond, ◌&&◌, ◌==◌, ◌+◌, ◌≤◌, ◌++◌, List, [], IsTrue, refl, ap, sym, ◌∙◌, subst, arith}
use Rattle.std.specs.List.{All, list_any, count_by}
use Rattle.std.proofs.lemmas.Bool.{true≢false}
use Rattle.std.proofs.lemmas.List.{append-nil, append_assoc}
use Rattle.std.proofs.lemmas.List.Sums.{sum_by-append}
use Rattle.std.proofs.lemmas.List.Elements.{All-nil, All-append, All-weaker}
use Rattle.gate_values.specs.declared.logic.Change.{Change}
use Rattle.gate_values.specs.Changes.{same}
use Rattle.warp_process.specs.declared.message.Message.{Message}
use Rattle.warp_process.specs.declared.message.Sign.{Sign}
use Rattle.warp_process.specs.declared.message.Sign.TheVariants.{Plus, Minus}
use Rattle.warp_part.specs.Portion.{Portion, of_net, readers_of}
use Rattle.warp_process.specs.View.{View, log_of}
use Rattle.warp_process.specs.Sends.{Place, is_change, is_message, is_told, same_sign, standing, IsSendOf, Sends, SendsOnce}
use Rattle.warp_process.proofs.Told.{count-none}

pub standing-le : (v : View) (p : Place) → standing v p ≤ 1
standing-le v p = go (is_told v.part p && list_any (is_change p) (log_of v p.net))
  where
    go : (b : Bool) → cond b 1 0 ≤ 1
    go true = omega arith
    go false = omega arith

pub same_logs : (old new : View) → new.part ≡ old.part → new.logs ≡ old.logs → (n : ℕ) → log_of new n ≡ log_of old n
same_logs old new part logs n =
    ap (λ (q : Portion). of_net q.nets new.logs [] n) part ∙ ap (λ (ls : List (List Change)). of_net old.part.nets ls [] n) logs

-- what stands is a matter of the part and the logs alone
pub same_standing : (old new : View) → new.part ≡ old.part → ((n : ℕ) → log_of new n ≡ log_of old n) → (p : Place) → standing old p ≡ standing new p
same_standing old new part logs p =
    ap (λ (q : Portion). cond (is_told q p && list_any (is_change p) (log_of old p.net)) 1 0) (sym part)
    ∙ ap (λ (cs : List Change). cond (is_told new.part p && list_any (is_change p) cs) 1 0) (sym (logs p.net))

-- messages of one sign tell nothing by the other
pub none_other : (s t : Sign) (ms : List Message) → same_sign s t ≡ false → All (λ (m : Message). m.sign ≡ s) ms → (p : Place) → count_by (is_message t p) ms ≡ 0
none_other s t ms other signed p =
    count-none (is_message t p) ms (All-weaker (λ (m : Message). m.sign ≡ s) (λ m. is_message t p m ≡ false)
    (λ m is. go (m.block == p.block) (m.net == p.net) (same_sign m.sign t) ((m.time == p.time) && same m.value p.value) (ap (λ x. same_sign x t) is ∙ other)) ms signed)
  where
    go : (a b g d : Bool) → g ≡ false → (a && (b && (g && d))) ≡ false
    go a b true d e = absurd (true≢false e)
    go true true false d e = refl
    go true false false d e = refl
    go false b false d e = refl

-- how many of two lists
counts : (s : Sign) (p : Place) (ms rest : List Message) → count_by (is_message s p) (ms ++ rest) ≡ count_by (is_message s p) ms + count_by (is_message s p) rest
counts s p ms rest = sum_by-append (λ m. cond (is_message s p m) 1 0) ms rest

-- nothing was sent, and what stands is as before
pub sends_nothing : (old new : View) (IsLater : ℕ → Type 0) (before out : List Message) → ((p : Place) → standing old p ≡ standing new p) → before ≡ out → Sends old new IsLater before out
sends_nothing old new IsLater before out same is = record {
  sent = [];
  appended = sym is ∙ sym (append-nil before);
  named = All-nil (IsSendOf old IsLater);
  balance = λ p. ap (λ k. 0 + k) (same p);
}

pub sends_for : {old new : View} {P Q : ℕ → Type 0} {before out : List Message} → ((t : ℕ) → P t → Q t) → Sends old new P before out → Sends old new Q before out
sends_for {old} {P} {Q} weaker sends = record {
  sent = sends.sent;
  appended = sends.appended;
  named = All-weaker (IsSendOf old P) (IsSendOf old Q) (λ m is. record { told = is.told; later = weaker m.time is.later; within = is.within }) sends.sent sends.named;
  balance = sends.balance;
}

-- one call after another
pub sends_then : {a b c : View} {IsLater : ℕ → Type 0} {x y z : List Message} → b.part ≡ a.part → b.horizon ≡ a.horizon →
    Sends a b IsLater x y → Sends b c IsLater y z → Sends a c IsLater x z
sends_then {a} {b} {c} {IsLater} {x} part horizon first second = record {
  sent = first.sent ++ second.sent;
  appended = second.appended ∙ (ap (λ (ms : List Message). ms ++ second.sent) first.appended ∙ append_assoc x first.sent second.sent);
  named = All-append (IsSendOf a IsLater) first.sent second.sent first.named
      (All-weaker (IsSendOf b IsLater) (IsSendOf a IsLater)
      (λ m is. record {
        told = subst (λ (k : Portion). IsTrue (list_any (λ r. r == m.block) (readers_of k m.net))) part is.told;
        later = is.later;
        within = subst (λ (k : ℕ). m.time ≤ k) horizon is.within;
      }) second.sent second.named);
  balance = λ p. omega (arith, counts Plus p first.sent second.sent, counts Minus p first.sent second.sent, first.balance p, second.balance p);
}

-- ---- calls that send by one sign

pub once_nothing : (old new : View) (sign : Sign) (IsLater : ℕ → Type 0) (before out : List Message) → ((p : Place) → standing old p ≡ standing new p) → before ≡ out →
    SendsOnce old new sign IsLater before out
unfolding sends_nothing
once_nothing old new sign IsLater before out same is = record {
  sends = sends_nothing old new IsLater before out same is;
  signed = All-nil (λ (m : Message). m.sign ≡ sign);
  once = λ p. omega arith;
}

pub once_for : {old new : View} {sign : Sign} {P Q : ℕ → Type 0} {before out : List Message} → ((t : ℕ) → P t → Q t) → SendsOnce old new sign P before out → SendsOnce old new sign Q before out
unfolding sends_for
once_for weaker once = record { sends = sends_for weaker once.sends; signed = once.signed; once = once.once }

-- messages alone, by one call after another: each tells what the logs have gained
pub once_then : {a b c : View} {IsLater : ℕ → Type 0} {x y z : List Message} → b.part ≡ a.part → b.horizon ≡ a.horizon →
    SendsOnce a b Plus IsLater x y → SendsOnce b c Plus IsLater y z → SendsOnce a c Plus IsLater x z
unfolding sends_then
once_then {a} {b} {c} part horizon first second = record {
  sends = sends_then part horizon first.sends second.sends;
  signed = All-append (λ (m : Message). m.sign ≡ Plus) first.sends.sent second.sends.sent first.signed second.signed;
  once = λ p. omega (
    arith,
    counts Plus p first.sends.sent second.sends.sent,
    first.sends.balance p,
    second.sends.balance p,
    none_other Plus Minus first.sends.sent refl first.signed p,
    none_other Plus Minus second.sends.sent refl second.signed p,
    standing-le c p,
  );
}

-- Texts that pass one behind another.
use Rattle.std.proofs.Common.{◌≡◌, ℕ, List, [], ◌++◌, refl, ap, sym, ◌∙◌, subst, append_assoc}
use Rattle.std.proofs.lemmas.List.{append-nil}
use Rattle.byte_sinks.specs.Sink.{Held}
use Rattle.byte_sinks.specs.Sink.{Writes}
use Rattle.byte_sinks.specs.Lots.{Lot, Passes}
use Rattle.byte_sinks.proofs.Writing.{writes_then, writes_none}

-- a text, and then another
pub passes_then : {a b c : Held} {l m n : Lot} {s t : List ℕ} → Passes a b l s m → Passes b c m t n → Passes a c l (s ++ t) n
passes_then {a} {b} {c} {l} {m} {n} {s} {t} x y = record {
  sent = x.sent ++ y.sent;
  went = writes_then x.went y.went;
  whole = append_assoc x.sent y.sent n.waiting ∙ ap (λ r. x.sent ++ r) y.whole ∙ sym (append_assoc x.sent m.waiting t) ∙ ap (λ r. r ++ t) x.whole ∙ append_assoc l.waiting s t;
}

-- the same text, put in another way
pub passes_as : {a b : Held} {l m : Lot} {s t : List ℕ} → s ≡ t → Passes a b l s m → Passes a b l t m
passes_as {a} {b} {l} {m} {s} {t} e x = subst (λ (text : List ℕ). Passes a b l text m) e x

-- nothing passed
pub passes_none : (a : Held) (l : Lot) → Passes a a l [] l
passes_none a l = record { sent = []; went = writes_none a l.written; whole = sym (append-nil l.waiting) }

-- the text waits with the others
pub passes_waiting : (a : Held) (l m : Lot) (s : List ℕ) → m.waiting ≡ l.waiting ++ s → m.written ≡ l.written → Passes a a l s m
passes_waiting a l m s more same = record { sent = []; went = rw same (writes_none a l.written); whole = more }

-- what waited was sent
pub passes_sent : (a b : Held) (l m : Lot) → Writes a b l.written l.waiting m.written → m.waiting ≡ [] → Passes a b l [] m
passes_sent a b l m went none = record { sent = l.waiting; went = went; whole = rw none refl }

-- nothing waits, and the text was sent
pub passes_through : (a b : Held) (l m : Lot) (s : List ℕ) → Writes a b l.written s m.written → l.waiting ≡ [] → m.waiting ≡ [] → Passes a b l s m
passes_through a b l m s went none none_too = record { sent = s; went = went; whole = rw (none, none_too) (append-nil s) }

-- all of a text was sent, where it came first
pub passes_whole : {a b c : Held} {l m : Lot} {s : List ℕ} {to : ℕ} → Passes a b l s m → Writes b c m.written m.waiting to → l ≡ record { waiting = []; written = 0 } → Writes a c 0 s to
passes_whole {a} {b} {c} {l} {m} {s} {to} x y first =
    let all : x.sent ++ m.waiting ≡ s = x.whole ∙ ap (λ (r : Lot). r.waiting ++ s) first in
    let sent : Writes a c l.written s to = rw (← all) (writes_then x.went y) in
    subst (λ (r : Lot). Writes a c r.written s to) first sent

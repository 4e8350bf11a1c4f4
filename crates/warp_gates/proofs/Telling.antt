-- Places that put out other values, one after the other.
use Rattle.std.proofs.Common.{◌≡◌, ◌≢◌, ◌∙◌, ◌⊎◌, inl, inr, ℕ, ◌<◌, Bool, true, false, eqb, List, [], ◌++◌, length, set, refl, ap, sym, arith, append_assoc}
use Rattle.std.proofs.lemmas.List.{length-set, get_or-set_same, get_or-set_other, get_or_default, append-nil}
use Rattle.std.proofs.lemmas.List.Elements.{filter-append}
use Rattle.gate_values.specs.declared.logic.Logic.{Logic}
use Rattle.gate_values.specs.declared.logic.Logic.TheVariants.{Zero, One, X, Z}
use Rattle.gate_values.specs.Changes.{same}
use Rattle.warp_gates.specs.declared.front.Front.{Front}
use Rattle.warp_gates.specs.declared.put.Put.{Put}
use Rattle.warp_gates.specs.Cells.{puts_at, put_of}
use Rattle.warp_gates.specs.Inner.Fronts.{front_at}
use Rattle.warp_gates.specs.Inner.Told.{AreTold}
use Rattle.warp_gates.proofs.Showing.{same_or_not, eqb_same, eqb_other}

pub same-itself : (v : Logic) → same v v ≡ true
same-itself Zero = refl
same-itself One = refl
same-itself X = refl
same-itself Z = refl

pub puts_at-append : (place : ℕ) (a b : List Put) → puts_at place (a ++ b) ≡ puts_at place a ++ puts_at place b
puts_at-append place a b = filter-append (λ (p : Put). eqb p.word.place place) a b

put_here : (place queue : ℕ) (before after : Logic) (b : Bool) → same after before ≡ b → puts_at place (put_of place queue before after) ≡ put_of place queue before after
put_here place queue before after true h = rw h refl
put_here place queue before after false h = rw (h, eqb_same place place refl) refl

put_there : (other place queue : ℕ) (before after : Logic) (b : Bool) → place ≢ other → same after before ≡ b → puts_at other (put_of place queue before after) ≡ []
put_there other place queue before after true ne h = rw h refl
put_there other place queue before after false ne h = rw (h, eqb_other place other ne) refl

pub puts_at-put_of : (place queue : ℕ) (before after : Logic) → puts_at place (put_of place queue before after) ≡ put_of place queue before after
puts_at-put_of place queue before after = put_here place queue before after (same after before) refl

pub puts_at-put_of_other : (other place queue : ℕ) (before after : Logic) → place ≢ other → puts_at other (put_of place queue before after) ≡ []
puts_at-put_of_other other place queue before after ne = put_there other place queue before after (same after before) ne refl

pub put_of-itself : (place queue : ℕ) (v : Logic) → put_of place queue v v ≡ []
put_of-itself place queue v = rw (same-itself v) refl

pub told_none : (fronts : List Front) (before : List Put) → AreTold fronts fronts before before
told_none fronts before = record {
  same = refl;
  queues = λ place d h. refl;
  sent = [];
  appended = sym (append-nil before);
  each = λ place d h. sym (put_of-itself place (front_at d fronts place).queue (front_at d fronts place).output);
  past = λ place h. refl;
}

-- a place puts out a value, which it doesn't put out yet, or which it had at first
pub told_more : (old now : List Front) (before out : List Put) (place : ℕ) (e : Front) (value : Logic) → AreTold old now before out → place < length now
    → ((front_at e now place).output ≡ (front_at e old place).output) ⊎ (value ≡ (front_at e now place).output)
    → AreTold old (set now place (record (front_at e now place) { output = value; is_stale = false })) before (out ++ put_of place (front_at e now place).queue (front_at e now place).output value)
told_more old now before out place e value told within first =
    let f : Front = front_at e now place in
    let g : Front = record f { output = value; is_stale = false } in
    let same-len : length now ≡ length old = told.same in
    let put : List Put = put_of place f.queue f.output value in
    let queue : f.queue ≡ (front_at e old place).queue = told.queues place e (omega arith) in
    let was : puts_at place told.sent ≡ put_of place (front_at e old place).queue (front_at e old place).output f.output = told.each place e (omega arith) in
    let now-put : puts_at place (told.sent ++ put) ≡ put_of place (front_at e old place).queue (front_at e old place).output value =
    puts_at-append place told.sent put
    ∙ ap (λ (ps : List Put). puts_at place told.sent ++ ps) (puts_at-put_of place f.queue f.output value)
    ∙ (elim first [
      | inl unchanged ↦
          ap (λ (ps : List Put). ps ++ put) (was ∙ ap (λ (v : Logic). put_of place (front_at e old place).queue (front_at e old place).output v) unchanged ∙ put_of-itself place (front_at e old place).queue (front_at e old place).output)
          ∙ ap (λ (q : ℕ). put_of place q f.output value) queue
          ∙ ap (λ (v : Logic). put_of place (front_at e old place).queue v value) unchanged
      | inr again ↦
          ap (λ (ps : List Put). puts_at place told.sent ++ ps) (ap (λ (v : Logic). put_of place f.queue f.output v) again ∙ put_of-itself place f.queue f.output)
          ∙ append-nil (puts_at place told.sent)
          ∙ was
          ∙ ap (λ (v : Logic). put_of place (front_at e old place).queue (front_at e old place).output v) (sym again)
    ]) in
    record {
      same = length-set now place g ∙ told.same;
      queues = λ p d h. elim (same_or_not p place) [
        | inl here ↦ ap (λ (i : ℕ). (front_at d (set now place g) i).queue) here ∙ ap (λ (x : Front). x.queue) (get_or-set_same now place g d within) ∙ queue
            ∙ ap (λ (x : Front). x.queue) (get_or_default old place e d (omega arith) ∙ ap (λ (i : ℕ). front_at d old i) (sym here))
        | inr there ↦ ap (λ (x : Front). x.queue) (get_or-set_other now place p g d there) ∙ told.queues p d h
      ];
      sent = told.sent ++ put;
      appended = ap (λ (ps : List Put). ps ++ put) told.appended ∙ append_assoc before told.sent put;
      each = λ p d h. elim (same_or_not p place) [
        | inl here ↦
            ap (λ (i : ℕ). puts_at i (told.sent ++ put)) here ∙ now-put
            ∙ ap (λ (x : Front). put_of place x.queue x.output value) (get_or_default old place e d (omega arith))
            ∙ ap (λ (v : Logic). put_of place (front_at d old place).queue (front_at d old place).output v) (sym (ap (λ (x : Front). x.output) (get_or-set_same now place g d within)))
            ∙ ap (λ (i : ℕ). put_of i (front_at d old i).queue (front_at d old i).output (front_at d (set now place g) i).output) (sym here)
        | inr there ↦
            puts_at-append p told.sent put
            ∙ ap (λ (ps : List Put). puts_at p told.sent ++ ps) (puts_at-put_of_other p place f.queue f.output value (λ s. there (sym s)))
            ∙ append-nil (puts_at p told.sent)
            ∙ told.each p d h
            ∙ ap (λ (v : Logic). put_of p (front_at d old p).queue (front_at d old p).output v) (sym (ap (λ (x : Front). x.output) (get_or-set_other now place p g d there)))
      ];
      past = λ p h.
          let there : place ≢ p = omega arith in
          puts_at-append p told.sent put
          ∙ ap (λ (ps : List Put). puts_at p told.sent ++ ps) (puts_at-put_of_other p place f.queue f.output value there)
          ∙ append-nil (puts_at p told.sent)
          ∙ told.past p h;
    }

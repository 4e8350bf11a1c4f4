-- Queues by number, as calls make them: all read, all cut, and words put behind one by one.
use Rattle.std.proofs.Common.{◌≡◌, ◌∙◌, ℕ, zero, suc, ◌<◌, ◌≤◌, ◌==◌, inl, inr, Bool, cond, List, [], ◌∷◌, ◌++◌, map, length, set, refl, ap, sym, arith}
use Rattle.std.specs.List.{filter}
use Rattle.std.proofs.lemmas.Bool.{cases_eq, eq-eqb, ne_eqb}
use Rattle.std.proofs.lemmas.List.{append-nil, append_assoc, map-append, get_or-set_same, get_or-set_other}
use Rattle.std.proofs.lemmas.List.Elements.{filter-append}
use Rattle.warp_stores.specs.Words.{Move}
use Rattle.warp_stores.specs.Dated.{Dated, at}
use Rattle.warp_stores.specs.Delays.{Delayed, queue_at, empty_after, least_due, with_made, read_by, cut_since, back_from}
use Rattle.warp_gates.specs.declared.put.Put.{Put}
use Rattle.place_moves.specs.Journals.{put_into}

queue-map : (f : Delayed → Delayed) (queues : List Delayed) (number : ℕ) → f (empty_after 0) ≡ empty_after 0 → queue_at (map f queues) number ≡ f (queue_at queues number)
queue-map f [] number h = sym h
queue-map f (q ∷ qs) zero h = refl
queue-map f (q ∷ qs) (suc number) h = queue-map f qs number h

-- all are read
pub queue-read : (time : ℕ) (queues : List Delayed) (number : ℕ) → queue_at (map (read_by time) queues) number ≡ read_by time (queue_at queues number)
queue-read time queues number = queue-map (read_by time) queues number refl

-- all are cut and put back
pub queue-back : (time : ℕ) (queues : List Delayed) (number : ℕ) → queue_at (map (back_from time) (map (cut_since time) queues)) number ≡ back_from time (cut_since time (queue_at queues number))
queue-back time queues number = queue-map (back_from time) (map (cut_since time) queues) number refl ∙ ap (back_from time) (queue-map (cut_since time) queues number refl)

made_none : (step : ℕ) (queue : Delayed) → with_made step [] queue ≡ queue
made_none step queue = ap (λ (xs : List (Dated Move)). record { delay = queue.delay; line = record { dead = queue.line.dead; read = queue.line.read; ahead = xs } }) (append-nil queue.line.ahead)

made_then : (step : ℕ) (first second : List Move) (queue : Delayed) → with_made step second (with_made step first queue) ≡ with_made step (first ++ second) queue
made_then step first second queue =
    ap (λ (xs : List (Dated Move)). record { delay = queue.delay; line = record { dead = queue.line.dead; read = queue.line.read; ahead = xs } })
    (append_assoc queue.line.ahead (at step first) (at step second) ∙ ap (λ (xs : List (Dated Move)). queue.line.ahead ++ xs) (sym (map-append {B = Dated Move} (λ (w : Move). (step, w)) first second)))

-- before any word is put
pub put_none : (step number : ℕ) (queue : Delayed) → with_made step (put_into number []) queue ≡ queue
put_none step number queue = made_none step queue

-- one word more is put
pub put_more : (step : ℕ) (first queues : List Delayed) (sent : List Put) (put : Put) → put.queue < length queues → ((number : ℕ) → queue_at queues number ≡ with_made step (put_into number sent) (queue_at first number))
    → (number : ℕ) → queue_at (set queues put.queue (with_made step (put.word ∷ []) (queue_at queues put.queue))) number ≡ with_made step (put_into number (sent ++ put ∷ [])) (queue_at first number)
put_more step first queues sent put within was number =
    let N : Put → Bool = λ p. number == p.queue in
    let last : List Move = map (λ (p : Put). p.word) (cond (number == put.queue) (put ∷ []) []) in
    let all : put_into number (sent ++ put ∷ []) ≡ put_into number sent ++ last =
    ap (map (λ (p : Put). p.word)) (filter-append N sent (put ∷ [])) ∙ map-append (λ (p : Put). p.word) (filter N sent) (cond (number == put.queue) (put ∷ []) []) in
    elim (cases_eq number put.queue) [
      | inl e ↦
          let is : last ≡ put.word ∷ [] = ap (λ (b : Bool). map (λ (p : Put). p.word) (cond b (put ∷ []) [])) (eq-eqb number put.queue e) in
          ap (queue_at (set queues put.queue (with_made step (put.word ∷ []) (queue_at queues put.queue)))) e
          ∙ get_or-set_same queues put.queue (with_made step (put.word ∷ []) (queue_at queues put.queue)) (empty_after 0) within
          ∙ ap (λ (n : ℕ). with_made step (put.word ∷ []) (queue_at queues n)) (sym e)
          ∙ ap (with_made step (put.word ∷ [])) (was number)
          ∙ made_then step (put_into number sent) (put.word ∷ []) (queue_at first number)
          ∙ ap (λ (ws : List Move). with_made step ws (queue_at first number)) (sym (all ∙ ap (λ (ws : List Move). put_into number sent ++ ws) is))
      | inr n ↦
          let is : last ≡ [] = ap (λ (b : Bool). map (λ (p : Put). p.word) (cond b (put ∷ []) [])) (ne_eqb number put.queue n) in
          get_or-set_other queues put.queue number (with_made step (put.word ∷ []) (queue_at queues put.queue)) (empty_after 0) n
          ∙ was number
          ∙ ap (λ (ws : List Move). with_made step ws (queue_at first number)) (sym (all ∙ ap (λ (ws : List Move). put_into number sent ++ ws) is ∙ append-nil (put_into number sent)))
    ]

-- of two lists of queues nothing is due before what neither has due
pub due_both : (time : ℕ) (first second : List Delayed) → time ≤ least_due first → time ≤ least_due second → time ≤ least_due (first ++ second)
due_both time [] second l m = m
due_both time (q ∷ qs) second l m =
    let rest : time ≤ least_due (qs ++ second) = due_both time qs second (omega arith) m in
    omega arith

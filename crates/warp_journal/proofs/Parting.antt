-- Queues in two parts, and words that are put behind them.
use Rattle.std.proofs.Common.{◌≡◌, ◌∙◌, ℕ, ◌+◌, ◌-◌, ◌<◌, ◌≤◌, min, inl, inr, List, [], ◌∷◌, ◌++◌, map, length, take, get_or, set, refl, ap, sym, subst, arith, append_assoc}
use Rattle.std.specs.List.{flat_map}
use Rattle.std.specs.Prelude.{Result, Ok, Err, OnOk, OnErr}
use Rattle.std.proofs.lemmas.Bool.{cases_lt}
use Rattle.std.proofs.Math.ListN.{get_or-eq_default}
use Rattle.std.proofs.lemmas.List.{map-append, length-append, length-map, length-set, take_more, get_or_append_left, get_or-append_right, set-append_left, set-append_right}
use Rattle.std.proofs.lemmas.Grind.{flat_map-append}
use Rattle.warp_stores.specs.Words.{Move}
use Rattle.warp_stores.specs.Dated.{Dated, at, last_from, last_time, standing}
use Rattle.warp_stores.specs.Least.{least_of}
use Rattle.warp_stores.specs.Delays.{Delayed, queue_at, empty_after, due_of, least_due, with_made, read_by, cut_since, back_from, IsReadUpTo, AreReadUpTo, IsForgotten, AreForgotten}
use Rattle.warp_stores.proofs.Delaying.{least_of-append, some_back}
use Rattle.warp_stores.proofs.Growing.{last_from-append}
use Rattle.warp_gates.specs.declared.put.Put.{Put}
use Rattle.place_moves.specs.Journals.{put_into}
use Rattle.place_moves.proofs.Putting.{queue-read, queue-back, put_none, put_more}
use Rattle.warp_journal.specs.Books.{Parts, all_of}
use Rattle.warp_journal.specs.Inner.Parts.{AreRead, AreUpTo, AreAsMany, IsPut, ArePutBehind, AreSomePut, AreStepped, AreHalfStepped}

pub due_parts : (parts : Parts) → min (least_due parts.read) (least_due parts.unread) ≡ least_due (all_of parts)
due_parts parts = sym (ap least_of (map-append due_of parts.read parts.unread) ∙ least_of-append (map due_of parts.read) (map due_of parts.unread))

-- what both parts list
pub listed_both : {X Y : Type 0} (f : X → List Y) (a b : List X) (first mid last : List Y) → mid ≡ first ++ flat_map f a → last ≡ mid ++ flat_map f b → last ≡ first ++ flat_map f (a ++ b)
listed_both f a b first mid last e g =
    g ∙ ap (λ ys. ys ++ flat_map f b) e ∙ append_assoc first (flat_map f a) (flat_map f b) ∙ ap (λ ys. first ++ ys) (sym (flat_map-append f a b))

-- a queue of one part
pub of_read : (parts : Parts) (number : ℕ) → number < length parts.read → queue_at (all_of parts) number ≡ queue_at parts.read number
of_read parts number l = get_or_append_left parts.read parts.unread (empty_after 0) number l

pub of_unread : (parts : Parts) (number : ℕ) → length parts.read ≤ number → queue_at (all_of parts) number ≡ queue_at parts.unread (number - length parts.read)
of_unread parts number l = get_or-append_right parts.read parts.unread (length parts.read) number (empty_after 0) refl l

pub many_all : (old new : Parts) → AreAsMany old new → length (all_of new) ≡ length (all_of old)
many_all old new m =
    let a : length (all_of new) ≡ length new.read + length new.unread = length-append new.read new.unread in
    let b : length (all_of old) ≡ length old.read + length old.unread = length-append old.read old.unread in
    omega (arith, a, b, m.read, m.unread)

-- a word is put behind a queue of one part
pub put_read : (step : ℕ) (put : Put) (old new : Parts) → put.queue < length old.read → new.read ≡ set old.read put.queue (with_made step (put.word ∷ []) (queue_at old.read put.queue)) → new.unread ≡ old.unread → IsPut step put old new
put_read step put old new l e same =
    let made : Delayed → Delayed = with_made step (put.word ∷ []) in
    record {
      many = record { read = ap (λ (qs : List Delayed). length qs) e ∙ length-set old.read put.queue (made (queue_at old.read put.queue)); unread = ap (λ (qs : List Delayed). length qs) same };
      behind =
          ap (λ (qs : List Delayed). new.read ++ qs) same ∙ ap (λ (qs : List Delayed). qs ++ old.unread) e
          ∙ sym (set-append_left old.read old.unread put.queue (made (queue_at old.read put.queue)) l)
          ∙ ap (λ (q : Delayed). set (all_of old) put.queue (made q)) (sym (of_read old put.queue l));
    }

pub put_unread : (step : ℕ) (put : Put) (old new : Parts) → length old.read ≤ put.queue
    → new.unread ≡ set old.unread (put.queue - length old.read) (with_made step (put.word ∷ []) (queue_at old.unread (put.queue - length old.read))) → new.read ≡ old.read → IsPut step put old new
put_unread step put old new l e same =
    let made : Delayed → Delayed = with_made step (put.word ∷ []) in
    let k : ℕ = put.queue - length old.read in
    record {
      many = record { read = ap (λ (qs : List Delayed). length qs) same; unread = ap (λ (qs : List Delayed). length qs) e ∙ length-set old.unread k (made (queue_at old.unread k)) };
      behind =
          ap (λ (qs : List Delayed). new.read ++ qs) e ∙ ap (λ (qs : List Delayed). qs ++ set old.unread k (made (queue_at old.unread k))) same
          ∙ sym (set-append_right old.read old.unread (length old.read) put.queue (made (queue_at old.unread k)) refl l)
          ∙ ap (λ (q : Delayed). set (all_of old) put.queue (made q)) (sym (of_unread old put.queue l));
    }

-- ---- no queue gets a word of a later step

last_from-at : (low step : ℕ) (ws : List Move) → low ≤ step → last_from low (at step ws) ≤ step
last_from-at low step [] l = l
last_from-at low step (w ∷ ws) l = last_from-at step step ws (omega arith)

made-up_to : (step : ℕ) (words : List Move) (queue : Delayed) → last_time (standing queue.line) ≤ step → last_time (standing (with_made step words queue).line) ≤ step
made-up_to step words queue l =
    let more : standing (with_made step words queue).line ≡ standing queue.line ++ at step words = sym (append_assoc queue.line.read queue.line.ahead (at step words)) in
    subst (λ (ds : List (Dated Move)). last_time ds ≤ step) (sym more)
    (subst (λ (t : ℕ). t ≤ step) (sym (last_from-append 0 (standing queue.line) (at step words))) (last_from-at (last_time (standing queue.line)) step words l))

pub behind-up_to : (step : ℕ) (puts : List Put) (old new : Parts) → ArePutBehind step puts old new → AreUpTo step (all_of old) → AreUpTo step (all_of new)
behind-up_to step puts old new b u number =
    subst (λ (q : Delayed). last_time (standing q.line) ≤ step) (sym (b.each number)) (made-up_to step (put_into number puts) (queue_at (all_of old) number) (u number))

pub read-up_to : (step : ℕ) (parts : Parts) → AreUpTo step (all_of parts) → (number : ℕ) → number < length parts.read → last_time (standing (queue_at parts.read number).line) ≤ step
read-up_to step parts u number l = subst (λ (q : Delayed). last_time (standing q.line) ≤ step) (of_read parts number l) (u number)

pub unread-up_to : (step : ℕ) (parts : Parts) → AreUpTo step (all_of parts) → (number : ℕ) → length parts.read ≤ number → last_time (standing (queue_at parts.unread (number - length parts.read)).line) ≤ step
unread-up_to step parts u number l = subst (λ (q : Delayed). last_time (standing q.line) ≤ step) (of_unread parts number l) (u number)

-- ---- words are put one by one

pub behind_none : (step : ℕ) (parts : Parts) → ArePutBehind step [] parts parts
behind_none step parts = record { many = record { read = refl; unread = refl }; each = λ number. sym (put_none step number (queue_at (all_of parts) number)) }

pub behind_more : (step : ℕ) (puts : List Put) (i : ℕ) (put : Put) (first old new : Parts) → i < length puts → put ≡ get_or puts i put → put.queue < length (all_of first)
    → ArePutBehind step (take i puts) first old → IsPut step put old new → ArePutBehind step (take (i + 1) puts) first new
behind_more step puts i put first old new l e within behind one =
    let len : length (all_of old) ≡ length (all_of first) = many_all first old behind.many in
    let here : put.queue < length (all_of old) = omega (arith, len, within) in
    let all : take (i + 1) puts ≡ take i puts ++ put ∷ [] = take_more puts i put l ∙ ap (λ (p : Put). take i puts ++ p ∷ []) (sym e) in
    record {
      many = record { read = one.many.read ∙ behind.many.read; unread = one.many.unread ∙ behind.many.unread };
      each = λ number.
          ap (λ (qs : List Delayed). queue_at qs number) one.behind
          ∙ put_more step (all_of first) (all_of old) (take i puts) put here behind.each number
          ∙ ap (λ (ps : List Put). with_made step (put_into number ps) (queue_at (all_of first) number)) (sym all);
    }

-- ---- all is read, and goes back

pub read_all : (time : ℕ) (old new : Parts) → new ≡ record { read = map (read_by time) old.read; unread = map (read_by time) old.unread } → all_of new ≡ map (read_by time) (all_of old)
read_all time old new e = ap all_of e ∙ sym (map-append (read_by time) old.read old.unread)

read-many : (time : ℕ) (old new : Parts) → new ≡ record { read = map (read_by time) old.read; unread = map (read_by time) old.unread } → AreAsMany old new
read-many time old new e =
    record {
      read = ap (λ (p : Parts). length p.read) e ∙ length-map old.read (read_by time);
      unread = ap (λ (p : Parts). length p.unread) e ∙ length-map old.unread (read_by time);
    }

pub read-within : (time : ℕ) (old new : Parts) → new ≡ record { read = map (read_by time) old.read; unread = map (read_by time) old.unread } → length (all_of new) ≡ length (all_of old)
read-within time old new e = many_all old new (read-many time old new e)

pub stepped_is : (time : ℕ) (puts : List Put) (old mid new : Parts) → mid ≡ record { read = map (read_by time) old.read; unread = map (read_by time) old.unread } → ArePutBehind time puts mid new → AreStepped time puts old new
stepped_is time puts old mid new e behind =
    let m : AreAsMany old mid = read-many time old mid e in
    record {
      many = record { read = behind.many.read ∙ m.read; unread = behind.many.unread ∙ m.unread };
      each = λ number.
          behind.each number
          ∙ ap (λ (qs : List Delayed). with_made time (put_into number puts) (queue_at qs number)) (read_all time old mid e)
          ∙ ap (with_made time (put_into number puts)) (queue-read time (all_of old) number);
    }

pub back-many : (time : ℕ) (old new : Parts) → new.read ≡ map (back_from time) (map (cut_since time) old.read) → new.unread ≡ map (back_from time) (map (cut_since time) old.unread) → AreAsMany old new
back-many time old new r u =
    record {
      read = ap (λ (qs : List Delayed). length qs) r ∙ length-map (map (cut_since time) old.read) (back_from time) ∙ length-map old.read (cut_since time);
      unread = ap (λ (qs : List Delayed). length qs) u ∙ length-map (map (cut_since time) old.unread) (back_from time) ∙ length-map old.unread (cut_since time);
    }

pub back_each : (time : ℕ) (old new : Parts) → new.read ≡ map (back_from time) (map (cut_since time) old.read) → new.unread ≡ map (back_from time) (map (cut_since time) old.unread)
    → (number : ℕ) → queue_at (all_of new) number ≡ back_from time (cut_since time (queue_at (all_of old) number))
back_each time old new r u number =
    let all : all_of new ≡ map (back_from time) (map (cut_since time) (all_of old)) =
    ap (λ (qs : List Delayed). qs ++ new.unread) r ∙ ap (λ (qs : List Delayed). map (back_from time) (map (cut_since time) old.read) ++ qs) u
    ∙ sym (map-append (back_from time) (map (cut_since time) old.read) (map (cut_since time) old.unread))
    ∙ ap (map (back_from time)) (sym (map-append (cut_since time) old.read old.unread)) in
    ap (λ (qs : List Delayed). queue_at qs number) all ∙ queue-back time (all_of old) number

-- what is forgotten of each part is forgotten of all
pub forgotten_both : (time : ℕ) (old new : Parts) → AreForgotten time old.read new.read → AreForgotten time old.unread new.unread → AreForgotten time (all_of old) (all_of new)
forgotten_both time old new r u =
    record {
      same = many_all old new (record { read = r.same; unread = u.same });
      each = λ number l. elim (cases_lt number (length old.read)) [
        | inl here ↦
            subst (λ (q : Delayed). IsForgotten time q (queue_at (all_of new) number)) (sym (of_read old number here))
            (subst (IsForgotten time (queue_at old.read number)) (sym (of_read new number (omega (arith, r.same)))) (r.each number here))
        | inr past ↦
            let k : ℕ = number - length old.read in
            let len : length (all_of old) ≡ length old.read + length old.unread = length-append old.read old.unread in
            let at_new : queue_at (all_of new) number ≡ queue_at new.unread k =
            of_unread new number (omega (arith, r.same)) ∙ ap (λ (n : ℕ). queue_at new.unread (number - n)) r.same in
            subst (λ (q : Delayed). IsForgotten time q (queue_at (all_of new) number)) (sym (of_unread old number past))
            (subst (IsForgotten time (queue_at old.unread k)) (sym at_new) (u.each k (omega (arith, len))))
      ];
    }

pub half_is : (time : ℕ) (old mid new : Parts) → mid ≡ record { read = map (read_by time) old.read; unread = map (read_by time) old.unread } → AreSomePut time mid new → AreHalfStepped time old new
half_is time old mid new e some = record { puts = some.puts; stepped = stepped_is time some.puts old mid new e some.behind }

pub half_all : (time : ℕ) (puts : List Put) (old mid new : Parts) → mid ≡ record { read = map (read_by time) old.read; unread = map (read_by time) old.unread } → ArePutBehind time puts mid new → AreHalfStepped time old new
half_all time puts old mid new e behind = record { puts = puts; stepped = stepped_is time puts old mid new e behind }

pub on_err : {T E P : Type 0} (r : Result T E) → P → OnErr r P
on_err (Ok x) p = tt
on_err (Err e) p = p

pub on_ok : {T E P : Type 0} (r : Result T E) → P → OnOk r P
on_ok (Ok x) p = p
on_ok (Err e) p = tt

-- ---- what was read up to a time is put back

none_read : (time : ℕ) → IsReadUpTo time (empty_after 0)
none_read time = record { read = tt; ahead = tt; rises = tt }

pub read_up : (time : ℕ) (parts : Parts) → AreReadUpTo time (all_of parts) → AreReadUpTo time parts.read
read_up time parts r k = elim (cases_lt k (length parts.read)) [
  | inl h ↦ subst (IsReadUpTo time) (of_read parts k h) (r k)
  | inr h ↦ subst (IsReadUpTo time) (sym (get_or-eq_default parts.read (empty_after 0) h)) (none_read time)
]

pub unread_up : (time : ℕ) (parts : Parts) → AreReadUpTo time (all_of parts) → AreReadUpTo time parts.unread
unread_up time parts r k =
    let back : (k + length parts.read) - length parts.read ≡ k = omega arith in
    subst (IsReadUpTo time) (of_unread parts (k + length parts.read) (omega arith) ∙ ap (λ (n : ℕ). queue_at parts.unread n) back) (r (k + length parts.read))

read_back : (time : ℕ) (queues : List Delayed) → AreReadUpTo time queues → map (back_from time) (map (read_by time) queues) ≡ queues
read_back time queues r = some_back time queues (map (read_by time) queues) r (record { same = length-map queues (read_by time); each = λ k. inr (queue-read time queues k) })

pub part_back : (time : ℕ) (old mid new : List Delayed) → AreReadUpTo time old → mid ≡ map (read_by time) old → new ≡ map (back_from time) mid → new ≡ old
part_back time old mid new r is e = e ∙ ap (map (back_from time)) is ∙ read_back time old r

pub parts_back : (time : ℕ) (old mid new : Parts) → AreReadUpTo time (all_of old) → AreRead time old mid → new.read ≡ map (back_from time) mid.read → new.unread ≡ map (back_from time) mid.unread → new ≡ old
parts_back time old mid new r is read unread =
    ap (λ (qs : List Delayed). record { read = qs; unread = new.unread }) (part_back time old.read mid.read new.read (read_up time old r) (ap (λ (p : Parts). p.read) is) read)
    ∙ ap (λ (qs : List Delayed). record { read = old.read; unread = qs }) (part_back time old.unread mid.unread new.unread (unread_up time old r) (ap (λ (p : Parts). p.unread) is) unread)

-- all is read, and nothing has a later step's words
pub read-up_to_all : (time : ℕ) (old mid : Parts) → AreRead time old mid → AreUpTo time (map (read_by time) (all_of old)) → AreUpTo time (all_of mid)
read-up_to_all time old mid is up = subst (AreUpTo time) (sym (read_all time old mid is)) up

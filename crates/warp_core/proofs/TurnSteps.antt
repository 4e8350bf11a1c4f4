-- What a message that reaches its block, and a block that advances, make of a world whose list keeps what was heard.
use Rattle.std.proofs.Common.{◌≡◌, ℕ, ◌+◌, ◌-◌, ◌<◌, ◌≤◌, ◌++◌, List, [], ◌∷◌, length, get_or, set, inl, inr, refl, ap, sym, ◌∙◌, subst, arith}
use Rattle.std.specs.List.{All, remove}
use Rattle.std.proofs.lemmas.Bool.{cases_eq}
use Rattle.std.proofs.lemmas.List.Elements.{All-get_or, All-weaker, All-append, All-same}
use Rattle.std.proofs.lemmas.List.{length-append, get_or-append_right, length-set, get_or-set_same, get_or-set_other}
use Rattle.warp_process.specs.declared.message.Message.{Message}
use Rattle.warp_process.specs.declared.message.Sign.{Sign}
use Rattle.warp_process.specs.declared.message.Sign.TheVariants.{Plus, Minus}
use Rattle.warp_process.specs.Advance.{IsAdvanced, IsAfterEvent}
use Rattle.warp_process.specs.Lawful.{IsLawful}
use Rattle.warp_process.specs.Receive.{IsTaken}
use Rattle.warp_process.specs.Sends.{IsSendOf, SendsOnce}
use Rattle.warp_process.specs.View.{View, Process}
use Rattle.warp_core.specs.declared.turns.Course.{Course}
use Rattle.warp_core.specs.Drive.{IsReached}
use Rattle.warp_core.specs.Inner.Turns.{left, place_in, places_for, scene_left, AreSentLater, IsOpen}
use Rattle.warp_core.specs.Matched.{seen_at}
use Rattle.warp_core.specs.Play.{IsOtherwiseSame, IsRun}
use Rattle.warp_core.specs.World.{Scene, IsFlying, IsBefore, IsLawfulWorld}
use Rattle.warp_core.proofs.Leaving.{left-append, left_all, IsNextPlace, next_place}
use Rattle.warp_core.proofs.Played.{delivered_lawful, delivered_before, delivered_is, run_lawful, run_before, run_is}

-- the same was sent, behind others
sends_moved : (v w : View) (sign : Sign) (IsLater : ℕ → Type 0) (before out before' out' : List Message) → (once : SendsOnce v w sign IsLater before out) → out' ≡ before' ++ once.sends.sent → SendsOnce v w sign IsLater before' out'
sends_moved v w sign IsLater before out before' out' once e = record {
  sends = record { sent = once.sends.sent; appended = e; named = once.sends.named; balance = once.sends.balance };
  signed = once.signed;
  once = once.once;
}

-- what is sent hasn't been heard
left_sent : (heard : ℕ → ℕ) (flight out sent : List Message) → out ≡ flight ++ sent → ((b : ℕ) → heard b ≤ length flight) → left heard 0 out ≡ left heard 0 flight ++ sent
left_sent heard flight out sent e low =
    ap (left heard 0) e
    ∙ (left-append heard 0 flight sent ∙ ap (λ (ms : List Message). left heard 0 flight ++ ms) (left_all heard (0 + length flight) sent (λ b. (let l = low b in omega (arith, l)))))

pub longer : (flight out sent : List Message) → out ≡ flight ++ sent → length flight ≤ length out
longer flight out sent e = (let size = ap length e in let more = length-append flight sent in omega (arith, size, more))

all_right : (P : Message → Type 0) (xs ys : List Message) → All P (xs ++ ys) → All P ys
all_right P xs ys all i d within = subst P at (all (length xs + i) d (let size = length-append xs ys in omega (arith, size, within)))
  where
    minus : (a : ℕ) → (a + i) - a ≡ i
    minus a = omega arith

    at : get_or (xs ++ ys) (length xs + i) d ≡ get_or ys i d
    at = get_or-append_right xs ys (length xs) (length xs + i) d refl (omega arith) ∙ ap (λ (k : ℕ). get_or ys k d) (minus (length xs))

-- what is sent is for blocks that there are
sent_known : (c : Course) (heard : ℕ → ℕ) (flight out sent : List Message) → out ≡ flight ++ sent → ((k : ℕ) → heard k ≤ length flight) → All (λ m. m.block < c.cut.now.blocks) flight → All (IsFlying c.circuit.now c.cut.now c.horizon) (left heard 0 out) →
    All (λ m. m.block < c.cut.now.blocks) out
sent_known c heard flight out sent e low known flying =
    let flies = all_right (IsFlying c.circuit.now c.cut.now c.horizon) (left heard 0 flight) sent (All-same (IsFlying c.circuit.now c.cut.now c.horizon) (left heard 0 flight ++ sent) (left heard 0 out) (sym (left_sent heard flight out sent e low)) flying) in
    All-same (λ (m : Message). m.block < c.cut.now.blocks) out (flight ++ sent) e
    (All-append (λ (m : Message). m.block < c.cut.now.blocks) flight sent known (All-weaker (IsFlying c.circuit.now c.cut.now c.horizon) (λ m. m.block < c.cut.now.blocks) (λ m is. is.block) sent flies))

at_front : (before after : List Message) (m d : Message) → get_or (before ++ m ∷ after) (length before) d ≡ m
at_front [] after m d = refl
at_front (x ∷ before) after m d = at_front before after m d

without_front : (before after : List Message) (m : Message) → remove (before ++ m ∷ after) (length before) ≡ before ++ after
without_front [] after m = refl
without_front (x ∷ before) after m = ap (λ (ms : List Message). x ∷ ms) (without_front before after m)

module _ (c : Course) (blocks : List Process) (flight : List Message) (heard : List ℕ) (stands : IsOpen c blocks flight heard) (b place : ℕ) (rest : List ℕ) (first : places_for b (place_in heard b) 0 flight ≡ place ∷ rest) (within : b < length heard) where
  pub next : IsNextPlace (place_in heard) (place_in (set heard b (place + 1))) b place 0 rest flight
  next = next_place (place_in heard) (place_in (set heard b (place + 1))) b place 0 rest flight (get_or-set_same heard b (place + 1) 0 within) (λ k other. get_or-set_other heard b k (place + 1) 0 other) first

  abbrev pub world : Scene
  world = scene_left c blocks flight heard

  abbrev pub rank : ℕ
  rank = length next.before

  -- it is there
  pub place_within : place < length flight
  place_within = (let high = next.high in omega (arith, high))

  -- its place among those that are left
  rank_within : rank < length world.flight
  rank_within = (let size = ap length next.split in let more = length-append next.before (next.message ∷ next.after) in omega (arith, size, more))

  removed : remove world.flight rank ≡ next.before ++ next.after
  removed = ap (λ (ms : List Message). remove ms rank) next.split ∙ without_front next.before next.after next.message

  -- those for the block that are left after it
  pub others_after : places_for b (place_in (set heard b (place + 1)) b) 0 flight ≡ rest
  others_after = next.others

  low : (k : ℕ) → place_in (set heard b (place + 1)) k ≤ length flight
  low k = elim (cases_eq k b) [
    | inl here ↦
        (let is : place_in (set heard b (place + 1)) k ≡ place + 1 = subst (λ (j : ℕ). place_in (set heard b (place + 1)) j ≡ place + 1) (sym here) (get_or-set_same heard b (place + 1) 0 within) in
        let l = place_within in
        omega (arith, is, l))
    | inr other ↦
        (let is : place_in (set heard b (place + 1)) k ≡ place_in heard k = get_or-set_other heard b k (place + 1) 0 other in
        let l = stands.within k in
        omega (arith, is, l))
  ]

  module _ (m : Message) (at : m ≡ get_or flight place m) where
    is_next : m ≡ next.message
    is_next = at ∙ (ap (λ (k : ℕ). get_or flight k m) (same place) ∙ next.at m)
      where
        same : (k : ℕ) → k ≡ k - 0
        same k = omega arith

    pub for_block : m.block ≡ b
    for_block = ap (λ (k : Message). k.block) is_next ∙ next.here

    pub at_rank : m ≡ get_or world.flight rank m
    at_rank = is_next ∙ sym (ap (λ (ms : List Message). get_or ms rank m) next.split ∙ at_front next.before next.after next.message m)

    abbrev pub rank_of : ℕ
    rank_of = rank

    pub is_within : rank_of < length world.flight
    is_within = rank_within

    module _ (new : List Process) (out : List Message) (others : IsOtherwiseSame blocks new m.block) (taken : IsTaken (seen_at blocks m.block) (seen_at new m.block) m) (lawful : IsLawful (seen_at new m.block))
        (once : SendsOnce (seen_at blocks m.block) (seen_at new m.block) Minus (λ t. m.time < t) flight out) where
      heard_sends : SendsOnce (seen_at blocks m.block) (seen_at new m.block) Minus (λ t. m.time < t) (remove world.flight rank) (left (place_in (set heard b (place + 1))) 0 out)
      heard_sends = sends_moved (seen_at blocks m.block) (seen_at new m.block) Minus (λ t. m.time < t) flight out (remove world.flight rank) (left (place_in (set heard b (place + 1))) 0 out) once
          (left_sent (place_in (set heard b (place + 1))) flight out once.sends.sent once.sends.appended low ∙ ap (λ (ms : List Message). ms ++ once.sends.sent) (next.gone ∙ sym removed))

      heard_lawful : IsLawfulWorld (scene_left c new out (set heard b (place + 1)))
      heard_lawful = delivered_lawful world stands.law rank m rank_within at_rank new (left (place_in (set heard b (place + 1))) 0 out) others taken lawful heard_sends

      pub heard_open : IsOpen c new out (set heard b (place + 1))
      heard_open = record {
        law = heard_lawful;
        count = length-set heard b (place + 1) ∙ stands.count;
        within = λ k. (let l = low k in let more = longer flight out once.sends.sent once.sends.appended in omega (arith, l, more));
        known = sent_known c (place_in (set heard b (place + 1))) flight out once.sends.sent once.sends.appended low stands.known heard_lawful.flight;
      }

      pub heard_reached : IsReached b world (scene_left c new out (set heard b (place + 1)))
      unfolding delivered_is
      heard_reached = record {
        place = rank;
        step = record {
          played = delivered_is world stands.law rank m rank_within at_rank new (left (place_in (set heard b (place + 1))) 0 out) others taken lawful heard_sends;
          law = heard_lawful;
        };
        here = for_block;
      }

      pub heard_before : (s : ℕ) → IsBefore world s → IsBefore (scene_left c new out (set heard b (place + 1))) s
      heard_before = delivered_before world stands.law rank m rank_within at_rank new (left (place_in (set heard b (place + 1))) 0 out) others taken lawful heard_sends

      pub heard_later : AreSentLater world flight out
      heard_later = (
        once.sends.sent,
        once.sends.appended,
        λ t before. (
            let first : t ≤ m.time = subst (λ (k : Message). t ≤ k.time) (sym at_rank) (All-get_or (λ (k : Message). t ≤ k.time) world.flight rank m rank_within before.flight) in
            All-weaker (IsSendOf (seen_at blocks m.block) (λ u. m.time < u)) (λ k. t < k.time) (λ k is. (let l = is.later in omega (arith, l, first))) once.sends.sent once.sends.named),
      )

module _ (c : Course) (blocks : List Process) (flight : List Message) (heard : List ℕ) (stands : IsOpen c blocks flight heard) (b : ℕ) (within : b < c.cut.now.blocks) (new : List Process) (out : List Message)
    (others : IsOtherwiseSame blocks new b) (lawful : IsLawful (seen_at new b)) (once : SendsOnce (seen_at blocks b) (seen_at new b) Plus (IsAfterEvent (seen_at blocks b)) flight out) where
  run_sends : SendsOnce (seen_at blocks b) (seen_at new b) Plus (IsAfterEvent (seen_at blocks b)) (left (place_in heard) 0 flight) (left (place_in heard) 0 out)
  run_sends = sends_moved (seen_at blocks b) (seen_at new b) Plus (IsAfterEvent (seen_at blocks b)) flight out (left (place_in heard) 0 flight) (left (place_in heard) 0 out) once (left_sent (place_in heard) flight out once.sends.sent once.sends.appended stands.within)

  module _ (count : ℕ) (advanced : IsAdvanced (seen_at blocks b) (seen_at new b) count) where
    pub advanced_open : IsOpen c new out heard
    advanced_open = record {
      law = run_lawful (scene_left c blocks flight heard) stands.law b count within new (left (place_in heard) 0 out) others advanced lawful run_sends;
      count = stands.count;
      within = λ k. (let l = stands.within k in let more = longer flight out once.sends.sent once.sends.appended in omega (arith, l, more));
      known = sent_known c (place_in heard) flight out once.sends.sent once.sends.appended stands.within stands.known
          (run_lawful (scene_left c blocks flight heard) stands.law b count within new (left (place_in heard) 0 out) others advanced lawful run_sends).flight;
    }

    pub advanced_is : IsRun (scene_left c blocks flight heard) (scene_left c new out heard) b count
    advanced_is = run_is (scene_left c blocks flight heard) stands.law b count within new (left (place_in heard) 0 out) others advanced lawful run_sends

    pub advanced_before : (s : ℕ) → IsBefore (scene_left c blocks flight heard) s → IsBefore (scene_left c new out heard) s
    advanced_before = run_before (scene_left c blocks flight heard) stands.law b count within new (left (place_in heard) 0 out) others advanced lawful run_sends

-- Messages reach a block one after another, it advances, and so does each block of an order.
use Rattle.std.proofs.Common.{◌≡◌, ◌≢◌, ℕ, suc, ◌+◌, ◌-◌, ◌<◌, ◌≤◌, ◌++◌, List, [], ◌∷◌, length, get_or, set, take, drop, replicate, inl, inr, refl, ap, sym, ◌∙◌, subst, arith}
use Rattle.std.specs.List.{All, range_with_len, count_by}
use Rattle.std.proofs.lemmas.Bool.{cases_eq, cases_lt}
use Rattle.std.proofs.lemmas.List.{append-nil, append_assoc, drop_more, drop_all, take_at, get_or-set_same, get_or-set_other, get_or-replicate, get_or_past, length-replicate}
use Rattle.std.proofs.lemmas.List.Elements.{All-append, All-same, All-weaker, All-get_or}
use Rattle.warp_process.specs.declared.message.Message.{Message}
use Rattle.warp_process.specs.View.{View, Process, is_busy, busy_times}
use Rattle.warp_core.specs.declared.turns.Course.{Course}
use Rattle.warp_core.specs.declared.turns.waiting.Waiting.{Waiting}
use Rattle.warp_core.specs.Drive.{IsOrder, IsReached, AreReached, IsTurn, AreTurns, IsTurnBegun, flying_to}
use Rattle.warp_core.specs.Inner.Drive.{IsPast}
use Rattle.warp_core.specs.Inner.Turns.{left, place_in, places_for, scene_in, scene_left, AreSentLater, IsOpen, IsHearing, AreTurned, AreTurnsBegun}
use Rattle.warp_core.specs.Inner.Waiting.{listed_for, IsListed}
use Rattle.warp_core.specs.Matched.{seen_at}
use Rattle.warp_core.specs.Play.{IsRun}
use Rattle.warp_core.specs.World.{Scene, IsFlying, IsBefore, IsLawfulWorld}
use Rattle.warp_core.proofs.Driving.{delivered_keeps, order_has}
use Rattle.warp_core.proofs.Leaving.{left-append, left_all, left_count, left_without, places-append, next_place, IsNextPlace}
use Rattle.warp_core.proofs.Turning.{none_reached, one_reached, turns_next}

-- none has reached the block
pub hearing_none : (c : Course) (blocks : List Process) (flight : List Message) (heard : List ℕ) (b : ℕ) (places : List ℕ) → IsOpen c blocks flight heard → places ≡ places_for b (place_in heard b) 0 flight → IsHearing c blocks flight heard b places 0 blocks flight heard
hearing_none c blocks flight heard b places stands is = record {
  stands = stands;
  sent = [];
  appended = sym (append-nil flight);
  later = λ t h i m l. absurd (omega (arith, l));
  rest = sym is;
  others = λ k other. refl;
  low = stands.within;
  reached = none_reached b (scene_left c blocks flight heard);
  never = λ s h. h;
  kept = λ t k l h past. past;
}

module _ (c : Course) (blocks : List Process) (flight : List Message) (heard : List ℕ) (b : ℕ) (places : List ℕ) (count : ℕ) (blocks1 : List Process) (flight1 : List Message) (heard1 : List ℕ)
    (inv : IsHearing c blocks flight heard b places count blocks1 flight1 heard1) (more : count < length places) where
  abbrev pub place : ℕ
  place = get_or places count 0

  left_places : places_for b (place_in heard1 b) 0 flight ≡ place ∷ drop (count + 1) places
  left_places = inv.rest ∙ drop_more places count 0 more

  -- the next message stands at the next place
  pub hearing_first : (rest : List ℕ) × (places_for b (place_in heard1 b) 0 flight1 ≡ place ∷ rest)
  hearing_first = (
    drop (count + 1) places ++ places_for b (place_in heard1 b) (0 + length flight) inv.sent,
    ap (places_for b (place_in heard1 b) 0) inv.appended ∙ (places-append b (place_in heard1 b) 0 flight inv.sent ∙ ap (λ (ns : List ℕ). ns ++ places_for b (place_in heard1 b) (0 + length flight) inv.sent) left_places),
  )

  -- it has reached the block
  pub hearing_more : (within : b < c.cut.now.blocks) (blocks2 : List Process) (flight2 : List Message) (heard2 : List ℕ) → IsOpen c blocks2 flight2 heard2 → IsReached b (scene_left c blocks1 flight1 heard1) (scene_left c blocks2 flight2 heard2) →
      ((s : ℕ) → IsBefore (scene_left c blocks1 flight1 heard1) s → IsBefore (scene_left c blocks2 flight2 heard2) s) → AreSentLater (scene_left c blocks1 flight1 heard1) flight1 flight2 → heard2 ≡ set heard1 b (place + 1) →
      IsHearing c blocks flight heard b places (count + 1) blocks2 flight2 heard2
  hearing_more within blocks2 flight2 heard2 stands reached never sent up = record {
    stands = stands;
    sent = inv.sent ++ sent.0;
    appended = sent.1 ∙ (ap (λ (ms : List Message). ms ++ sent.0) inv.appended ∙ append_assoc flight inv.sent sent.0);
    later = λ t h. All-append (λ (m : Message). t < m.time) inv.sent sent.0 (inv.later t h) (sent.2 t (inv.never t h));
    rest = next.others;
    others = λ k other. others1 k other ∙ inv.others k other;
    low = λ k. elim (cases_eq k b) [
      | inl here ↦
          (let is : place_in heard2 k ≡ place + 1 = subst (λ (j : ℕ). place_in heard2 j ≡ place + 1) (sym here) at_b in
          let high = next.high in
          omega (arith, is, high))
      | inr other ↦ (let l = inv.low k in let is = others1 k other in omega (arith, is, l))
    ];
    reached = subst (λ (k : ℕ). AreReached b k (scene_left c blocks flight heard) (scene_left c blocks2 flight2 heard2)) (one count)
        (one_reached b count (scene_left c blocks flight heard) (scene_left c blocks1 flight1 heard1) (scene_left c blocks2 flight2 heard2) inv.reached reached);
    never = λ s h. never s (inv.never s h);
    kept = λ t k l h past. delivered_keeps (scene_left c blocks1 flight1 heard1) (scene_left c blocks2 flight2 heard2) inv.stands.law stands.law reached.place t reached.step.played (inv.never t h) k l (inv.kept t k l h past);
  }
    where
      room : b < length heard1
      room = (let size = inv.stands.count in omega (arith, size, within))

      at_b : place_in heard2 b ≡ place + 1
      at_b = ap (λ (hs : List ℕ). place_in hs b) up ∙ get_or-set_same heard1 b (place + 1) 0 room

      others1 : (k : ℕ) → k ≢ b → place_in heard2 k ≡ place_in heard1 k
      others1 k other = ap (λ (hs : List ℕ). place_in hs k) up ∙ get_or-set_other heard1 b k (place + 1) 0 other

      next : IsNextPlace (place_in heard1) (place_in heard2) b place 0 (drop (count + 1) places) flight
      next = next_place (place_in heard1) (place_in heard2) b place 0 (drop (count + 1) places) flight at_b others1 left_places

      one : (k : ℕ) → suc k ≡ k + 1
      one k = omega arith

all_left : (P : Message → Type 0) (heard : ℕ → ℕ) (i : ℕ) (ms : List Message) → ((k : ℕ) → heard k ≤ i) → All P ms → All P (left heard i ms)
all_left P heard i ms low all = All-same P (left heard i ms) ms (left_all heard i ms low) all

-- all have
module _ (c : Course) (blocks : List Process) (flight : List Message) (heard : List ℕ) (b : ℕ) (places : List ℕ) (blocks1 : List Process) (flight1 : List Message) (heard1 : List ℕ)
    (inv : IsHearing c blocks flight heard b places (length places) blocks1 flight1 heard1) where
  pub heard_none : places_for b (place_in heard1 b) 0 flight ≡ []
  heard_none = inv.rest ∙ drop_all (length places) places (omega arith)

  pub heard_received : (t : ℕ) → IsBefore (scene_left c blocks flight heard) t → All (λ (m : Message). m.block ≡ b → t < m.time) (left (place_in heard1) 0 flight1)
  heard_received t h =
      let Late : Message → Type 0 = λ m. m.block ≡ b → t < m.time in
      All-same Late (left (place_in heard1) 0 flight1) (left (place_in heard1) 0 flight ++ left (place_in heard1) (0 + length flight) inv.sent) (ap (left (place_in heard1) 0) inv.appended ∙ left-append (place_in heard1) 0 flight inv.sent)
      (All-append Late (left (place_in heard1) 0 flight) (left (place_in heard1) (0 + length flight) inv.sent)
      (All-weaker (λ (m : Message). m.block ≢ b) Late (λ m other is. absurd (other is)) (left (place_in heard1) 0 flight) (left_without (place_in heard1) b 0 flight heard_none))
      (all_left Late (place_in heard1) (0 + length flight) inv.sent (λ k. (let l = inv.low k in omega (arith, l))) (All-weaker (λ (m : Message). t < m.time) Late (λ m l is. l) inv.sent (inv.later t h))))

-- as many fly for the block as there are places
pub flying_places : (c : Course) (blocks : List Process) (flight : List Message) (heard : List ℕ) (b : ℕ) (places : List ℕ) → places ≡ places_for b (place_in heard b) 0 flight → length places ≡ flying_to b (left (place_in heard) 0 flight)
flying_places c blocks flight heard b places is = ap length is ∙ sym (left_count (place_in heard) b 0 flight)

-- ---- turns that don't begin

not_run : (w : Scene) (b : ℕ) → b < w.cut.blocks → IsRun w w b 0
not_run w b within = record {
  course = record { circuit = refl; cut = refl; stimulus = refl; horizon = refl };
  within = within;
  others = record { count = refl; others = λ k other. refl };
  advanced = record {
    part = refl;
    horizon = refl;
    floor = refl;
    queues = refl;
    finished = sym (none (seen_at w.blocks b) (seen_at w.blocks b).mark);
    stays = λ e. refl;
    moves = λ l. absurd (omega (arith, l));
  };
  sends = record {
    sends = record { sent = []; appended = sym (append-nil w.flight); named = λ i m l. absurd (omega (arith, l)); balance = λ p. refl };
    signed = λ i m l. absurd (omega (arith, l));
    once = λ p. omega arith;
  };
}
  where
    none : (v : View) (mark : ℕ) → busy_times v mark mark ≡ 0
    none v mark = ap (λ (k : ℕ). count_by (λ t. is_busy v t) (range_with_len mark k)) (zero mark)
      where
        zero : (k : ℕ) → k - k ≡ 0
        zero k = omega arith

-- a turn of which nothing has happened
pub not_begun : (b : ℕ) (w : Scene) → b < w.cut.blocks → IsTurnBegun b w w
not_begun b w within = elim (cases_lt 0 (flying_to b w.flight)) [
  | inl some ↦ inl (0, some, none_reached b w)
  | inr none ↦ inr (w, subst (λ (k : ℕ). AreReached b k w w) (zero (flying_to b w.flight) none) (none_reached b w), (0, omega arith, not_run w b within))
]
  where
    zero : (k : ℕ) → k ≤ 0 → 0 ≡ k
    zero k l = omega (arith, l)

-- ---- turns of an order

pub turned_none : (order : List ℕ) (w : Scene) → AreTurned order 0 w w
unfolding AreTurns
turned_none order w = record { turns = refl; past = λ t k h none. absurd (omega (arith, none)) }

pub turned_more : (order : List ℕ) (count : ℕ) (old middle new : Scene) → ((s : ℕ) → IsBefore old s → IsBefore middle s) → IsTurn (get_or order count 0) middle new → ((t : ℕ) → IsBefore middle t → IsPast new (get_or order count 0) t) →
    ((t k : ℕ) → k < count → IsBefore middle t → IsPast middle (get_or order k 0) t → IsPast new (get_or order k 0) t) → AreTurned order count old middle → AreTurned order (count + 1) old new
turned_more order count old middle new never turn passes keeps is = record {
  turns = turns_next order count old middle new is.turns turn;
  past = λ t k h l. elim (cases_eq k count) [
    | inl here ↦ subst (λ (j : ℕ). IsPast new (get_or order j 0) t) (sym here) (passes t (never t h))
    | inr other ↦ (let below : k < count = omega (arith, l, other) in keeps t k below (never t h) (is.past t k h below))
  ];
}

pub turned_all : (order : List ℕ) (count : ℕ) (old new : Scene) → count ≡ length order → AreTurned order count old new → AreTurned order (length order) old new
turned_all order count old new all is = subst (λ (k : ℕ). AreTurned order k old new) all is

-- ---- the list before all turns and after them

pub zeros : (n b : ℕ) → ◌≡◌ {A = ℕ} (get_or (replicate n 0) b 0) 0
zeros n b = elim (cases_lt b n) [
  | inl within ↦ get_or-replicate n b 0 0 within
  | inr past ↦ get_or_past (replicate n 0) b 0 (let size = length-replicate {A = ℕ} n 0 in omega (arith, past, size))
]

-- where nothing is heard all are left
pub unheard_left : (heard : List ℕ) (flight : List Message) → ((b : ℕ) → place_in heard b ≡ 0) → left (place_in heard) 0 flight ≡ flight
unheard_left heard flight none = left_all (place_in heard) 0 flight (λ b. (let e = none b in omega (arith, e)))

-- nothing is heard
pub unheard : (heard : List ℕ) (n : ℕ) → heard ≡ replicate n 0 → (b : ℕ) → place_in heard b ≡ 0
unheard heard n e b = ap (λ (hs : List ℕ). place_in hs b) e ∙ zeros n b

pub opened : (c : Course) (blocks : List Process) (flight : List Message) (heard : List ℕ) (n : ℕ) → n ≡ c.cut.now.blocks → heard ≡ replicate n 0 → IsLawfulWorld (scene_in c blocks flight) → IsOpen c blocks flight heard
opened c blocks flight heard n size e law = record {
  law = subst (λ (ms : List Message). IsLawfulWorld (scene_in c blocks ms)) (sym (unheard_left heard flight (unheard heard n e))) law;
  count = ap length e ∙ (length-replicate n 0 ∙ size);
  within = λ b. (let none = unheard heard n e b in omega (arith, none));
  known = All-weaker (IsFlying c.circuit.now c.cut.now c.horizon) (λ m. m.block < c.cut.now.blocks) (λ m is. is.block) flight law.flight;
}

-- no block has had its turn
pub none_begun : (order : List ℕ) (w : Scene) → IsOrder w.cut.blocks order → 1 ≤ w.cut.blocks → AreTurnsBegun order w w
none_begun order w is some =
    let first = order_has order w.cut.blocks 0 is (omega (arith, some)) in
    let l = first.1 in
    let within : 0 < length order = omega (arith, l) in
    let turned : AreTurned order 0 w w = turned_none order w in
    record {
      count = 0;
      within = within;
      turned = w;
      turns = turned.turns;
      begun = not_begun (get_or order 0 0) w (All-get_or (λ b. b < w.cut.blocks) order 0 0 within is.within);
    }

-- ---- what is listed after a turn

pub listed_after : (blocks : ℕ) (waiting waiting1 : Waiting) (heard heard1 : ℕ → ℕ) (flight flight1 sent : List Message) (b : ℕ) → IsListed blocks waiting heard flight → flight1 ≡ flight ++ sent →
    length waiting1.lists.items ≡ length waiting.lists.items → waiting1.listed ≡ waiting.listed → listed_for waiting1 b ≡ [] → ((k : ℕ) → k ≢ b → listed_for waiting1 k ≡ listed_for waiting k) → ((k : ℕ) → k ≢ b → heard1 k ≡ heard k) →
    places_for b (heard1 b) 0 flight ≡ [] → IsListed blocks waiting1 heard1 (take waiting1.listed flight1)
listed_after blocks waiting waiting1 heard heard1 flight flight1 sent b is e count size none others same gone =
    subst (IsListed blocks waiting1 heard1) (sym taken) (record {
      count = count ∙ is.count;
      size = size ∙ is.size;
      lists = λ k. elim (cases_eq k b) [
        | inl here ↦ subst (λ (j : ℕ). listed_for waiting1 j ≡ places_for j (heard1 j) 0 flight) (sym here) (none ∙ sym gone)
        | inr other ↦ others k other ∙ (is.lists k ∙ ap (λ (from : ℕ). places_for k from 0 flight) (sym (same k other)))
      ];
    })
  where
    taken : take waiting1.listed flight1 ≡ flight
    taken = ap (λ (k : ℕ). take k flight1) (size ∙ is.size) ∙ (ap (take (length flight)) e ∙ take_at flight sent (length flight) refl)

-- Nodes of a tournament, and the last nodes that they stand for.
use Rattle.std.proofs.Common.{◌≡◌, ◌≢◌, ℕ, zero, suc, ◌+◌, ◌*◌, ◌/◌, ◌^◌, ◌<◌, ◌≤◌, ◌⊎◌, inl, inr, min, List, [], ◌∷◌, length, get_or, set, take, drop, replicate, refl, ap, sym, ◌∙◌, subst, arith, length-drop, mul_assoc, mul-le-mul_right, suc-mul, pow-suc, le-mul_of_pos_right, get_or-set_other}
use Rattle.std.specs.Int.{IsPowerOfTwo}
use Rattle.std.proofs.lemmas.Nat.{pow_pos}
use Rattle.std.proofs.Math.Nat.{add-mul}
use Rattle.std.proofs.lemmas.List.{get_or-drop, get_or-take, length-take-le}
use Rattle.std.proofs.Math.Seq.{take-set-lt}
use Rattle.warp_stores.specs.declared.least.TheConstants.{NEVER}
use Rattle.warp_stores.specs.declared.least.Seat.{Seat}
use Rattle.warp_stores.specs.Least.{least_of}
use Rattle.warp_stores.specs.Inner.Least.{IsWon, IsTournament, HasPlaces, Covers, IsSeat, AreLater, IsPart}
use Rattle.warp_stores.specs.Shown.Least.{leaves}
use Rattle.warp_stores.proofs.Tournaments.{root_least}

twice : (k : ℕ) → 2 ^ suc k ≡ 2 ^ k * 2
twice k = pow-suc 2 k

-- one level up, or down
shift : (a p : ℕ) → (a * 2) * p ≡ a * (p * 2)
shift a p = mul_assoc a 2 p ∙ (let e : 2 * p ≡ p * 2 = omega arith in ap (λ (n : ℕ). a * n) e)

shift_left : (a p : ℕ) → (2 * a) * p ≡ a * (p * 2)
shift_left a p = (let e : 2 * a ≡ a * 2 = omega arith in ap (λ (n : ℕ). n * p) e) ∙ shift a p

one_more : (n p : ℕ) → (n + 1) * p ≡ n * p + p
one_more n p = (let e : n + 1 ≡ suc n = omega arith in ap (λ (m : ℕ). m * p) e) ∙ suc-mul n p

-- the last nodes up to behind a node's
covers_end : {nodes : List ℕ} {level left node leaf : ℕ} → Covers nodes level left node leaf → leaf + 2 ^ level ≤ length nodes
covers_end {nodes} {level} {left} {node} {leaf} c =
    let many : length nodes ≡ 2 ^ left * 2 ^ level = c.many in
    let first : leaf ≡ node * 2 ^ level = c.first in
    let in_time : node < 2 ^ left = c.within in
    let le : (node + 1) * 2 ^ level ≤ 2 ^ left * 2 ^ level = mul-le-mul_right (2 ^ level) (omega arith) in
    omega (arith, one_more node (2 ^ level))

covers_node : {nodes : List ℕ} {level left node leaf : ℕ} → Covers nodes level left node leaf → node ≤ leaf
covers_node {nodes} {level} {left} {node} {leaf} c = omega (arith, c.first, le-mul_of_pos_right node (pow_pos level))

covers_left : {nodes : List ℕ} {level left node leaf : ℕ} → Covers nodes (suc level) left node leaf → Covers nodes level (suc left) (2 * node) leaf
covers_left {nodes} {level} {left} {node} {leaf} c = record {
  many = c.many ∙ ap (λ (n : ℕ). 2 ^ left * n) (twice level) ∙ sym (shift (2 ^ left) (2 ^ level)) ∙ ap (λ (n : ℕ). n * 2 ^ level) (sym (twice left));
  some = omega (arith, c.some);
  within = omega (arith, c.within, twice left);
  first = c.first ∙ ap (λ (n : ℕ). node * n) (twice level) ∙ sym (shift_left node (2 ^ level));
}

covers_right : {nodes : List ℕ} {level left node leaf : ℕ} → Covers nodes (suc level) left node leaf → Covers nodes level (suc left) (2 * node + 1) (leaf + 2 ^ level)
covers_right {nodes} {level} {left} {node} {leaf} c =
    let l : Covers nodes level (suc left) (2 * node) leaf = covers_left c in
    record {
      many = l.many;
      some = omega arith;
      within = omega (arith, c.within, twice left);
      first = omega (arith, l.first, one_more (2 * node) (2 ^ level));
    }

-- a node is at most each that it stands for
low : (nodes : List ℕ) → IsTournament nodes → (level left node leaf k : ℕ) → Covers nodes level left node leaf → leaf ≤ k → k < leaf + 2 ^ level → get_or nodes node 0 ≤ get_or nodes k 0
low nodes t zero left node leaf k c from to = (let e : k ≡ node = omega (arith, c.first) in rw e (omega arith))
low nodes t (suc level) left node leaf k c from to =
    let l : Covers nodes level (suc left) (2 * node) leaf = covers_left c in
    let r : Covers nodes level (suc left) (2 * node + 1) (leaf + 2 ^ level) = covers_right c in
    let inside : 2 * node + 1 < length nodes = omega (arith, covers_node r, covers_end r, pow_pos level) in
    let even : length nodes ≡ 2 * (length nodes / 2) = t.halves in
    let won : IsWon nodes node = t.won node c.some (omega arith) in
    elim (left_or_right k (leaf + 2 ^ level)) [
      | inl less ↦ (let h : get_or nodes (2 * node) 0 ≤ get_or nodes k 0 = low nodes t level (suc left) (2 * node) leaf k l from less in omega arith)
      | inr more ↦ (let h : get_or nodes (2 * node + 1) 0 ≤ get_or nodes k 0 = low nodes t level (suc left) (2 * node + 1) (leaf + 2 ^ level) k r more (omega (arith, twice level)) in omega arith)
    ]
  where
    left_or_right : (a b : ℕ) → (a < b) ⊎ (b ≤ a)
    left_or_right a b = grind arith

-- what a seat's node is later than, all that it stands for are later than
pub seat_later : {nodes : List ℕ} (time : ℕ) (seat : Seat) → IsTournament nodes → IsSeat nodes seat → time < get_or nodes seat.node 0 → AreLater time nodes seat.leaf (seat.leaf + seat.width)
seat_later {nodes} time seat t s late = λ k from to.
    let h : get_or nodes seat.node 0 ≤ get_or nodes k 0 = low nodes t s.level s.left seat.node seat.leaf k s.covers from (omega (arith, s.width)) in
    omega arith

pub seat_end : {nodes : List ℕ} {seat : Seat} → IsSeat nodes seat → (0 < seat.node) × (0 < seat.width) × (seat.node ≤ seat.leaf) × (seat.leaf + seat.width ≤ length nodes)
seat_end s = (s.covers.some, omega (arith, s.width, pow_pos s.level), covers_node s.covers, omega (arith, s.width, covers_end s.covers))

-- the first node stands for the second half
pub seat_root : (nodes : List ℕ) → IsTournament nodes → IsPowerOfTwo (length nodes / 2) → IsSeat nodes (record { node = 1; width = length nodes / 2; leaf = length nodes / 2 })
seat_root nodes t power =
    let even : length nodes ≡ 2 * (length nodes / 2) = t.halves in
    let half : length nodes / 2 ≡ 2 ^ power.0 = power.1 in
    record {
      level = power.0;
      left = 1;
      width = half;
      covers = record { many = omega (arith, twice 0); some = omega arith; within = omega (arith, twice 0); first = omega arith };
    }

-- a wide seat has two halves
halves : (nodes : List ℕ) (level left width node leaf : ℕ) → width ≡ 2 ^ level → 1 < width → Covers nodes level left node leaf → (l : ℕ) × (level ≡ suc l) × (width / 2 ≡ 2 ^ l)
halves nodes zero left width node leaf e wide c = absurd (omega arith)
halves nodes (suc l) left width node leaf e wide c = (l, refl, omega (arith, twice l))

pub seat_left : {nodes : List ℕ} (seat : Seat) → IsSeat nodes seat → 1 < seat.width → IsSeat nodes (record { node = 2 * seat.node; width = seat.width / 2; leaf = seat.leaf })
seat_left {nodes} seat s wide =
    let h : (l : ℕ) × (s.level ≡ suc l) × (seat.width / 2 ≡ 2 ^ l) = halves nodes s.level s.left seat.width seat.node seat.leaf s.width wide s.covers in
    let c : Covers nodes (suc h.0) s.left seat.node seat.leaf = subst (λ (n : ℕ). Covers nodes n s.left seat.node seat.leaf) h.1 s.covers in
    record { level = h.0; left = suc s.left; width = h.2; covers = covers_left c }

pub seat_right : {nodes : List ℕ} (seat : Seat) → IsSeat nodes seat → 1 < seat.width → IsSeat nodes (record { node = 2 * seat.node + 1; width = seat.width / 2; leaf = seat.leaf + seat.width / 2 })
seat_right {nodes} seat s wide =
    let h : (l : ℕ) × (s.level ≡ suc l) × (seat.width / 2 ≡ 2 ^ l) = halves nodes s.level s.left seat.width seat.node seat.leaf s.width wide s.covers in
    let c : Covers nodes (suc h.0) s.left seat.node seat.leaf = subst (λ (n : ℕ). Covers nodes n s.left seat.node seat.leaf) h.1 s.covers in
    record { level = h.0; left = suc s.left; width = h.2; covers = rw h.2 (covers_right c) }

pub half_left : {nodes : List ℕ} (time : ℕ) (seat : Seat) → IsSeat nodes seat → 1 < seat.width → get_or nodes (2 * seat.node) 0 ≤ time → IsPart time nodes seat (record { node = 2 * seat.node; width = seat.width / 2; leaf = seat.leaf })
half_left {nodes} time seat s wide found = record {
  is = seat_left seat s wide;
  width = omega arith;
  from = omega arith;
  to = omega arith;
  found = found;
  passed = λ k a b. absurd (omega arith);
}

pub half_right : {nodes : List ℕ} (time : ℕ) (seat : Seat) → IsTournament nodes → IsSeat nodes seat → 1 < seat.width → get_or nodes seat.node 0 ≤ time → time < get_or nodes (2 * seat.node) 0 → IsPart time nodes seat (record { node = 2 * seat.node + 1; width = seat.width / 2; leaf = seat.leaf + seat.width / 2 })
half_right {nodes} time seat t s wide found late =
    let l : IsSeat nodes (record { node = 2 * seat.node; width = seat.width / 2; leaf = seat.leaf }) = seat_left seat s wide in
    let r : IsSeat nodes (record { node = 2 * seat.node + 1; width = seat.width / 2; leaf = seat.leaf + seat.width / 2 }) = seat_right seat s wide in
    let e : (0 < 2 * seat.node + 1) × (0 < seat.width / 2) × (2 * seat.node + 1 ≤ seat.leaf + seat.width / 2) × ((seat.leaf + seat.width / 2) + seat.width / 2 ≤ length nodes) = seat_end r in
    let even : length nodes ≡ 2 * (length nodes / 2) = t.halves in
    let won : IsWon nodes seat.node = t.won seat.node s.covers.some (omega (arith, e.1, e.2, e.3)) in
    record {
      is = r;
      width = omega arith;
      from = omega arith;
      to = omega arith;
      found = omega arith;
      passed = seat_later time (record { node = 2 * seat.node; width = seat.width / 2; leaf = seat.leaf }) t l late;
    }

pub later_more : (time : ℕ) (nodes : List ℕ) (a b c : ℕ) → AreLater time nodes a b → AreLater time nodes b c → AreLater time nodes a c
later_more time nodes a b c first second = λ k from to. elim (ahead_or_behind k b) [ inl less ↦ first k from less | inr more ↦ second k more to ]
  where
    ahead_or_behind : (a b : ℕ) → (a < b) ⊎ (b ≤ a)
    ahead_or_behind a b = grind arith

-- a seat of one stands for itself
pub seat_one : {nodes : List ℕ} (seat : Seat) → IsSeat nodes seat → seat.width ≤ 1 → seat.node ≡ seat.leaf
seat_one {nodes} seat s narrow = one nodes s.level s.left seat.width seat.node seat.leaf s.width narrow s.covers
  where
    one : (nodes : List ℕ) (level left width node leaf : ℕ) → width ≡ 2 ^ level → width ≤ 1 → Covers nodes level left node leaf → node ≡ leaf
    one nodes zero left width node leaf e h c = omega (arith, c.first)
    one nodes (suc l) left width node leaf e h c = absurd (omega (arith, twice l, pow_pos l))

-- the four seats of a seat's halves' halves
covers_quarter : {nodes : List ℕ} {level left node leaf : ℕ} → Covers nodes (suc (suc level)) left node leaf → (j : ℕ) → j < 4 → Covers nodes level (suc (suc left)) (4 * node + j) (leaf + j * 2 ^ level)
covers_quarter {nodes} {level} {left} {node} {leaf} c j few =
    let l : Covers nodes level (suc (suc left)) (2 * (2 * node)) leaf = covers_left (covers_left c) in
    let four : 2 * (2 * node) ≡ 4 * node = omega arith in
    let first : leaf ≡ 4 * node * 2 ^ level = l.first ∙ ap (λ (n : ℕ). n * 2 ^ level) four in
    record {
      many = l.many;
      some = omega (arith, c.some);
      within = omega (arith, c.within, twice left, twice (suc left));
      first = omega (arith, first, add-mul (4 * node) j (2 ^ level));
    }

-- a seat of more than two has four such
fours : (nodes : List ℕ) (level left width node leaf : ℕ) → width ≡ 2 ^ level → 2 < width → Covers nodes level left node leaf → (l : ℕ) × (level ≡ suc (suc l)) × (width / 4 ≡ 2 ^ l) × (width ≡ 4 * 2 ^ l)
fours nodes zero left width node leaf e wide c = absurd (omega arith)
fours nodes (suc zero) left width node leaf e wide c = absurd (omega (arith, twice 0))
fours nodes (suc (suc l)) left width node leaf e wide c =
    let is : width ≡ 4 * 2 ^ l = omega (arith, twice l, twice (suc l)) in
    (l, refl, omega arith, is)

quarter_seat : {nodes : List ℕ} (seat : Seat) → IsSeat nodes seat → 2 < seat.width → (j : ℕ) → j < 4 → IsSeat nodes (record { node = 4 * seat.node + j; width = seat.width / 4; leaf = seat.leaf + j * (seat.width / 4) })
quarter_seat {nodes} seat s wide j few =
    let h : (l : ℕ) × (s.level ≡ suc (suc l)) × (seat.width / 4 ≡ 2 ^ l) × (seat.width ≡ 4 * 2 ^ l) = fours nodes s.level s.left seat.width seat.node seat.leaf s.width wide s.covers in
    let c : Covers nodes (suc (suc h.0)) s.left seat.node seat.leaf = subst (λ (n : ℕ). Covers nodes n s.left seat.node seat.leaf) h.1 s.covers in
    record { level = h.0; left = suc (suc s.left); width = h.2; covers = rw h.2 (covers_quarter c j few) }

pub quarters_within : {nodes : List ℕ} (seat : Seat) → IsSeat nodes seat → 2 < seat.width → 4 * seat.node + 3 < length nodes
quarters_within {nodes} seat s wide =
    let last : IsSeat nodes (record { node = 4 * seat.node + 3; width = seat.width / 4; leaf = seat.leaf + 3 * (seat.width / 4) }) = quarter_seat seat s wide 3 (omega arith) in
    let e : (0 < 4 * seat.node + 3) × (0 < seat.width / 4) × (4 * seat.node + 3 ≤ seat.leaf + 3 * (seat.width / 4)) × ((seat.leaf + 3 * (seat.width / 4)) + seat.width / 4 ≤ length nodes) = seat_end last in
    omega (arith, e.1, e.2, e.3)

-- what nodes are later than, all that they stand for are later than
later_quarters : {nodes : List ℕ} (time : ℕ) (seat : Seat) → IsTournament nodes → IsSeat nodes seat → 2 < seat.width → (j : ℕ) → j ≤ 3 → AreLater time nodes (4 * seat.node) (4 * seat.node + j)
    → AreLater time nodes seat.leaf (seat.leaf + j * (seat.width / 4))
later_quarters time seat t s wide zero few late = λ k a b. absurd (omega arith)
later_quarters {nodes} time seat t s wide (suc j) few late =
    let before : AreLater time nodes seat.leaf (seat.leaf + j * (seat.width / 4)) = later_quarters time seat t s wide j (omega arith) (λ k a b. late k a (omega arith)) in
    let this : time < get_or nodes (4 * seat.node + j) 0 = late (4 * seat.node + j) (omega arith) (omega arith) in
    let quarter : Seat = record { node = 4 * seat.node + j; width = seat.width / 4; leaf = seat.leaf + j * (seat.width / 4) } in
    let own : AreLater time nodes (seat.leaf + j * (seat.width / 4)) ((seat.leaf + j * (seat.width / 4)) + seat.width / 4) = seat_later time quarter t (quarter_seat seat s wide j (omega arith)) this in
    λ k a b. later_more time nodes seat.leaf (seat.leaf + j * (seat.width / 4)) ((seat.leaf + j * (seat.width / 4)) + seat.width / 4) before own k a (omega (arith, b, suc-mul j (seat.width / 4)))

-- of four nodes the last one has what the others haven't
last_quarter : {nodes : List ℕ} (time node : ℕ) → IsTournament nodes → 0 < node → 4 * node + 3 < length nodes → get_or nodes node 0 ≤ time → AreLater time nodes (4 * node) (4 * node + 3) → get_or nodes (4 * node + 3) 0 ≤ time
last_quarter {nodes} time node t some inside found late =
    let even : length nodes ≡ 2 * (length nodes / 2) = t.halves in
    let top : get_or nodes node 0 ≡ min (get_or nodes (2 * node) 0) (get_or nodes (2 * node + 1) 0) = t.won node some (omega arith) in
    let left : get_or nodes (2 * node) 0 ≡ min (get_or nodes (2 * (2 * node)) 0) (get_or nodes (2 * (2 * node) + 1) 0) = t.won (2 * node) (omega arith) (omega arith) in
    let right : get_or nodes (2 * node + 1) 0 ≡ min (get_or nodes (2 * (2 * node + 1)) 0) (get_or nodes (2 * (2 * node + 1) + 1) 0) = t.won (2 * node + 1) (omega arith) (omega arith) in
    let first : time < get_or nodes (2 * (2 * node)) 0 = late (2 * (2 * node)) (omega arith) (omega arith) in
    let second : time < get_or nodes (2 * (2 * node) + 1) 0 = late (2 * (2 * node) + 1) (omega arith) (omega arith) in
    let third : time < get_or nodes (2 * (2 * node + 1)) 0 = late (2 * (2 * node + 1)) (omega arith) (omega arith) in
    let is : 4 * node + 3 ≡ 2 * (2 * node + 1) + 1 = omega arith in
    let there : get_or nodes (4 * node + 3) 0 ≡ get_or nodes (2 * (2 * node + 1) + 1) 0 = ap (λ (k : ℕ). get_or nodes k 0) is in
    omega arith

-- the quarter behind those that are passed over
pub quarter : {nodes : List ℕ} (time : ℕ) (seat : Seat) → IsTournament nodes → IsSeat nodes seat → 2 < seat.width → get_or nodes seat.node 0 ≤ time
    → (j : ℕ) → j ≤ 3 → AreLater time nodes (4 * seat.node) (4 * seat.node + j) → (j < 3 → get_or nodes (4 * seat.node + j) 0 ≤ time)
    → IsPart time nodes seat (record { node = 4 * seat.node + j; width = seat.width / 4; leaf = seat.leaf + j * (seat.width / 4) })
quarter {nodes} time seat t s wide found j few late there =
    let h : (l : ℕ) × (s.level ≡ suc (suc l)) × (seat.width / 4 ≡ 2 ^ l) × (seat.width ≡ 4 * 2 ^ l) = fours nodes s.level s.left seat.width seat.node seat.leaf s.width wide s.covers in
    let four : seat.width ≡ 4 * (seat.width / 4) = omega (arith, h.2, h.3) in
    let end : (j + 1) * (seat.width / 4) ≤ 4 * (seat.width / 4) = mul-le-mul_right (seat.width / 4) (omega arith) in
    record {
      is = quarter_seat seat s wide j (omega arith);
      width = omega arith;
      from = omega arith;
      to = omega (arith, four, end, one_more j (seat.width / 4));
      found = elim (some_or_all j few) [ inl less ↦ there less | inr all ↦ (rw all (last_quarter time seat.node t s.covers.some inside found (subst (λ (n : ℕ). AreLater time nodes (4 * seat.node) (4 * seat.node + n)) all late))) ];
      passed = later_quarters time seat t s wide j few late;
    }
  where
    some_or_all : (j : ℕ) → j ≤ 3 → (j < 3) ⊎ (j ≡ 3)
    some_or_all j h = grind arith

    inside : 4 * seat.node + 3 < length nodes
    inside = quarters_within seat s wide

-- on the way down
pub record IsSoughtUnder (time : ℕ) (nodes : List ℕ) (seat below : Seat) : Type 0 where
  pub is : IsSeat nodes below
  pub from : seat.leaf ≤ below.leaf
  pub to : below.leaf + below.width ≤ seat.leaf + seat.width
  pub found : get_or nodes below.node 0 ≤ time
  pub passed : AreLater time nodes seat.leaf below.leaf

-- times that are over are nothing to the least
least_of-never : (ts : List ℕ) → ((k : ℕ) → k < length ts → get_or ts k 0 ≡ NEVER) → least_of ts ≡ NEVER
least_of-never [] h = refl
least_of-never (t ∷ ts) h = (let first : t ≡ NEVER = h zero (omega arith) in let rest : least_of ts ≡ NEVER = least_of-never ts (λ k l. h (suc k) (omega arith)) in omega arith)

least_of-take : (ts : List ℕ) (count : ℕ) → ((k : ℕ) → count ≤ k → k < length ts → get_or ts k 0 ≡ NEVER) → least_of ts ≡ least_of (take count ts)
least_of-take [] zero h = refl
least_of-take [] (suc count) h = refl
least_of-take (t ∷ ts) zero h = least_of-never (t ∷ ts) (λ k l. h k (omega arith) l)
least_of-take (t ∷ ts) (suc count) h = ap (min t) (least_of-take ts count (λ k a b. h (suc k) (omega arith) (omega arith)))

pub two_nodes : {count : ℕ} {nodes : List ℕ} → HasPlaces count nodes → 2 ≤ length nodes
two_nodes {count} {nodes} h = (let even : length nodes ≡ 2 * (length nodes / 2) = h.tournament.halves in let e : length nodes / 2 ≡ 2 ^ h.power.0 = h.power.1 in omega (arith, pow_pos h.power.0))

length-leaves : (nodes : List ℕ) → IsTournament nodes → length (leaves nodes) ≡ length nodes / 2
length-leaves nodes t = omega (arith, length-drop (length nodes / 2) nodes, t.halves)

pub root_places : (count : ℕ) (nodes : List ℕ) → HasPlaces count nodes → get_or nodes 1 0 ≤ NEVER → get_or nodes 1 0 ≡ least_of (take count (leaves nodes))
root_places count nodes h n =
    root_least nodes h.tournament (two_nodes h) n
    ∙ least_of-take (leaves nodes) count (λ k a b. h.over k a (omega (arith, length-leaves nodes h.tournament)))

pub length-places : (count : ℕ) (nodes : List ℕ) → HasPlaces count nodes → length (take count (leaves nodes)) ≡ count
length-places count nodes h = length-take-le count (leaves nodes) (omega (arith, h.within, length-leaves nodes h.tournament))

-- a place's time
pub place_time : (count : ℕ) (nodes : List ℕ) (k : ℕ) → k < count → get_or (take count (leaves nodes)) k 0 ≡ get_or nodes (length nodes / 2 + k) 0
place_time count nodes k l = get_or-take count (leaves nodes) k 0 l ∙ get_or-drop (length nodes / 2) nodes k 0

pub places_set : (count place time : ℕ) (nodes nodes' : List ℕ) → HasPlaces count nodes → place < count → length nodes' ≡ length nodes → IsTournament nodes' → leaves nodes' ≡ set (leaves nodes) place time
    → HasPlaces count nodes' × (take count (leaves nodes') ≡ set (take count (leaves nodes)) place time)
places_set count place time nodes nodes' h l same t is = (
  record {
    tournament = t;
    power = subst (λ (n : ℕ). IsPowerOfTwo (n / 2)) (sym same) h.power;
    within = rw same h.within;
    over = λ k a b. (let other : k ≢ place = omega arith in let b' : k < length nodes / 2 = rw same at b in ap (λ (ts : List ℕ). get_or ts k 0) is ∙ get_or-set_other (leaves nodes) place k time 0 other ∙ h.over k a b');
  },
  ap (take count) is ∙ take-set-lt count (leaves nodes) place time l,
)

-- new places
get_or-never : (n k : ℕ) → k < n → get_or (replicate n NEVER) k 0 ≡ NEVER
get_or-never zero k h = absurd (omega arith)
get_or-never (suc n) zero h = refl
get_or-never (suc n) (suc k) h = get_or-never n k (omega arith)

length-never : (n : ℕ) → length (replicate n NEVER) ≡ n
length-never zero = refl
length-never (suc n) = ap suc (length-never n)

drop-never : (m n : ℕ) → drop m (replicate (m + n) NEVER) ≡ replicate n NEVER
drop-never zero n = (let e : 0 + n ≡ n = omega arith in rw e refl)
drop-never (suc m) n = (let e : suc m + n ≡ suc (m + n) = omega arith in rw e (drop-never m n))

take-never : (m n : ℕ) → m ≤ n → take m (replicate n NEVER) ≡ replicate m NEVER
take-never zero n h = refl
take-never (suc m) zero h = absurd (omega arith)
take-never (suc m) (suc n) h = ap (λ (ts : List ℕ). NEVER ∷ ts) (take-never m n (omega arith))

pub new_places : (count half : ℕ) (nodes : List ℕ) → IsPowerOfTwo half → count ≤ half → nodes ≡ replicate (2 * half) NEVER → HasPlaces count nodes × (take count (leaves nodes) ≡ replicate count NEVER)
new_places count half nodes power within is =
    let len : length nodes ≡ 2 * half = ap length is ∙ length-never (2 * half) in
    let halved : length nodes / 2 ≡ half = omega arith in
    let two : 2 * half ≡ half + half = omega arith in
    let behind : leaves nodes ≡ replicate half NEVER = rw halved (ap (drop half) is ∙ rw two (drop-never half half)) in (
      record {
        tournament = record {
          halves = omega arith;
          won = λ i some l. (
              let at : (k : ℕ) → k < 2 * half → get_or nodes k 0 ≡ NEVER = λ k h. ap (λ (ts : List ℕ). get_or ts k 0) is ∙ get_or-never (2 * half) k h in
              let a : get_or nodes i 0 ≡ NEVER = at i (omega arith) in
              let b : get_or nodes (2 * i) 0 ≡ NEVER = at (2 * i) (omega arith) in
              let c : get_or nodes (2 * i + 1) 0 ≡ NEVER = at (2 * i + 1) (omega arith) in
              omega arith);
        };
        power = rw halved power;
        within = omega arith;
        over = λ k a b. ap (λ (ts : List ℕ). get_or ts k 0) behind ∙ get_or-never half k (omega arith);
      },
      ap (take count) behind ∙ take-never count half within,
    )

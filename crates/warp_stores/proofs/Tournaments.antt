-- Tournaments.
use Rattle.std.proofs.Common.{◌≡◌, ℕ, zero, suc, ◌+◌, ◌-◌, ◌*◌, ◌/◌, ◌<◌, ◌≤◌, ◌⊎◌, inl, inr, min, List, [], ◌∷◌, length, get_or, refl, ap, ◌∙◌, arith, length-drop}
use Rattle.std.proofs.lemmas.List.{get_or-drop}
use Rattle.warp_stores.specs.declared.least.TheConstants.{NEVER}
use Rattle.warp_stores.specs.Least.{least_of}
use Rattle.warp_stores.specs.Inner.Least.{IsWon, IsTournament}
use Rattle.warp_stores.specs.Shown.Least.{leaves}

-- what is at most each time is at most the least
least_of-low : (m : ℕ) (ts : List ℕ) → m ≤ NEVER → ((k : ℕ) → k < length ts → m ≤ get_or ts k 0) → m ≤ least_of ts
least_of-low m [] n h = n
least_of-low m (t ∷ ts) n h =
    let first : m ≤ t = h 0 (omega arith) in
    let rest : m ≤ least_of ts = least_of-low m ts n (λ k l. h (suc k) (omega arith)) in
    omega arith

-- the least is at most each time
least_of-at : (ts : List ℕ) (k : ℕ) → k < length ts → least_of ts ≤ get_or ts k 0
least_of-at [] k l = absurd (omega arith)
least_of-at (t ∷ ts) zero l = omega arith
least_of-at (t ∷ ts) (suc k) l = let rest : least_of ts ≤ get_or ts k 0 = least_of-at ts k (omega arith) in omega arith

halves_of : (i : ℕ) → (i ≡ 2 * (i / 2)) ⊎ (i ≡ 2 * (i / 2) + 1)
halves_of i = grind arith

one_or_more : (i : ℕ) → (i ≤ 1) ⊎ (1 < i)
one_or_more i = grind arith

-- the first node is at most a node, where it is at most those ahead of it
root_step : (nodes : List ℕ) → IsTournament nodes → (i : ℕ) → 0 < i → i < length nodes → ((j : ℕ) → j < i → 0 < j → get_or nodes 1 0 ≤ get_or nodes j 0) → get_or nodes 1 0 ≤ get_or nodes i 0
root_step nodes t i p l ahead =
    elim (one_or_more i) [
      | inl h ↦ (let e : i ≡ 1 = omega arith in rw e (omega arith))
      | inr h ↦ (
          let even : length nodes ≡ 2 * (length nodes / 2) = t.halves in
          let up : get_or nodes 1 0 ≤ get_or nodes (i / 2) 0 = ahead (i / 2) (omega arith) (omega arith) in
          let won : IsWon nodes (i / 2) = t.won (i / 2) (omega arith) (omega arith) in
          elim (halves_of i) [
            | inl e ↦ (let at : get_or nodes i 0 ≡ get_or nodes (2 * (i / 2)) 0 = ap (λ (j : ℕ). get_or nodes j 0) e in omega arith)
            | inr e ↦ (let at : get_or nodes i 0 ≡ get_or nodes (2 * (i / 2) + 1) 0 = ap (λ (j : ℕ). get_or nodes j 0) e in omega arith)
          ])
    ]

-- the first node is at most each
root_low : (nodes : List ℕ) → IsTournament nodes → (fuel i : ℕ) → i ≤ fuel → 0 < i → i < length nodes → get_or nodes 1 0 ≤ get_or nodes i 0
root_low nodes t zero i f p l = absurd (omega arith)
root_low nodes t (suc fuel) i f p l = root_step nodes t i p l (λ j h g. root_low nodes t fuel j (omega arith) g (omega arith))

-- a node of the second half has what a node has
record HasLeaf (nodes : List ℕ) (i : ℕ) : Type 0 where
  leaf : ℕ
  behind : length nodes / 2 ≤ leaf
  within : leaf < length nodes
  same : get_or nodes leaf 0 ≡ get_or nodes i 0

inner_or_leaf : (half i : ℕ) → (half ≤ i) ⊎ (i < half)
inner_or_leaf half i = grind arith

lesser : (m a b : ℕ) → m ≡ min a b → (a ≡ m) ⊎ (b ≡ m)
lesser m a b e = grind arith

leaf_step : (nodes : List ℕ) → IsTournament nodes → (i : ℕ) → 0 < i → i < length nodes → ((j : ℕ) → i < j → j < length nodes → HasLeaf nodes j) → HasLeaf nodes i
leaf_step nodes t i p l behind =
    elim (inner_or_leaf (length nodes / 2) i) [
      | inl h ↦ record { leaf = i; behind = h; within = l; same = refl }
      | inr h ↦ elim (lesser (get_or nodes i 0) (get_or nodes (2 * i) 0) (get_or nodes (2 * i + 1) 0) (t.won i p h)) [
        | inl e ↦ (let r : HasLeaf nodes (2 * i) = behind (2 * i) (omega arith) (omega arith) in record { leaf = r.leaf; behind = r.behind; within = r.within; same = r.same ∙ e })
        | inr e ↦ (let even : length nodes ≡ 2 * (length nodes / 2) = t.halves in let r : HasLeaf nodes (2 * i + 1) = behind (2 * i + 1) (omega arith) (omega arith) in record { leaf = r.leaf; behind = r.behind; within = r.within; same = r.same ∙ e })
      ]
    ]

leaf_has : (nodes : List ℕ) → IsTournament nodes → (fuel i : ℕ) → length nodes ≤ fuel + i → 0 < i → i < length nodes → HasLeaf nodes i
leaf_has nodes t zero i f p l = absurd (omega arith)
leaf_has nodes t (suc fuel) i f p l = leaf_step nodes t i p l (λ j h g. leaf_has nodes t fuel j (omega arith) (omega arith) g)

-- the first node has the least
pub root_least : (nodes : List ℕ) → IsTournament nodes → 2 ≤ length nodes → get_or nodes 1 0 ≤ NEVER → get_or nodes 1 0 ≡ least_of (leaves nodes)
root_least nodes t two n =
    let low : get_or nodes 1 0 ≤ least_of (leaves nodes) =
    least_of-low (get_or nodes 1 0) (leaves nodes) n
    (λ k l. rw (get_or-drop (length nodes / 2) nodes k 0) (root_low nodes t (length nodes / 2 + k) (length nodes / 2 + k) (omega arith) (omega arith) (omega (arith, length-drop (length nodes / 2) nodes)))) in
    let has : HasLeaf nodes 1 = leaf_has nodes t (length nodes) 1 (omega arith) (omega arith) (omega arith) in
    let behind : length nodes / 2 ≤ has.leaf = has.behind in
    let within : has.leaf < length nodes = has.within in
    let at : least_of (leaves nodes) ≤ get_or (leaves nodes) (has.leaf - length nodes / 2) 0 = least_of-at (leaves nodes) (has.leaf - length nodes / 2) (omega (arith, length-drop (length nodes / 2) nodes)) in
    let there : get_or (leaves nodes) (has.leaf - length nodes / 2) 0 ≡ get_or nodes (length nodes / 2 + (has.leaf - length nodes / 2)) 0 = get_or-drop (length nodes / 2) nodes (has.leaf - length nodes / 2) 0 in
    let back : length nodes / 2 + (has.leaf - length nodes / 2) ≡ has.leaf = omega arith in
    let same : get_or nodes (length nodes / 2 + (has.leaf - length nodes / 2)) 0 ≡ get_or nodes 1 0 = ap (λ (j : ℕ). get_or nodes j 0) back ∙ has.same in
    omega arith

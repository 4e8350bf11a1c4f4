-- The own nets of the blocks of a cut.
use Rattle.std.proofs.Common.{◌≡◌, ◌∙◌, ℕ, ◌+◌, ◌<◌, cond, List, [], ◌∷◌, ◌++◌, length, map, get_or, Option, Some, None, IfSome, refl, sym, arith}
use Rattle.std.specs.List.{All, range_with_len}
use Rattle.std.proofs.lemmas.List.{append-nil, ext_get_or}
use Rattle.std.proofs.lemmas.List.Elements.{filter-append, All-push}
use Rattle.std.proofs.lemmas.List.FromFn.{length-map-range_with_len, get_or-map-range_with_len}
use Rattle.number_groups.specs.declared.groups.Keyed.{Keyed}
use Rattle.number_groups.specs.Groups.{group}
use Rattle.gate_netlist.specs.Cut.{IsOwnership, is_owner, own_among, own_nets}
use Rattle.gate_netlist.specs.Inner.Owned.{AreOwned}
use Rattle.number_groups.proofs.Grouping.{group_push, range_more}

own_among_more : (owners : List (Option ℕ)) (i b : ℕ) → own_among owners (i + 1) b ≡ own_among owners i b ++ cond (is_owner b (get_or owners i None)) (i ∷ []) []
own_among_more owners i b = rw (range_more i) (filter-append (λ n. is_owner b (get_or owners n None)) (range_with_len 0 i) (i ∷ []))

pub owned_none : (owners : List (Option ℕ)) → AreOwned owners 0 []
owned_none owners = record { keys = λ k d l. absurd (omega arith); groups = λ b. refl }

pub owned_input : (owners : List (Option ℕ)) (i : ℕ) (entries : List Keyed) → get_or owners i None ≡ None → AreOwned owners i entries → AreOwned owners (i + 1) entries
owned_input owners i entries e h = record {
  keys = h.keys;
  groups = λ b. rw (own_among_more owners i b, e, append-nil) (h.groups b);
}

pub owned_net : (owners : List (Option ℕ)) (i block : ℕ) (entries : List Keyed) → get_or owners i None ≡ Some block → AreOwned owners i entries
    → AreOwned owners (i + 1) (entries ++ record { key = block; number = i } ∷ [])
owned_net owners i block entries e h = record {
  keys = All-push (λ (entry : Keyed). get_or owners entry.number None ≡ Some entry.key) entries (record { key = block; number = i }) h.keys e;
  groups = λ b. rw (group_push entries block i b, own_among_more owners i b, e, h.groups b) refl;
}

known_below : (o : Option ℕ) (b blocks : ℕ) → o ≡ Some b → IfSome o (λ block. block < blocks) → b < blocks
known_below o b blocks e h = rw e at h

pub owned_keys : (blocks : ℕ) (owners : List (Option ℕ)) (entries : List Keyed) → IsOwnership (record { blocks = blocks; owners = owners }) → AreOwned owners (length owners) entries
    → All (λ (entry : Keyed). entry.key < blocks) entries
owned_keys blocks owners entries law h = λ k d l. known_below (get_or owners (get_or entries k d).number None) (get_or entries k d).key blocks (h.keys k d l) (law.owned (get_or entries k d).number)

pub owned_all : (blocks : ℕ) (owners : List (Option ℕ)) (entries : List Keyed) → AreOwned owners (length owners) entries
    → map (group entries) (range_with_len 0 blocks) ≡ map (own_nets (record { blocks = blocks; owners = owners })) (range_with_len 0 blocks)
owned_all blocks owners entries h =
    ext_get_or [] (map (group entries) (range_with_len 0 blocks)) (map (own_among owners (length owners)) (range_with_len 0 blocks))
    (length-map-range_with_len (group entries) 0 blocks ∙ sym (length-map-range_with_len (own_among owners (length owners)) 0 blocks))
    (λ b l. let m : b < blocks = omega (arith, length-map-range_with_len (group entries) 0 blocks) in
    get_or-map-range_with_len (group entries) 0 blocks b b [] m (omega arith) ∙ h.groups b ∙ sym (get_or-map-range_with_len (own_among owners (length owners)) 0 blocks b b [] m (omega arith)))

-- The blocks that read the nets of a part, as they are gathered.
use Rattle.std.proofs.Common.{◌≡◌, ◌≢◌, ℕ, suc, ◌+◌, ◌<◌, ◌≤◌, ◌==◌, Bool, true, false, not, ◌&&◌, ◌||◌, Option, Some, None, IfSome, List, [], ◌∷◌, ◌++◌, map, take, length, get_or, refl, ap, sym, ◌∙◌, arith}
use Rattle.std.specs.List.{list_any, range_with_len, All}
use Rattle.std.specs.List.Sorted.{IsStrictlyIncreasing}
use Rattle.std.proofs.lemmas.Bool.{and_right, eqb-true, ne_eqb}
use Rattle.std.proofs.lemmas.List.{map-append, map_more, length-append}
use Rattle.std.proofs.lemmas.List.Elements.{All-append, All-cons, All-nil}
use Rattle.std.proofs.lemmas.List.Folds.{list_any-append, list_any_more, list_any_none}
use Rattle.gate_netlist.specs.Circuit.{Design, nets_of, driver_of, source_of, nets_used, is_one_of, readers_of}
use Rattle.gate_netlist.specs.Cut.{Ownership, IsOwnership, is_owner, owner_of}
use Rattle.gate_netlist.specs.declared.driver.Driver.{Driver}
use Rattle.gate_netlist.specs.declared.driver.Driver.TheVariants.{Input, Gate, Flop}
use Rattle.warp_part.specs.declared.cell.Span.{Span}
use Rattle.warp_part.specs.Portion.{does_use}
use Rattle.warp_part.specs.PartOf.{is_own, is_used_by, part_readers}
use Rattle.warp_part.specs.Shown.Part.{stretch}
use Rattle.warp_part.specs.Inner.Building.{driver_uses, has, is_other_owner}
use Rattle.warp_part.proofs.PartLists.{or_none, any_kept, any_same, kept_is}
use Rattle.warp_part.proofs.PartBuilding.{uses-driver, stretch-append, stretch-behind}

-- ---- the owners of some gates

-- a block that is another one is told of, and no block twice
other_more : (other any here : Bool) → (here ≡ true → other ≡ true) → ((other && any) || here) ≡ (other && (any || here))
other_more true any here h = refl
other_more false any false h = refl
other_more false any true h = absurd (let e = h refl in cc)

module _ (cut : Ownership) (b : ℕ) (gates : List ℕ) (i : ℕ) (l : i < length gates) (list : List ℕ) (h : (c : ℕ) → has list c ≡ is_other_owner cut b (take i gates) c) where
  one_more : (c : ℕ) → is_other_owner cut b (take (i + 1) gates) c ≡ (not (c == b) && (list_any (is_own cut c) (take i gates) || is_own cut c (get_or gates i 0)))
  one_more c = ap (λ any. not (c == b) && any) (list_any_more (is_own cut c) gates i 0 l)

  -- the owner of a gate is another block
  pub owners-other : (r : ℕ) → owner_of cut (get_or gates i 0) ≡ Some r → r ≢ b → (c : ℕ) → has (list ++ r ∷ []) c ≡ is_other_owner cut b (take (i + 1) gates) c
  owners-other r own other c =
      list_any-append (λ x. x == c) list (r ∷ []) ∙ ap (λ t. has list c || t) (or_none (r == c)) ∙ ap (λ t. t || (r == c)) (h c)
      ∙ other_more (not (c == b)) (list_any (is_own cut c) (take i gates)) (r == c) (λ e. ap not (ne_eqb c b (λ f. other (eqb-true r c e ∙ f))))
      ∙ sym (one_more c ∙ ap (λ o. not (c == b) && (list_any (is_own cut c) (take i gates) || is_owner c o)) own)

-- ---- the readers of a net

used-driver : (driver : Driver) → nets_used driver ≡ driver_uses driver
used-driver Input = refl
used-driver (Gate kind inputs) = refl
used-driver (Flop d clock init) = refl

and_swap : (a b : Bool) → (a && b) ≡ (b && a)
and_swap true true = refl
and_swap true false = refl
and_swap false true = refl
and_swap false false = refl

module _ (d : Design) (cut : Ownership) where
  -- a block owns a reader of a net just where a gate of it uses the net
  readers_used : (c n : ℕ) → list_any (is_own cut c) (readers_of d n) ≡ is_used_by d cut c n
  readers_used c n =
      any_kept (is_own cut c) (λ g. is_one_of (nets_used (driver_of d g)) n) (range_with_len 0 (nets_of d))
      ∙ any_same (λ g. is_one_of (nets_used (driver_of d g)) n && is_own cut c g) (λ g. is_own cut c g && does_use n (source_of d g)) same (range_with_len 0 (nets_of d))
    where
      same : (g : ℕ) → (is_one_of (nets_used (driver_of d g)) n && is_own cut c g) ≡ (is_own cut c g && does_use n (source_of d g))
      same g =
          and_swap (is_one_of (nets_used (driver_of d g)) n) (is_own cut c g)
          ∙ ap (λ (us : List ℕ). is_own cut c g && has us n) (used-driver (driver_of d g) ∙ sym (uses-driver (driver_of d g) (get_or d.delays g 0)))

  module _ (b : ℕ) where
    -- no block past the cut's uses a net
    used_past : (c n : ℕ) → IsOwnership cut → cut.blocks ≤ c → is_used_by d cut c n ≡ false
    used_past c n law past =
        list_any_none (λ g. is_own cut c g && does_use n (source_of d g)) (range_with_len 0 (nets_of d))
        (λ k e m. ap (λ o. o && does_use n (source_of d (get_or (range_with_len 0 (nets_of d)) k e))) (no_owner (owner_of cut (get_or (range_with_len 0 (nets_of d)) k e)) (law.owned (get_or (range_with_len 0 (nets_of d)) k e))))
      where
        no_owner : (o : Option ℕ) → IfSome o (λ block. block < cut.blocks) → is_owner c o ≡ false
        no_owner None h = refl
        no_owner (Some o) h = ne_eqb o c (λ e. absurd (omega (arith, past, h, e)))

    -- the other owners of a net's readers, in order
    pub owners_are : (n : ℕ) (list : List ℕ) → IsOwnership cut → is_own cut b n ≡ true → IsStrictlyIncreasing list → ((c : ℕ) → has list c ≡ is_other_owner cut b (readers_of d n) c) → list ≡ part_readers d cut b n
    owners_are n list law own up h =
        let test : ℕ → Bool = λ c. not (c == b) && is_used_by d cut c n in
        let same : (c : ℕ) → has list c ≡ test c = λ c. h c ∙ ap (λ u. not (c == b) && u) (readers_used c n) in
        rw own (kept_is test cut.blocks list up (λ c m. same c) (λ c m. same c ∙ and_right (not (c == b)) (is_used_by d cut c n) (used_past c n law m)))

-- ---- lists as stretches of one

stretches-append : (all more : List ℕ) (spans : List Span) → All (λ (span : Span). span.start + span.count ≤ length all) spans → map (stretch (all ++ more)) spans ≡ map (stretch all) spans
stretches-append all more [] h = refl
stretches-append all more (span ∷ spans) h =
    let first = stretch-append all more span (h 0 span (omega arith)) in
    let rest = stretches-append all more spans (λ k e l. h (suc k) e (omega (arith, l))) in
    cc

-- the list of a net more, which stands behind
pub stretches_more : (f : ℕ → List ℕ) (nets : List ℕ) (i : ℕ) (list all : List ℕ) (spans : List Span) (span : Span) → i < length nets → list ≡ f (get_or nets i 0)
    → span.start ≡ length all → span.count ≡ length list → All (λ (span : Span). span.start + span.count ≤ length all) spans → map (stretch all) spans ≡ map f (take i nets)
    → map (stretch (all ++ list)) (spans ++ span ∷ []) ≡ map f (take (i + 1) nets)
stretches_more f nets i list all spans span l is start count within h =
    map-append (stretch (all ++ list)) spans (span ∷ [])
    ∙ ap (λ ls. ls ++ stretch (all ++ list) span ∷ []) (stretches-append all list spans within ∙ h)
    ∙ ap (λ last. map f (take i nets) ++ last ∷ []) (stretch-behind all list span start count ∙ is)
    ∙ sym (map_more f nets i 0 l)

pub spans_more : (all more : List ℕ) (spans : List Span) (span : Span) → span.start ≡ length all → span.count ≡ length more → All (λ (span : Span). span.start + span.count ≤ length all) spans
    → All (λ (span : Span). span.start + span.count ≤ length (all ++ more)) (spans ++ span ∷ [])
spans_more all more spans span start count within =
    let fits : Span → Type 0 = λ s. s.start + s.count ≤ length (all ++ more) in
    All-append fits spans (span ∷ [])
    (λ k e l. omega (arith, within k e l, length-append all more))
    (All-cons fits span [] (omega (arith, start, count, length-append all more)) (All-nil fits))

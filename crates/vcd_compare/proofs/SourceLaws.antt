-- The codes that pairs take their values from are those of variables.
use Rattle.std.proofs.Common.{◌≡◌, ℕ, ◌+◌, Bool, true, false, cond, ◌||◌, List, [], ◌∷◌, ◌++◌, map, Option, Some, None, Result, Ok, Err, refl, ap, sym, subst, ◌∙◌}
use Rattle.std.specs.List.{AllByRecursion}
use Rattle.std.specs.Str.{bytes_eq}
use Rattle.gate_netlist.specs.Bench.{◌>>=◌}
use Rattle.gate_netlist.specs.Lines.{lines_of}
use Rattle.gate_vcd.specs.Declarations.{Variable}
use Rattle.gate_vcd.specs.Changes.{Source}
use Rattle.gate_vcd.specs.Stimulus.{has_code}
use Rattle.gate_vcd.specs.Shown.Known.{is_used}
use Rattle.gate_vcd.proofs.Keeping.{same_bytes}
use Rattle.vcd_bits.specs.Names.{Bit, named_source}
use Rattle.vcd_bits.proofs.CodeLaws.{AreCoded}
use Rattle.vcd_compare.specs.declared.fault.MapCause.{MapCause}
use Rattle.vcd_compare.specs.declared.fault.MapCause.TheVariants.{NamedTwice}
use Rattle.vcd_compare.specs.Map.{at_line, is_paired, names_of, pair_of, pairs_by, pairs_from, with_known, with_line, with_names}
use Rattle.vcd_compare.specs.Pairs.{Pair, pair_if, pairs_of}

-- each pair takes its values from the code of a variable
abbrev pub AreFrom : List Variable → (Pair → Source) → List Pair → Type 0
AreFrom vs side pairs = AllByRecursion (λ (q : Pair). has_code vs (side q).code ≡ true) pairs

-- a code that pairs use is that of a variable
pub used-from : (vs : List Variable) (side : Pair → Source) (pairs : List Pair) (code : List ℕ) → AreFrom vs side pairs → is_used (map (λ (q : Pair). Some (side q)) pairs) code ≡ true → has_code vs code ≡ true
used-from vs side [] code h u = cc
used-from vs side (q ∷ pairs) code h u = by (bytes_eq (side q).code code) refl u (used-from vs side pairs code h.1)
  where
    by : (t : Bool) → bytes_eq (side q).code code ≡ t → (t || is_used (map (λ (p : Pair). Some (side p)) pairs) code) ≡ true → (is_used (map (λ (p : Pair). Some (side p)) pairs) code ≡ true → has_code vs code ≡ true) → has_code vs code ≡ true
    by true e u later = ap (has_code vs) (sym (same_bytes (side q).code code e)) ∙ h.0
    by false e u later = later u

from-behind : (vs : List Variable) (side : Pair → Source) (front back : List Pair) → AreFrom vs side front → AreFrom vs side back → AreFrom vs side (front ++ back)
from-behind vs side [] back h k = k
from-behind vs side (q ∷ front) back h k = (h.0, from-behind vs side front back h.1 k)

-- the bits of one name
pub expected-from : (vs : List Variable) (bits actual : List Bit) → AreCoded vs bits → AreFrom vs (λ q. q.expected) (pairs_of bits actual)
expected-from vs [] actual h = tt
expected-from vs (b ∷ bits) actual h = go (named_source actual b.name) (expected-from vs bits actual h.1)
  where
    go : (o : Option Source) → AreFrom vs (λ q. q.expected) (pairs_of bits actual) → AreFrom vs (λ q. q.expected) (pair_if b o ++ pairs_of bits actual)
    go None others = others
    go (Some s) others = (h.0, others)

-- where a name of the other dump is that of a bit of a variable
abbrev pub AreNamed : List Variable → List Bit → Type 0
AreNamed vs bits = (name : List ℕ) (s : Source) → named_source bits name ≡ Some s → has_code vs s.code ≡ true

pub actual-from : (vs : List Variable) (bits actual : List Bit) → AreNamed vs actual → AreFrom vs (λ q. q.actual) (pairs_of bits actual)
actual-from vs [] actual h = tt
actual-from vs (b ∷ bits) actual h = go (named_source actual b.name) refl (actual-from vs bits actual h)
  where
    go : (o : Option Source) → named_source actual b.name ≡ o → AreFrom vs (λ q. q.actual) (pairs_of bits actual) → AreFrom vs (λ q. q.actual) (pair_if b o ++ pairs_of bits actual)
    go None e others = others
    go (Some s) e others = (h b.name s e, others)

-- those that the lines of a text pair
known-from : (vs : List Variable) (side : Pair → Source) (pairs more : List Pair) (name : List ℕ) (e a : Option Source) → ((x y : Source) → e ≡ Some x → a ≡ Some y → has_code vs (side (pair_of name x y)).code ≡ true) → with_known pairs name e a ≡ Ok more → AreFrom vs side pairs → AreFrom vs side more
known-from vs side pairs more name None a f r h = cc
known-from vs side pairs more name (Some x) None f r h = cc
known-from vs side pairs more name (Some x) (Some y) f r h = go (is_paired pairs name) r
  where
    go : (t : Bool) → cond t (Err NamedTwice) (Ok (pairs ++ pair_of name x y ∷ [])) ≡ Ok more → AreFrom vs side more
    go true r = cc
    go false r = let same : pairs ++ pair_of name x y ∷ [] ≡ more = cc in subst (AreFrom vs side) same (from-behind vs side pairs (pair_of name x y ∷ []) h (f x y refl refl, tt))

-- each pair that two names make takes its values so
abbrev pub TakeFrom : List Variable → (Pair → Source) → (expected actual : List Bit) → Type 0
TakeFrom vs side expected actual = (name other : List ℕ) (x y : Source) → named_source expected name ≡ Some x → named_source actual other ≡ Some y → has_code vs (side (pair_of name x y)).code ≡ true

module _ (vs : List Variable) (side : Pair → Source) (expected actual : List Bit) (from : TakeFrom vs side expected actual) where
  names-from : (pairs more : List Pair) (names : Option (List ℕ × List ℕ)) → with_names expected actual pairs names ≡ Ok more → AreFrom vs side pairs → AreFrom vs side more
  names-from pairs more None r h = let same : pairs ≡ more = cc in subst (AreFrom vs side) same h
  names-from pairs more (Some names) r h = known-from vs side pairs more names.0 (named_source expected names.0) (named_source actual names.1) (from names.0 names.1) r h

  said-from : (pairs more : List Pair) (said : Result (Option (List ℕ × List ℕ)) MapCause) → (said >>= with_names expected actual pairs) ≡ Ok more → AreFrom vs side pairs → AreFrom vs side more
  said-from pairs more (Ok names) r h = names-from pairs more names r h
  said-from pairs more (Err cause) r h = cc

  line-from : (pairs more : List Pair) (line : List ℕ) → with_line expected actual pairs line ≡ Ok more → AreFrom vs side pairs → AreFrom vs side more
  unfolding with_line
  line-from pairs more line r h = said-from pairs more (names_of line) r h

  pub pairs-from : (pairs all : List Pair) (line : ℕ) (ls : List (List ℕ)) → pairs_from expected actual pairs line ls ≡ Ok all → AreFrom vs side pairs → AreFrom vs side all
  unfolding pairs_from
  pairs-from pairs all line [] r h = let same : pairs ≡ all = cc in subst (AreFrom vs side) same h
  pairs-from pairs all line (l ∷ ls) r h = go (with_line expected actual pairs l) refl r (λ more. pairs-from more all (line + 1) ls)
    where
      go : (read : Result (List Pair) MapCause) → with_line expected actual pairs l ≡ read → (at_line line read >>= λ more. pairs_from expected actual more (line + 1) ls) ≡ Ok all
          → ((more : List Pair) → pairs_from expected actual more (line + 1) ls ≡ Ok all → AreFrom vs side more → AreFrom vs side all) → AreFrom vs side all
      go (Err cause) e r rest = cc
      go (Ok more) e r rest = rest more r (line-from pairs more l e h)

-- the pairs that are compared
pub paired-expected : (vs : List Variable) (said : Option (List ℕ)) (bits actual : List Bit) (pairs : List Pair) → AreCoded vs bits → AreNamed vs bits → pairs_by said bits actual ≡ Ok pairs → AreFrom vs (λ q. q.expected) pairs
paired-expected vs None bits actual pairs coded named r = let same : pairs_of bits actual ≡ pairs = cc in subst (AreFrom vs (λ q. q.expected)) same (expected-from vs bits actual coded)
paired-expected vs (Some text) bits actual pairs coded named r = pairs-from vs (λ q. q.expected) bits actual (λ name other x y ex ey. named name x ex) [] pairs 1 (lines_of text) r tt

pub paired-actual : (vs : List Variable) (said : Option (List ℕ)) (bits actual : List Bit) (pairs : List Pair) → AreNamed vs actual → pairs_by said bits actual ≡ Ok pairs → AreFrom vs (λ q. q.actual) pairs
paired-actual vs None bits actual pairs named r = let same : pairs_of bits actual ≡ pairs = cc in subst (AreFrom vs (λ q. q.actual)) same (actual-from vs bits actual named)
paired-actual vs (Some text) bits actual pairs named r = pairs-from vs (λ q. q.actual) bits actual (λ name other x y ex ey. named other y ey) [] pairs 1 (lines_of text) r tt

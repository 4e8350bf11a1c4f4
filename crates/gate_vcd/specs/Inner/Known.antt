-- What a reader of changes keeps of the codes of a text.
use Rattle.std.specs.Prelude.{◌≡◌, ◌⊎◌, ◌≤◌, ℕ, zero, suc, Bool, false, ◌||◌, if◌then◌else◌, List, length, map, get_or, slice_get, Option, Some, None, is_some, option_and_then}
use Rattle.std.specs.Option.{option_map_or}
use Rattle.gate_vcd.specs.declared.known.KnownCodes.{KnownCodes}
use Rattle.gate_vcd.specs.Inner.Table.{found_in}
use Rattle.gate_vcd.specs.Changes.{Source}
use Rattle.gate_vcd.specs.Shown.Known.{source, is_of}

-- the last place below n that passes a test
abbrev pub last_below : {X : Type 0} → (X → Bool) → List X → ℕ → Option ℕ
last_below p xs zero = None
last_below p xs (suc n) = if option_map_or p (slice_get xs n) false then Some n else last_below p xs n

-- the places of the sources fall
abbrev pub AreFalling : List Source → Type 0
AreFalling sources = (i j : ℕ) (a b : Source) → i ≤ j → slice_get sources i ≡ Some a → slice_get sources j ≡ Some b → b.place ≤ a.place

-- the same of the nets that have a source
abbrev pub AreFallingNets : List (Option Source) → Type 0
AreFallingNets nets = (i j : ℕ) (a b : Source) → i ≤ j → slice_get nets i ≡ Some (Some a) → slice_get nets j ≡ Some (Some b) → b.place ≤ a.place

-- Each code refers to its last source, and each source to the one before it of the same code; the places fall,
-- so that those of a code rise from its last source on.
pub record AreLinked (last : List ℕ → Option ℕ) (before : List (Option ℕ)) (sources : List Source) : Type 0 where
  pub count : length before ≡ length sources
  pub ends : (code : List ℕ) → last code ≡ last_below (is_of code) sources (length sources)
  pub falls : AreFalling sources
  pub links : (k : ℕ) (s : Source) → slice_get sources k ≡ Some s → get_or before k None ≡ last_below (is_of s.code) sources k

-- no code is joined with its absence
abbrev pub flat : Option (Option ℕ) → Option ℕ
flat o = option_and_then (λ x. x) o

abbrev pub sources_in : KnownCodes → List Source
sources_in known = map source known.used.items

-- some variable has the code
abbrev pub knows : KnownCodes → List ℕ → Bool
knows known code = is_some (found_in known.last code)

abbrev pub IsLinked : KnownCodes → Type 0
IsLinked known = AreLinked (λ code. flat (found_in known.last code)) known.before.items (sources_in known)

-- no source that is kept stands at a place below that of this one
abbrev pub IsLeast : KnownCodes → Option Source → Type 0
IsLeast known taken = (s : Source) → taken ≡ Some s → (k : ℕ) (a : Source) → slice_get (sources_in known) k ≡ Some a → s.place ≤ a.place

-- a source stands among the others at its number; where there is none there is no number
abbrev pub IsNumber : List Source → Option Source → Option ℕ → Type 0
IsNumber sources None number = number ≡ None
IsNumber sources (Some s) number = option_and_then (slice_get sources) number ≡ Some s

-- each net has the number of its source
pub record AreNumbers (sources : List Source) (nets : List (Option Source)) (numbers : List (Option ℕ)) : Type 0 where
  pub count : length numbers ≡ length nets
  pub each : (net : ℕ) → IsNumber sources (get_or nets net None) (get_or numbers net None)

-- what is kept, with the source of one net more, and its number
pub record Takes (old new : KnownCodes) (taken : Option Source) (number : Option ℕ) : Type 0 where
  pub kept : (k : ℕ) (a : Source) → slice_get (sources_in new) k ≡ Some a → (slice_get (sources_in old) k ≡ Some a) ⊎ (taken ≡ Some a)
  pub stays : (k : ℕ) (a : Source) → slice_get (sources_in old) k ≡ Some a → slice_get (sources_in new) k ≡ Some a
  pub linked : IsLinked new
  pub codes : (code : List ℕ) → knows new code ≡ (knows old code || option_map_or (is_of code) taken false)
  pub numbered : IsNumber (sources_in new) taken number

-- the sources of nets, the nets in this order
abbrev pub in_order : List (Option Source) → List ℕ → List (Option Source)
in_order nets order = map (λ net. get_or nets net None) order

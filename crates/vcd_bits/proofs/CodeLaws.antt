-- The codes of bits are those of variables.
use Rattle.std.proofs.Common.{◌≡◌, ℕ, zero, suc, Bool, true, false, cond, ◌+◌, ◌||◌, List, [], ◌∷◌, ◌++◌, Option, Some, None, IfSome, option_map, nat_eq, refl, ap, sym, ◌∙◌}
use Rattle.std.specs.Int.{abs_diff}
use Rattle.std.specs.List.{AllByRecursion}
use Rattle.std.specs.Str.{bytes_eq}
use Rattle.std.proofs.lemmas.Option.{same_Some}
use Rattle.std.proofs.lemmas.Slice.Eq.{bytes_eq-Decides}
use Rattle.gate_vcd.specs.Declarations.{Variable}
use Rattle.gate_vcd.specs.Changes.{Source}
use Rattle.gate_vcd.specs.Stimulus.{has_code}
use Rattle.gate_vcd.specs.declared.source.Source.{Source as Held}
use Rattle.gate_vcd.specs.Shown.Known.{source}
use Rattle.gate_vcd.specs.Vectors.{Vector, vector_of}
use Rattle.vcd_bits.specs.Names.{Bit, all_bits, below, bits_below, bits_if, bits_in, bits_of, is_named, named_in, named_source, single_name, vector_bits, with_bit, with_bits}
use Rattle.vcd_bits.specs.Scopes.{Scoped}
use Rattle.vcd_bits.specs.Bits.{bits_declared}

-- each bit takes its values from the code of a variable
abbrev pub AreCoded : List Variable → List Bit → Type 0
AreCoded vs bits = AllByRecursion (λ (b : Bit). has_code vs b.source.code ≡ true) bits

coded-append : (vs : List Variable) (bits more : List Bit) → AreCoded vs bits → AreCoded vs more → AreCoded vs (bits ++ more)
coded-append vs [] more h m = m
coded-append vs (b ∷ bits) more h m = (h.0, coded-append vs bits more h.1 m)

own-code : (v : Variable) (vs : List Variable) → has_code (v ∷ vs) v.code ≡ true
own-code v vs = rw ((bytes_eq-Decides v.code v.code).1 refl) refl

coded-more : (v : Variable) (vs : List Variable) (bits : List Bit) → AreCoded vs bits → AreCoded (v ∷ vs) bits
coded-more v vs [] h = tt
coded-more v vs (b ∷ bits) h = (rw h.0 (elim (bytes_eq b.source.code v.code) as (λ t. (t || true) ≡ true) [ true ↦ refl | false ↦ refl ]), coded-more v vs bits h.1)

coded-vector : (vs : List Variable) (path code : List ℕ) (v : Vector) (n : ℕ) → has_code vs code ≡ true → AreCoded vs (vector_bits path code v n)
coded-vector vs path code v zero h = tt
coded-vector vs path code v (suc n) h = coded-append vs (vector_bits path code v n) _ (coded-vector vs path code v n h) (h, tt)

coded-in : (vs : List Variable) (path code : List ℕ) (o : Option Vector) → has_code vs code ≡ true → AreCoded vs (bits_in path code o)
coded-in vs path code None h = tt
coded-in vs path code (Some v) h = coded-vector vs path code v (abs_diff v.left v.right + 1) h

coded-of : (vs : List Variable) (path : List ℕ) (v : Variable) → has_code vs v.code ≡ true → AreCoded vs (bits_of path v)
coded-of vs path v h =
    elim (nat_eq v.size 1) as (λ t. AreCoded vs (cond t (record { name = named_in path (single_name v.reference); source = record { code = v.code; place = 0 } } ∷ []) (bits_in path v.code (vector_of v))))
    [ true ↦ (h, tt) | false ↦ coded-in vs path v.code (vector_of v) h ]

coded-if : (vs : List Variable) (b : Bool) (o : Option (List ℕ)) (v : Variable) → has_code vs v.code ≡ true → AreCoded vs (bits_if b o v)
coded-if vs b None v h = tt
coded-if vs true (Some path) v h = coded-of vs path v h
coded-if vs false (Some path) v h = tt

coded-below : (scope path : List ℕ) (v : Variable) (vs : List Variable) → AreCoded (v ∷ vs) (bits_below scope path v)
coded-below scope path v vs = coded-if (v ∷ vs) v.valued (below scope path) v (own-code v vs)

coded-all : (scope : List ℕ) (paths : List (List ℕ)) (vs : List Variable) → AreCoded vs (all_bits scope paths vs)
coded-all scope [] vs = tt
coded-all scope (p ∷ paths) [] = tt
coded-all scope (p ∷ paths) (v ∷ vs) = coded-append (v ∷ vs) (bits_below scope p v) (all_bits scope paths vs) (coded-below scope p v vs) (coded-more v vs (all_bits scope paths vs) (coded-all scope paths vs))

coded-with : (vs : List Variable) (bits : List Bit) (b : Bit) → AreCoded vs bits → has_code vs b.source.code ≡ true → AreCoded vs (with_bit bits b)
coded-with vs bits b h c = elim (is_named bits b.name) as (λ t. AreCoded vs (cond t bits (bits ++ b ∷ []))) [ true ↦ h | false ↦ coded-append vs bits (b ∷ []) h (c, tt) ]

coded-bits : (vs : List Variable) (known bits : List Bit) → AreCoded vs known → AreCoded vs bits → AreCoded vs (with_bits known bits)
coded-bits vs known [] h m = h
coded-bits vs known (b ∷ bits) h m = coded-bits vs (with_bit known b) bits (coded-with vs known b h m.0) m.1

coded-source : (vs : List Variable) (bits : List Bit) (name : List ℕ) (s : Source) → AreCoded vs bits → named_source bits name ≡ Some s → has_code vs s.code ≡ true
coded-source vs [] name s h e = cc
coded-source vs (b ∷ bits) name s h e = go (bytes_eq name b.name) e (coded-source vs bits name s h.1)
  where
    go : (t : Bool) → cond t (Some b.source) (named_source bits name) ≡ Some s → (named_source bits name ≡ Some s → has_code vs s.code ≡ true) → has_code vs s.code ≡ true
    go true e later = let same = same_Some b.source s e in ap (λ (x : Source). has_code vs x.code) (sym same) ∙ h.0
    go false e later = later e

pub declared-coded : (asked : Option (List ℕ)) (d : Scoped) → AreCoded d.header.variables (bits_declared asked d)
declared-coded asked d = coded-bits d.header.variables [] (all_bits _ d.paths d.header.variables) tt (coded-all _ d.paths d.header.variables)

pub declared-source : (asked : Option (List ℕ)) (d : Scoped) (name : List ℕ) (s : Source) → named_source (bits_declared asked d) name ≡ Some s → has_code d.header.variables s.code ≡ true
declared-source asked d name s e = coded-source d.header.variables (bits_declared asked d) name s (coded-bits d.header.variables [] (all_bits _ d.paths d.header.variables) tt (coded-all _ d.paths d.header.variables)) e

-- the same of what is kept
pub coded-held : (vs : List Variable) (bits : List Bit) (name : List ℕ) (o : Option Held) → option_map source o ≡ named_source bits name → ((x : Source) → named_source bits name ≡ Some x → has_code vs x.code ≡ true) → IfSome o (λ s. has_code vs s.code.now ≡ true)
coded-held vs bits name None e h = tt
coded-held vs bits name (Some s) e h = h (source s) (sym e)

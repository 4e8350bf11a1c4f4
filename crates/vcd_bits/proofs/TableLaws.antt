-- The bits that a table keeps, one after another.
use Rattle.std.proofs.Common.{◌≡◌, ℕ, ◌+◌, ◌<◌, Bool, true, false, not, cond, ◌||◌, List, [], ◌∷◌, ◌++◌, length, map, take, get_or, min, Option, Some, None, option_map, is_some, Vec, Global, refl, ap, sym, ◌∙◌, arith, codes, decimal, add-one}
use Rattle.std.specs.Int.{abs_diff}
use Rattle.std.specs.List.{position, prefix_len}
use Rattle.std.specs.Map.{lookup}
use Rattle.std.specs.Str.{bytes_eq}
use Rattle.std.proofs.lemmas.List.{get_or-map, length-map}
use Rattle.gate_vcd.specs.declared.source.Source.{Source as HeldSource}
use Rattle.gate_vcd.specs.declared.variable.Variable.{Variable as HeldVariable}
use Rattle.gate_vcd.specs.Shown.Commands.{variable, variables}
use Rattle.gate_vcd.specs.Shown.Known.{source}
use Rattle.gate_vcd.specs.Vectors.{Vector}
use Rattle.vcd_bits.specs.Names.{Bit, all_bits, bits_below, is_named, named_in, named_source, number_from_left, number_of, vector_bit, vector_bits, with_bit, with_bits}
use Rattle.vcd_bits.specs.Shown.Held.{texts_in}
use Rattle.vcd_bits.specs.Shown.Tables.{bit_by}
use Rattle.vcd_bits.proofs.NameLaws.{all_bits-more, all_bits-whole, with_bits-more}

-- the bits of one variable more
pub of-more : (scope : List ℕ) (paths : List (Vec ℕ Global)) (vs : List HeldVariable) (at : ℕ) (p : Vec ℕ Global) (path : List ℕ) (v : HeldVariable) (old new : List Bit) → at < length paths → at < length vs → p ≡ get_or paths at p → v ≡ get_or vs at v → path ≡ p.items
    → old ≡ with_bits [] (all_bits scope (take at (texts_in paths)) (take at (variables vs))) → new ≡ with_bits old (bits_below scope path (variable v)) → new ≡ with_bits [] (all_bits scope (take (at + 1) (texts_in paths)) (take (at + 1) (variables vs)))
of-more scope paths vs at p path v old new lp lv ep ev et eo en =
    let here : get_or (texts_in paths) at p.items ≡ path = get_or-map (λ (x : Vec ℕ Global). x.items) paths at p p.items lp ∙ ap (λ (x : Vec ℕ Global). x.items) (sym ep) ∙ sym et in
    let this : get_or (variables vs) at (variable v) ≡ variable v = get_or-map variable vs at v (variable v) lv ∙ ap variable (sym ev) in
    let more = all_bits-more scope [] (texts_in paths) (variables vs) at p.items (variable v) (omega (arith, length-map paths (λ (x : Vec ℕ Global). x.items))) (omega (arith, length-map vs variable)) in
    en ∙ ap (λ bits. with_bits bits (bits_below scope path (variable v))) eo ∙ sym (more ∙ ap (λ q. with_bits (with_bits [] (all_bits scope (take at (texts_in paths)) (take at (variables vs)))) (bits_below scope q (get_or (variables vs) at (variable v)))) here ∙ ap (λ w. with_bits (with_bits [] (all_bits scope (take at (texts_in paths)) (take at (variables vs)))) (bits_below scope path w)) this)

pub of-all : (scope : List ℕ) (paths : List (Vec ℕ Global)) (vs : List HeldVariable) (at : ℕ) (bits : List Bit) → at ≡ min (length vs) (length paths) → bits ≡ with_bits [] (all_bits scope (take at (texts_in paths)) (take at (variables vs)))
    → bits ≡ with_bits [] (all_bits scope (texts_in paths) (variables vs))
of-all scope paths vs at bits e eb = eb ∙ ap (with_bits []) (all_bits-whole scope (texts_in paths) (variables vs) at (omega (arith, e, length-map paths (λ (x : Vec ℕ Global). x.items), length-map vs variable)))

-- what a table keeps of an entry
abbrev pub entry_bit : Vec ℕ Global × HeldSource → Bit
entry_bit e = bit_by e.0.items (source e.1)

abbrev pub has_name : List ℕ → Vec ℕ Global → Bool
has_name name k = bytes_eq name k.items

-- a name is found where a bit has it
pub kept-named : (name : List ℕ) (es : List (Vec ℕ Global × HeldSource)) → is_some (lookup (has_name name) es) ≡ is_named (map entry_bit es) name
kept-named name [] = refl
kept-named name (e ∷ es) = elim (bytes_eq name e.0.items) as (λ b. is_some (cond b (Some e.1) (lookup (has_name name) es)) ≡ (b || is_named (map entry_bit es) name)) [ true ↦ refl | false ↦ kept-named name es ]

pub named-lookup : (name : List ℕ) (es : List (Vec ℕ Global × HeldSource)) → option_map source (lookup (has_name name) es) ≡ named_source (map entry_bit es) name
named-lookup name [] = refl
named-lookup name (e ∷ es) = elim (bytes_eq name e.0.items) as (λ b. option_map source (cond b (Some e.1) (lookup (has_name name) es)) ≡ cond b (Some (source e.1)) (named_source (map entry_bit es) name)) [ true ↦ refl | false ↦ named-lookup name es ]

-- ---- numbers

not-first-map : {A B : Type 0} (p : B → Bool) (f : A → B) (xs : List A) → prefix_len p (map f xs) ≡ prefix_len (λ x. p (f x)) xs
not-first-map p f [] = refl
not-first-map p f (x ∷ xs) = ap (λ n. cond (p (f x)) (1 + n) 0) (not-first-map p f xs)

position-map : {A B : Type 0} (p : B → Bool) (f : A → B) (xs : List A) → position p (map f xs) ≡ position (λ x. p (f x)) xs
position-map p f xs = rw (not-first-map (λ y. not (p y)) f xs, length-map xs f) refl

-- the number of a name among the entries is that of its bit
pub kept-number : (name : List ℕ) (es : List (Vec ℕ Global × HeldSource)) → position (has_name name) (map (λ (e : Vec ℕ Global × HeldSource). e.0) es) ≡ number_of (map entry_bit es) name
kept-number name es = position-map (has_name name) (λ (e : Vec ℕ Global × HeldSource). e.0) es ∙ sym (position-map (λ (b : Bit). bytes_eq name b.name) entry_bit es)

pub with-there : (bits : List Bit) (b : Bit) → is_named bits b.name ≡ true → bits ≡ with_bit bits b
with-there bits b e = rw e refl

pub with-new : (bits : List Bit) (b : Bit) → is_named bits b.name ≡ false → bits ++ b ∷ [] ≡ with_bit bits b
with-new bits b e = rw e refl

pub none_is : {A : Type 0} (o : Option A) → is_some o ≡ false → o ≡ None
none_is None e = refl
none_is (Some x) e = cc

-- one bit of a vector more
pub vector-more : (path code : List ℕ) (v : Vector) (n number place : ℕ) (name : List ℕ) (first old new : List Bit) → number ≡ number_from_left v n → name ≡ named_in path (v.base ++ codes "[" ++ decimal number ++ codes "]") → place ≡ abs_diff number v.right
    → old ≡ with_bits first (vector_bits path code v n) → new ≡ with_bit old (record { name = name; source = record { code = code; place = place } }) → new ≡ with_bits first (vector_bits path code v (n + 1))
vector-more path code v n number place name first old new ek en ep eo e =
    e ∙ rw (eo, en, ep, ek) (sym (with_bits-more first (vector_bits path code v n) (vector_bit path code v n))) ∙ ap (λ k. with_bits first (vector_bits path code v k)) (sym (add-one n))

-- Statements whose uses lie in one list.
use Rattle.std.proofs.Common.{◌≡◌, ◌∙◌, ℕ, ◌+◌, ◌<◌, ◌≤◌, List, [], ◌∷◌, ◌++◌, length, map, take, drop, get_or, refl, ap, sym, arith, suc, drop-cons}
use Rattle.std.specs.List.{All, AllByRecursion}
use Rattle.std.proofs.lemmas.Grind.{common_steps}
use Rattle.std.proofs.lemmas.List.{map_push, length-append, take-map, drop-map, get_or-map, length-map}
use Rattle.std.proofs.lemmas.List.Elements.{All-from_recursion, recursion_from_All, All-push, All-get_or}
use Rattle.gate_netlist.specs.Bench.{number_among, definition_of, output_of}
use Rattle.gate_netlist.specs.Statements.{Name, Statement, Nothing}
use Rattle.gate_netlist.specs.Inner.Passes.{made_by, is_linked}
use Rattle.gate_netlist.specs.Inner.Stored.{Said, told_by, statements_in, LiesWithin, IsStored, definition_by, output_by, made_from}
use Rattle.gate_netlist.specs.declared.store.Stored.{Stored}
use Rattle.gate_netlist.specs.declared.store.Stored.TheVariants as stored
use Rattle.gate_netlist.proofs.Linking.{linked_by}

-- a stretch stays where the list grows
stretch-append : {X : Type 0} (xs more : List X) (start count : ℕ) → start + count ≤ length xs → take count (drop start (xs ++ more)) ≡ take count (drop start xs)
stretch-append xs more start count h = grind (arith, common_steps)

place-append : {X : Type 0} (xs more : List X) (i : ℕ) (d : X) → i < length xs → get_or (xs ++ more) i d ≡ get_or xs i d
place-append xs more i d h = grind (arith, common_steps)

told_by-append : (xs more : List Name) (line : Stored) → LiesWithin (length xs) line → told_by (xs ++ more) line ≡ told_by xs line
told_by-append xs more stored.Nothing h = refl
told_by-append xs more (stored.Input n) h = refl
told_by-append xs more (stored.Output u) h = rw (place-append xs more u [] h) refl
told_by-append xs more (stored.Gate n kind start count) h = rw (stretch-append xs more start count h) refl
told_by-append xs more (stored.Flop n u) h = rw (place-append xs more u [] h) refl

within-append : (xs more : List Name) (line : Stored) → LiesWithin (length xs) line → LiesWithin (length (xs ++ more)) line
within-append xs more stored.Nothing h = tt
within-append xs more (stored.Input n) h = tt
within-append xs more (stored.Output u) h = omega (arith, length-append xs more, h)
within-append xs more (stored.Gate n kind start count) h = omega (arith, length-append xs more, h)
within-append xs more (stored.Flop n u) h = omega (arith, length-append xs more, h)

all-told : (xs more : List Name) (lines : List Stored) → AllByRecursion (LiesWithin (length xs)) lines → map (told_by (xs ++ more)) lines ≡ map (told_by xs) lines
all-told xs more [] h = refl
all-told xs more (l ∷ ls) h = rw (told_by-append xs more l h.0, all-told xs more ls h.1) refl

all-within : (xs more : List Name) (lines : List Stored) → AllByRecursion (LiesWithin (length xs)) lines → AllByRecursion (LiesWithin (length (xs ++ more))) lines
all-within xs more [] h = tt
all-within xs more (l ∷ ls) h = (within-append xs more l h.0, all-within xs more ls h.1)

-- one line more
pub told_more : (old new : List Name) (lines : List Stored) (line : Stored) (said : Statement) → All (LiesWithin (length old)) lines → IsStored old new said line
    → map (told_by new) (lines ++ line ∷ []) ≡ map (told_by old) lines ++ said ∷ []
told_more old new lines line said h s =
    map_push (told_by new) lines line
    ∙ ap (λ (ss : List Statement). ss ++ told_by new line ∷ []) (rw s.grown (all-told old s.more lines (recursion_from_All (LiesWithin (length old)) lines h)))
    ∙ ap (λ (t : Statement). map (told_by old) lines ++ t ∷ []) s.told

pub within_more : (old new : List Name) (lines : List Stored) (line : Stored) (said : Statement) → All (LiesWithin (length old)) lines → IsStored old new said line
    → All (LiesWithin (length new)) (lines ++ line ∷ [])
within_more old new lines line said h s =
    All-push (LiesWithin (length new)) lines line (rw s.grown (All-from_recursion _ lines (all-within old s.more lines (recursion_from_All (LiesWithin (length old)) lines h)))) s.within

-- ---- what lines make, by the numbers of all uses

definition-by : (nets uses : List Name) (line : Stored) → LiesWithin (length uses) line → definition_by (map (number_among nets) uses) line ≡ definition_of nets (told_by uses line)
definition-by nets uses stored.Nothing h = refl
definition-by nets uses (stored.Input n) h = refl
definition-by nets uses (stored.Output u) h = refl
definition-by nets uses (stored.Gate n kind start count) h = rw (drop-map (number_among nets) start uses, take-map (number_among nets) count (drop start uses)) refl
definition-by nets uses (stored.Flop n u) h = rw (get_or-map (number_among nets) uses u [] 0 h) refl

output-by : (nets uses : List Name) (line : Stored) → LiesWithin (length uses) line → output_by (map (number_among nets) uses) line ≡ output_of nets (told_by uses line)
output-by nets uses stored.Nothing h = refl
output-by nets uses (stored.Input n) h = refl
output-by nets uses (stored.Output u) h = rw (get_or-map (number_among nets) uses u [] 0 h) refl
output-by nets uses (stored.Gate n kind start count) h = refl
output-by nets uses (stored.Flop n u) h = refl

pub made_by_line : (nets uses : List Name) (count : ℕ) (line : Stored) → LiesWithin (length uses) line → count ≡ length nets → made_from (map (number_among nets) uses) count line ≡ made_by nets (told_by uses line)
made_by_line nets uses count line h many =
    rw (definition-by nets uses line h, output-by nets uses line h)
    (sym (linked_by nets (told_by uses line) count (is_linked (definition_of nets (told_by uses line)) (output_of nets (told_by uses line)) count) many refl))

-- the statement at a line, and those behind it
pub statement_at : (said : Said) (place : ℕ) → place < length said.lines → drop place (statements_in said) ≡ told_by said.uses (get_or said.lines place stored.Nothing) ∷ drop (place + 1) (statements_in said)
statement_at said place h =
    let there : place < length (statements_in said) = omega (arith, length-map said.lines (told_by said.uses), h) in
    let next : suc place ≡ place + 1 = omega arith in
    drop-cons (statements_in said) place Nothing there
    ∙ ap (λ n. get_or (statements_in said) place Nothing ∷ drop n (statements_in said)) next
    ∙ ap (λ (s : Statement). s ∷ drop (place + 1) (statements_in said)) (get_or-map (told_by said.uses) said.lines place stored.Nothing Nothing h)

pub made_at : (nets : List Name) (said : Said) (numbers : List ℕ) (count place : ℕ) → All (LiesWithin (length said.uses)) said.lines → place < length said.lines → numbers ≡ map (number_among nets) said.uses → count ≡ length nets
    → made_from numbers count (get_or said.lines place stored.Nothing) ≡ made_by nets (told_by said.uses (get_or said.lines place stored.Nothing))
made_at nets said numbers count place law h is many =
    rw is (made_by_line nets said.uses count (get_or said.lines place stored.Nothing) (All-get_or (LiesWithin (length said.uses)) said.lines place stored.Nothing h law) many)

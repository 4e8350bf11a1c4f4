-- What is told so far, with one change more.
use Rattle.std.proofs.Common.{◌≡◌, ◌∙◌, false, ℕ, zero, suc, set, ◌+◌, ◌<◌, ◌≤◌, Option, Some, None, is_some, IfNone, List, [], ◌∷◌, ◌++◌, map, take, length, get_or, refl, ap, sym, subst, arith}
use Rattle.std.proofs.lemmas.List.{map-append, take_more, take_all}
use Rattle.std.proofs.lemmas.List.Elements.{filter_map-append}
use Rattle.net_waves.specs.declared.timeline.NetMove.{NetMove}
use Rattle.net_waves.specs.declared.timeline.Stop.{Stop}
use Rattle.net_waves.specs.Timeline.{count, stop_by}
use Rattle.net_waves.proofs.Counting.{count-append}
use Rattle.warp_stores.specs.Words.{Move}
use Rattle.warp_stores.specs.Dated.{Dated, at, first_time}
use Rattle.history_waves.specs.Histories.{stop_of, own_stops, AreBoth}
use Rattle.history_waves.specs.Stories.{Telling, count_in, AreAll}
use Rattle.history_waves.specs.Inner.Pending.{count_at, AreGiven, AreOwnMoves, AreListed, AreMore, AreTold, AreTaken, AreLeft, AreRead}

own_append : (own : List (Option ℕ)) (a b : List (Dated Move)) → own_stops own (a ++ b) ≡ own_stops own a ++ own_stops own b
own_append own a b = filter_map-append (stop_of own) a b

-- what words tell, and what others do
pub own_count : (own : List (Option ℕ)) (s : Stop) (a b : List (Dated Move)) → count s (own_stops own (a ++ b)) ≡ count s (own_stops own a) + count s (own_stops own b)
own_count own s a b = ap (count s) (own_append own a b) ∙ count-append s (own_stops own a) (own_stops own b)

-- a move more
moves_more : (s : Stop) (time : ℕ) (moves : List NetMove) (m : NetMove) → count_at s time (moves ++ m ∷ []) ≡ count_at s time moves + count s (stop_by time m ∷ [])
moves_more s time moves m = ap (count s) (map-append (stop_by time) moves (m ∷ [])) ∙ count-append s (map (stop_by time) moves) (stop_by time m ∷ [])

-- one that is given
pub given_more : (given : List Stop) (from n time : ℕ) (old new : List NetMove) (d : Stop) (m : NetMove) → n < length given → stop_by time m ≡ get_or given n d → AreGiven given from n time old new
    → AreGiven given from (n + 1) time old (new ++ m ∷ [])
given_more given from n time old new d m l same are s =
    let more : count s (take (n + 1) given) ≡ count s (take n given) + count s (get_or given n d ∷ []) = ap (count s) (take_more given n d l) ∙ count-append s (take n given) (get_or given n d ∷ []) in
    let one : count s (stop_by time m ∷ []) ≡ count s (get_or given n d ∷ []) = ap (λ (x : Stop). count s (x ∷ [])) same in
    omega (arith, are s, moves_more s time new m, more, one)

-- one of an own net
pub own_one : (own : List (Option ℕ)) (time : ℕ) (moves : List NetMove) (w : Move) (m : NetMove) → get_or own w.place None ≡ Some m.net → w.after ≡ m.value → AreOwnMoves own ((time, w) ∷ []) time moves (moves ++ m ∷ [])
own_one own time moves w m mine same s =
    let told : own_stops own ((time, w) ∷ []) ≡ stop_by time m ∷ [] = rw (mine, same) refl in
    moves_more s time moves m ∙ ap (λ (ss : List Stop). count_at s time moves + count s ss) (sym told)

-- a word of another net tells nothing
pub own_other : (own : List (Option ℕ)) (time : ℕ) (moves : List NetMove) (d : Dated Move) → get_or own d.1.place None ≡ None → AreOwnMoves own (d ∷ []) time moves moves
own_other own time moves d other s =
    let told : own_stops own (d ∷ []) ≡ [] = rw other refl in
    let none : count s (own_stops own (d ∷ [])) ≡ 0 = ap (count s) told in
    omega (arith, none)

-- one word more of those of a time
pub at_more : (time : ℕ) (words : List Move) (i : ℕ) (d : Move) → i < length words → at time (take (i + 1) words) ≡ at time (take i words) ++ (time, get_or words i d) ∷ []
at_more time words i d l = ap (at time) (take_more words i d l) ∙ map-append (λ (w : Move). (time, w)) (take i words) (get_or words i d ∷ [])

-- all of them
pub at_all : (time : ℕ) (words : List Move) (n : ℕ) → length words ≤ n → at time (take n words) ≡ at time words
at_all time words n l = ap (at time) (take_all n words l)

module _ (own : List (Option ℕ)) (time : ℕ) (words : List Move) (i : ℕ) (w : Move) (l : i < length words) (is : w ≡ get_or words i w) where
  -- what one word more tells
  word_more : (s : Stop) → count s (own_stops own (at time (take (i + 1) words))) ≡ count s (own_stops own (at time (take i words))) + count s (own_stops own ((time, w) ∷ []))
  word_more s =
      ap (λ (ws : List (Dated Move)). count s (own_stops own ws)) (at_more time words i w l ∙ ap (λ (x : Move). at time (take i words) ++ (time, x) ∷ []) (sym is))
      ∙ own_count own s (at time (take i words)) ((time, w) ∷ [])

  pub own_more : (first old new : List NetMove) → AreOwnMoves own (at time (take i words)) time first old → AreOwnMoves own ((time, w) ∷ []) time old new → AreOwnMoves own (at time (take (i + 1) words)) time first new
  own_more first old new before one s = omega (arith, before s, one s, word_more s)

  -- with given ones before it
  pub listed_more : (given : List Stop) (from n next : ℕ) (first old mid new : List NetMove) → AreListed own given from n (at time (take i words)) time first old → AreGiven given n next time old mid
      → AreOwnMoves own ((time, w) ∷ []) time mid new → AreListed own given from next (at time (take (i + 1) words)) time first new
  listed_more given from n next first old mid new before more one s = omega (arith, before s, more s, one s, word_more s)

-- moves that are appended
pub appended_moves : (s : Stop) (time : ℕ) (moves : List NetMove) (old new : List Stop) → new ≡ old ++ map (stop_by time) moves → count s new ≡ count s old + count_at s time moves
appended_moves s time moves old new e = ap (count s) e ∙ count-append s old (map (stop_by time) moves)

-- given changes of a time more
pub more_given : (given : List Stop) (from n next time : ℕ) (moves : List NetMove) (first old new : List Stop) → AreMore given from n first old → AreGiven given n next time [] moves → new ≡ old ++ map (stop_by time) moves
    → AreMore given from next first new
more_given given from n next time moves first old new before more e s = omega (arith, before s, more s, appended_moves s time moves old new e)

-- all changes of a time
pub told_time : (own : List (Option ℕ)) (given : List Stop) (from some next time : ℕ) (words : List (Dated Move)) (mid moves : List NetMove) (old new : List Stop) → AreListed own given from some words time [] mid
    → AreGiven given some next time mid moves → new ≡ old ++ map (stop_by time) moves → AreTold own given from next words old new
told_time own given from some next time words mid moves old new listed more e s = omega (arith, listed s, more s, appended_moves s time moves old new e)

-- the first few given changes are told, and what words of a history tell but for those that are left
abbrev pub AreBut : List (Option ℕ) → List Stop → ℕ → List (Dated Move) → List (Dated Move) → List Stop → Type 0
AreBut own given told left words all = (s : Stop) → count s all + count s (own_stops own left) ≡ count s (take told given) + count s (own_stops own words)

-- nothing is told yet
pub but_all : (own : List (Option ℕ)) (given all : List Stop) (words : List (Dated Move)) → all ≡ [] → AreBut own given 0 words words all
but_all own given all words e s = rw e refl

-- what is told by then
pub but_less : (own : List (Option ℕ)) (given : List Stop) (told before next time : ℕ) (ws : List Move) (left rest words : List (Dated Move)) (old mid new : List Stop) → AreBut own given told left words old
    → AreMore given told before old mid → AreTold own given before next (at time ws) mid new → at time ws ++ rest ≡ left → AreBut own given next rest words new
but_less own given told before next time ws left rest words old mid new but more all e s =
    let whole : count s (own_stops own left) ≡ count s (own_stops own (at time ws)) + count s (own_stops own rest) = ap (λ (ds : List (Dated Move)). count s (own_stops own ds)) (sym e) ∙ own_count own s (at time ws) rest in
    omega (arith, but s, more s, all s, whole)

-- all is told
pub but_none : (own : List (Option ℕ)) (given : List Stop) (told n : ℕ) (words : List (Dated Move)) (old new : List Stop) → AreBut own given told [] words old → AreMore given told n old new → length given ≤ n → AreBoth own given words new
but_none own given told n words old new but more l s =
    let whole : count s (take n given) ≡ count s given = ap (count s) (take_all n given l) in
    omega (arith, but s, more s, whole)

-- the words of a time, which are told, and those that are left
pub taken_time : (own : List (Option ℕ)) (given : List Stop) (from next time : ℕ) (ws : List Move) (left all : List (Dated Move)) (old new : List NetMove) → at time ws ++ left ≡ all → AreListed own given from next (at time ws) time old new
    → AreTaken given from next time (record { own = own; words = all } ∷ []) (record { own = own; words = left } ∷ []) old new
taken_time own given from next time ws left all old new e listed s =
    let whole : count s (own_stops own all) ≡ count s (own_stops own (at time ws)) + count s (own_stops own left) = ap (λ (ds : List (Dated Move)). count s (own_stops own ds)) (sym e) ∙ own_count own s (at time ws) left in
    omega (arith, listed s, whole)

-- what some histories tell, and what others do
pub count_in-append : (s : Stop) (a b : List Telling) → count_in s (a ++ b) ≡ count_in s a + count_in s b
count_in-append s [] b = omega arith
count_in-append s (t ∷ a) b = omega (arith, count_in-append s a b)

-- what histories tell of which one is another
count_in-set : (s : Stop) (ts : List Telling) (i : ℕ) (t d : Telling) → i < length ts
    → count_in s (set ts i t) + count s (own_stops (get_or ts i d).own (get_or ts i d).words) ≡ count_in s ts + count s (own_stops t.own t.words)
count_in-set s [] i t d l = absurd (omega (arith, l))
count_in-set s (x ∷ ts) zero t d l = omega arith
count_in-set s (x ∷ ts) (suc i) t d l = (let rest = count_in-set s ts i t d (omega (arith, l)) in omega (arith, rest))

-- one of some histories tells it no more
pub taken_one : (given : List Stop) (from next time : ℕ) (ts : List Telling) (i : ℕ) (new d : Telling) (moves after : List NetMove) → i < length ts
    → AreTaken given from next time (get_or ts i d ∷ []) (new ∷ []) moves after → AreTaken given from next time ts (set ts i new) moves after
taken_one given from next time ts i new d moves after l taken s =
    let other = count_in-set s ts i new d l in
    let one = taken s in
    omega (arith, one, other)

-- one after another
pub taken_then : (given : List Stop) (from mid next time : ℕ) (a b c : List Telling) (old moves new : List NetMove)
    → AreTaken given from mid time a b old moves → AreTaken given mid next time b c moves new → AreTaken given from next time a c old new
taken_then given from mid next time a b c old moves new first second s = omega (arith, first s, second s)

none_left : (ds : List (Dated Move)) → first_time ds ≡ None → ds ≡ []
none_left [] e = refl
none_left (d ∷ ds) e = absurd (some_none d.0 e)
  where
    some_none : (x : ℕ) → ◌≡◌ {A = Option ℕ} (Some x) None → ⊥
    some_none x e = cc

-- nothing is left of one history more
read_more : (tellings : List Telling) (i : ℕ) (t : Telling) → i < length tellings → t ≡ get_or tellings i t → first_time t.words ≡ None → AreRead (take i tellings) → AreRead (take (i + 1) tellings)
read_more tellings i t l is none read s =
    let more : count_in s (take (i + 1) tellings) ≡ count_in s (take i tellings) + count_in s (t ∷ []) =
    ap (count_in s) (take_more tellings i t l ∙ ap (λ (x : Telling). take i tellings ++ x ∷ []) (sym is)) ∙ count_in-append s (take i tellings) (t ∷ []) in
    let one : count s (own_stops t.own t.words) ≡ 0 = ap (λ (ds : List (Dated Move)). count s (own_stops t.own ds)) (none_left t.words none) in
    omega (arith, more, one, read s)

pub head_more : (tellings : List Telling) (i : ℕ) (t : Telling) (first head : Option ℕ) → i < length tellings → t ≡ get_or tellings i t → head ≡ first_time t.words → IfNone first (AreRead (take i tellings))
    → (new : Option ℕ) → IfNone new ((first ≡ None) × (head ≡ None)) → IfNone new (AreRead (take (i + 1) tellings))
head_more tellings i t first head l is same read (Some time) none = tt
head_more tellings i t first head l is same read None none = read_more tellings i t l is (sym same ∙ none.1) (subst (λ (o : Option ℕ). IfNone o (AreRead (take i tellings))) none.0 read)

pub head_all : (tellings : List Telling) (n : ℕ) → length tellings ≤ n → (first : Option ℕ) → IfNone first (AreRead (take n tellings)) → IfNone first (AreRead tellings)
head_all tellings n l (Some time) read = tt
head_all tellings n l None read = subst AreRead (take_all n tellings l) read

-- all changes of a time more
pub left_time : (given : List Stop) (from before next time : ℕ) (old new : List Telling) (moves : List NetMove) (first mid last : List Stop) → AreMore given from before first mid → AreTaken given before next time old new [] moves
    → last ≡ mid ++ map (stop_by time) moves → AreLeft given from next old new first last
left_time given from before next time old new moves first mid last more taken e s = omega (arith, more s, taken s, appended_moves s time moves mid last e)

pub left_more : (given : List Stop) (from told next : ℕ) (first old new : List Telling) (none mid last : List Stop) → AreLeft given from told first old none mid → AreLeft given told next old new mid last → AreLeft given from next first new none last
left_more given from told next first old new none mid last before more s = omega (arith, before s, more s)

-- nothing is left
pub left_all : (given : List Stop) (told n : ℕ) (first left : List Telling) (none mid last : List Stop) → none ≡ [] → AreLeft given 0 told first left none mid → AreRead left → AreMore given told n mid last → length given ≤ n → AreAll given first last
left_all given told n first left none mid last e up read more l s =
    let whole : count s (take n given) ≡ count s given = ap (count s) (take_all n given l) in
    let begun : count s none ≡ 0 = ap (count s) e in
    omega (arith, up s, more s, read s, whole, begun)

-- what was told before, and more
pub but_more : (own : List (Option ℕ)) (given : List Stop) (told before next time : ℕ) (ws : List Move) (left rest words : List (Dated Move)) (old some others : List Stop) → AreBut own given told left words old
    → AreMore given told before [] some → AreTold own given before next (at time ws) [] others → at time ws ++ rest ≡ left → AreBut own given next rest words (old ++ (some ++ others))
but_more own given told before next time ws left rest words old some others but more all e s =
    let whole : count s (own_stops own left) ≡ count s (own_stops own (at time ws)) + count s (own_stops own rest) = ap (λ (ds : List (Dated Move)). count s (own_stops own ds)) (sym e) ∙ own_count own s (at time ws) rest in
    omega (arith, but s, more s, all s, whole, count-append s old (some ++ others), count-append s some others)

-- all is told, and more
pub but_end : (own : List (Option ℕ)) (given : List Stop) (told n : ℕ) (left words : List (Dated Move)) (old more : List Stop) → AreBut own given told left words old → AreMore given told n [] more → first_time left ≡ None → length given ≤ n
    → AreBoth own given words (old ++ more)
but_end own given told n left words old more but are none l s =
    let whole : count s (take n given) ≡ count s given = ap (count s) (take_all n given l) in
    let rest : count s (own_stops own left) ≡ 0 = ap (λ (ds : List (Dated Move)). count s (own_stops own ds)) (none_left left none) in
    omega (arith, but s, are s, whole, rest, count-append s old more)

-- what was taken behind some changes
pub more_told : (given : List Stop) (from next : ℕ) (old new more : List Stop) → new ≡ old ++ more → AreMore given from next [] more → AreMore given from next old new
more_told given from next old new more e are s =
    let whole : count s new ≡ count s old + count s more = ap (count s) e ∙ count-append s old more in
    omega (arith, whole, are s)

-- where there is none, what is said of none holds
pub none_read : (o : Option ℕ) (P : Type 0) → false ≡ is_some o → IfNone o P → P
none_read None P none said = said
none_read (Some time) P none said = absurd cc

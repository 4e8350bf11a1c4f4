-- What was put is given back to gates.
use Rattle.std.proofs.Common.{◌≡◌, ◌∙◌, ℕ, zero, suc, ◌+◌, ◌<◌, List, [], ◌∷◌, ◌++◌, map, length, drop, get_or, refl, ap, sym, subst, arith}
use Rattle.std.specs.List.{All, AllByRecursion, flat_map}
use Rattle.std.proofs.lemmas.List.Elements.{All-from_recursion, recursion_from_All}
use Rattle.std.proofs.lemmas.List.{at_drop_more}
use Rattle.std.proofs.lemmas.Grind.{flat_map-append}
use Rattle.gate_values.specs.declared.logic.Logic.{Logic}
use Rattle.warp_stores.specs.Words.{Move}
use Rattle.warp_stores.specs.Delays.{Delayed, queue_at, empty_after}
use Rattle.warp_gates.specs.Cells.{Cell, Outside, Gate, Flop, Gates, AreGates, value_at, cell_at, unmoved, restored_output, HaveSettled, HaveRestored}
use Rattle.place_moves.proofs.Filtering.{every-left, every-right}
use Rattle.place_moves.proofs.Taking.{back_outputs, restored_then}
use Rattle.warp_journal.specs.Books.{Parts, all_of}
use Rattle.warp_journal.specs.Inner.Parts.{AreTakenBack}

-- some of the words of a list of lists are given back, the last of them first
pub record AreRestoring (words : List Move) (old new : Gates) : Type 0 where
  pub cells : new.cells ≡ old.cells
  pub numbers : new.queues ≡ old.queues
  pub values : new.values ≡ old.values
  pub law : AreGates new
  pub outputs : HaveRestored words old new

same_restored : (cell : Cell) (v : Logic) → v ≡ restored_output cell v v
same_restored Outside v = refl
same_restored (Gate kind inputs) v = refl
same_restored (Flop d clock) v = refl

pub restoring_none : (gates : Gates) → AreGates gates → AreRestoring [] gates gates
restoring_none gates law =
    record { cells = refl; numbers = refl; values = refl; law = law; outputs = λ place. same_restored (cell_at gates.cells place) (value_at gates.outputs place) }

pub restoring_more : (words later : List Move) (old mid new : Gates) → AreGates old → AllByRecursion (λ w. w.place < length old.cells) (words ++ later) → AreRestoring later old mid
    → new.cells ≡ mid.cells → new.queues ≡ mid.queues → new.values ≡ mid.values → AreGates new → HaveRestored words mid new → AreRestoring (words ++ later) old new
restoring_more words later old mid new law within r cells numbers values law' restored =
    let len : length old.outputs ≡ length old.cells = law.outputs in
    let len' : length mid.outputs ≡ length mid.cells = let g : AreGates mid = r.law in g.outputs in
    let same : length mid.outputs ≡ length old.outputs = len' ∙ ap (λ (cs : List Cell). length cs) r.cells ∙ sym len in
    let all : AllByRecursion (λ w. w.place < length old.outputs) (words ++ later) = subst (λ (n : ℕ). AllByRecursion (λ (w : Move). w.place < n) (words ++ later)) (sym len) within in
    record {
      cells = cells ∙ r.cells;
      numbers = numbers ∙ r.numbers;
      values = values ∙ r.values;
      law = law';
      outputs = restored_then old mid new words later r.cells same (every-left (λ (w : Move). w.place < length old.outputs) words later all) (every-right (λ (w : Move). w.place < length old.outputs) words later all) r.outputs restored;
    }

-- ---- by lists of lists, the last of them first

module _ {X : Type 0} (f : X → List Move) where
  pub back_to : (xs : List X) (left : ℕ) (x : X) → left < length xs → x ≡ get_or xs left x → flat_map f (drop left xs) ≡ f x ++ flat_map f (drop (left + 1) xs)
  back_to xs left x l e = at_drop_more (flat_map f) xs left x l ∙ ap (λ (y : X). f y ++ flat_map f (drop (left + 1) xs)) (sym e)

  pub back_within : (n : ℕ) (xs : List X) (left : ℕ) → AllByRecursion (λ w. w.place < n) (flat_map f xs) → AllByRecursion (λ w. w.place < n) (flat_map f (drop left xs))
  back_within n [] left h = subst (λ (ys : List X). AllByRecursion (λ (w : Move). w.place < n) (flat_map f ys)) (sym (drop_nil left)) tt
    where
      drop_nil : (k : ℕ) → ◌≡◌ {A = List X} (drop k []) []
      drop_nil zero = refl
      drop_nil (suc k) = refl
  back_within n (x ∷ xs) zero h = h
  back_within n (x ∷ xs) (suc left) h = back_within n xs left (every-right (λ (w : Move). w.place < n) (f x) (flat_map f xs) h)

  pub restoring_back : (xs : List X) (left : ℕ) (x : X) (old mid new : Gates) → AreGates old → All (λ w. w.place < length old.cells) (flat_map f xs) → left < length xs → x ≡ get_or xs left x → AreRestoring (flat_map f (drop (left + 1) xs)) old mid
      → new.cells ≡ mid.cells → new.queues ≡ mid.queues → new.values ≡ mid.values → AreGates new → HaveRestored (f x) mid new → AreRestoring (flat_map f (drop left xs)) old new
  restoring_back xs left x old mid new law within l e r cells numbers values law' restored =
      let is : flat_map f (drop left xs) ≡ f x ++ flat_map f (drop (left + 1) xs) = back_to xs left x l e in
      let all : AllByRecursion (λ w. w.place < length old.cells) (f x ++ flat_map f (drop (left + 1) xs)) =
      subst (AllByRecursion (λ (w : Move). w.place < length old.cells)) is (back_within (length old.cells) xs left (recursion_from_All (λ (w : Move). w.place < length old.cells) (flat_map f xs) within)) in
      subst (λ (ws : List Move). AreRestoring ws old new) (sym is) (restoring_more (f x) (flat_map f (drop (left + 1) xs)) old mid new law all r cells numbers values law' restored)

  -- what is asked of the words of one list
  pub back_asks : (xs : List X) (left : ℕ) (x : X) (old mid : Gates) → All (λ w. w.place < length old.cells) (flat_map f xs) → left < length xs → x ≡ get_or xs left x → mid.cells ≡ old.cells → All (λ w. w.place < length mid.cells) (f x)
  back_asks xs left x old mid within l e same =
      let is : flat_map f (drop left xs) ≡ f x ++ flat_map f (drop (left + 1) xs) = back_to xs left x l e in
      let all : AllByRecursion (λ w. w.place < length old.cells) (f x ++ flat_map f (drop (left + 1) xs)) =
      subst (AllByRecursion (λ (w : Move). w.place < length old.cells)) is (back_within (length old.cells) xs left (recursion_from_All (λ (w : Move). w.place < length old.cells) (flat_map f xs) within)) in
      All-from_recursion (λ (w : Move). w.place < length mid.cells) (f x)
      (subst (λ (cs : List Cell). AllByRecursion (λ (w : Move). w.place < length cs) (f x)) (sym same) (every-left (λ (w : Move). w.place < length old.cells) (f x) (flat_map f (drop (left + 1) xs)) all))

-- each of some words is a list of one
pub flat_singles : {X : Type 0} (g : X → Move) (xs : List X) → flat_map (λ x. g x ∷ []) xs ≡ map g xs
flat_singles g [] = refl
flat_singles g (x ∷ xs) = ap (λ (ws : List Move). g x ∷ ws) (flat_singles g xs)

-- ---- a step is taken back

pub taken_back : (old mid new : Gates) (words puts : List Move) → mid.cells ≡ old.cells → mid.queues ≡ old.queues → mid.values ≡ unmoved words old.values → AreGates mid → HaveSettled old mid → All (λ w. w.place < length old.cells) puts
    → new.cells ≡ mid.cells → new.queues ≡ mid.queues → new.values ≡ mid.values → HaveRestored puts mid new → AreTakenBack words puts old new
taken_back old mid new words puts cells numbers values law settled within cells' numbers' values' restored =
    let there : AllByRecursion (λ w. w.place < length mid.outputs) puts =
    (let len : length mid.outputs ≡ length old.cells = law.outputs ∙ ap (λ (cs : List Cell). length cs) cells in
    subst (λ (n : ℕ). AllByRecursion (λ (w : Move). w.place < n) puts) (sym len) (recursion_from_All (λ (w : Move). w.place < length old.cells) puts within)) in
    record {
      cells = cells' ∙ cells;
      numbers = numbers' ∙ numbers;
      values = values' ∙ values;
      outputs = back_outputs old mid new puts cells values' there settled restored;
    }

-- which element stands in place of one that isn't there makes no difference where it is
pub same_at : {X : Type 0} (xs : List X) (i : ℕ) (d e : X) → i < length xs → get_or xs i d ≡ get_or xs i e
same_at [] i d e l = absurd (omega arith)
same_at (x ∷ xs) zero d e l = refl
same_at (x ∷ xs) (suc i) d e l = same_at xs i d e (omega arith)

pub same_queue : (queues : List Delayed) (i : ℕ) → i < length queues → queue_at queues i ≡ get_or queues i (queue_at queues i)
same_queue queues i l = same_at queues i (empty_after 0) (queue_at queues i) l

-- ---- queues in two parts

module _ (f : Delayed → List Move) (parts : Parts) (old mid new : Gates) (within : All (λ w. w.place < length old.cells) (flat_map f (all_of parts))) where
  each_within : AllByRecursion (λ w. w.place < length old.cells) (flat_map f parts.read ++ flat_map f parts.unread)
  each_within =
      subst (AllByRecursion (λ (w : Move). w.place < length old.cells)) (flat_map-append f parts.read parts.unread)
      (recursion_from_All (λ (w : Move). w.place < length old.cells) (flat_map f (all_of parts)) within)

  pub unread_there : All (λ w. w.place < length old.cells) (flat_map f parts.unread)
  unread_there = All-from_recursion (λ (w : Move). w.place < length old.cells) (flat_map f parts.unread) (every-right (λ (w : Move). w.place < length old.cells) (flat_map f parts.read) (flat_map f parts.unread) each_within)

  pub read_there : mid.cells ≡ old.cells → All (λ w. w.place < length mid.cells) (flat_map f parts.read)
  read_there cells =
      All-from_recursion (λ (w : Move). w.place < length mid.cells) (flat_map f parts.read)
      (subst (λ (cs : List Cell). AllByRecursion (λ (w : Move). w.place < length cs) (flat_map f parts.read)) (sym cells)
      (every-left (λ (w : Move). w.place < length old.cells) (flat_map f parts.read) (flat_map f parts.unread) each_within))

  pub both_restored : AreGates old → AreGates mid → mid.cells ≡ old.cells → HaveRestored (flat_map f parts.unread) old mid → HaveRestored (flat_map f parts.read) mid new → HaveRestored (flat_map f (all_of parts)) old new
  both_restored law law' cells first second =
      let len : length old.outputs ≡ length old.cells = law.outputs in
      let same : length mid.outputs ≡ length old.outputs = law'.outputs ∙ ap (λ (cs : List Cell). length cs) cells ∙ sym len in
      let all : AllByRecursion (λ w. w.place < length old.outputs) (flat_map f parts.read ++ flat_map f parts.unread) =
      subst (λ (n : ℕ). AllByRecursion (λ (w : Move). w.place < n) (flat_map f parts.read ++ flat_map f parts.unread)) (sym len) each_within in
      subst (λ (ws : List Move). HaveRestored ws old new) (sym (flat_map-append f parts.read parts.unread))
      (restored_then old mid new (flat_map f parts.read) (flat_map f parts.unread) cells same
      (every-left (λ (w : Move). w.place < length old.outputs) (flat_map f parts.read) (flat_map f parts.unread) all)
      (every-right (λ (w : Move). w.place < length old.outputs) (flat_map f parts.read) (flat_map f parts.unread) all) first second)

-- Words in the order in which they are told.
use Rattle.std.proofs.Common.{◌≡◌, ◌∙◌, ℕ, ◌<◌, ◌==◌, ◌||◌, Bool, true, false, not, cond, List, [], ◌∷◌, ◌++◌, map, length, get_or, refl, ap, sym, subst, arith}
use Rattle.std.specs.List.{All, filter, flat_map, list_any}
use Rattle.std.specs.List.Sorted.{IsPermutation}
use Rattle.std.proofs.lemmas.Grind.{flat_map-append}
use Rattle.std.proofs.lemmas.Bool.{ne_eqb, true≢false}
use Rattle.std.proofs.lemmas.List.{append-nil, get_or-map, length-map}
use Rattle.std.proofs.lemmas.List.Elements.{All-filter}
use Rattle.std.proofs.lemmas.List.Sorted.{IsPermutation-trans, IsPermutation-map, IsPermutation-append_left, IsPermutation-filter_both, All-permutation}
use Rattle.warp_stores.specs.Words.{Move}
use Rattle.warp_stores.specs.Dated.{Dated, undated}
use Rattle.warp_part.specs.Portion.{Portion}
use Rattle.warp_process.specs.declared.message.Message.{Message}
use Rattle.warp_process.specs.declared.message.Sign.{Sign}
use Rattle.warp_process.specs.Shown.Step.{net_at, sent}
use Rattle.warp_sends.specs.Told.{AreTold, told_of}
use Rattle.warp_sends.specs.declared.telling.Telling.{Telling}
use Rattle.warp_sends.specs.Inner.Tellings.{word_of, has_readers, is_told}

-- what is true of what items are made into
all_mapped : {X Y : Type 0} (P : Y → Type 0) (f : X → Y) (xs : List X) → All P (map f xs) → All (λ x. P (f x)) xs
all_mapped P f xs all k d l =
    subst P (get_or-map f xs k d (f d) l) (all k (f d) (omega (arith, length-map xs f)))

-- the words of places that there are
pub told_within : (p : Portion) (words : List (Dated Move)) (listed sorted : List Telling) → All (λ d. d.1.place < length p.nets) words → map word_of listed ≡ filter (is_told p) words → IsPermutation listed sorted
    → All (λ (t : Telling). t.word.place < length p.nets) sorted
told_within p words listed sorted within are same =
    let P : Dated Move → Type 0 = λ d. d.1.place < length p.nets in
    All-permutation (λ (t : Telling). P (word_of t)) listed sorted same (all_mapped P word_of listed (subst (All P) (sym are) (All-filter (is_told p) P words within)))

-- where no word's net is read, none is told
pub none_told : (p : Portion) (words : List (Dated Move)) (moves : List Move) (some : Bool) → moves ≡ undated words → some ≡ list_any (λ (w : Move). has_readers p w.place) moves → some ≡ false
    → filter (is_told p) words ≡ []
none_told p words moves some are is none = all words (sym (is ∙ ap (list_any (λ (w : Move). has_readers p w.place)) are) ∙ none)
  where
    all : (ds : List (Dated Move)) → list_any (λ (w : Move). has_readers p w.place) (undated ds) ≡ false → filter (is_told p) ds ≡ []
    all [] h = refl
    all (d ∷ ds) h = go (has_readers p d.1.place) h (all ds)
      where
        go : (b : Bool) → (b || list_any (λ (w : Move). has_readers p w.place) (undated ds)) ≡ false → (list_any (λ (w : Move). has_readers p w.place) (undated ds) ≡ false → filter (is_told p) ds ≡ [])
            → cond b (d ∷ filter (is_told p) ds) (filter (is_told p) ds) ≡ []
        go true h rest = absurd (true≢false h)
        go false h rest = rest h

-- the messages on a word to some readers
abbrev told_by : Sign → Portion → Dated Move → List ℕ → List Message
told_by sign p d readers = sent sign (net_at p d.1.place) readers (record { time = d.0; value = d.1.after })

filled : (r : ℕ) (rs : List ℕ) → (length (r ∷ rs) == 0) ≡ false
filled r rs = ne_eqb (length (r ∷ rs)) 0 (omega arith)

-- nothing is told of words whose nets none reads
untold : (sign : Sign) (p : Portion) (words : List (Dated Move)) → flat_map (told_of sign p) (filter (λ d. not (is_told p d)) words) ≡ []
untold sign p [] = refl
untold sign p (d ∷ ds) = go (get_or p.readers d.1.place []) refl (untold sign p ds)
  where
    go : (rs : List ℕ) → get_or p.readers d.1.place [] ≡ rs → flat_map (told_of sign p) (filter (λ e. not (is_told p e)) ds) ≡ []
        → flat_map (told_of sign p) (cond (not (not (length (get_or p.readers d.1.place []) == 0))) (d ∷ filter (λ e. not (is_told p e)) ds) (filter (λ e. not (is_told p e)) ds)) ≡ []
    go [] e h = rw e (ap (λ (ms : List Message). ms ++ flat_map (told_of sign p) (filter (λ e. not (is_told p e)) ds)) (ap (told_by sign p d) e) ∙ h)
    go (r ∷ rs) e h = rw (e, filled r rs) h

-- The messages on words that were listed and sorted are those on all words.
pub are_told : (sign : Sign) (p : Portion) (words : List (Dated Move)) (listed sorted : List Telling) (before out : List Message) → map word_of listed ≡ filter (is_told p) words → IsPermutation listed sorted
    → out ≡ before ++ flat_map (told_of sign p) (map word_of sorted) → AreTold sign p words before out
are_told sign p words listed sorted before out are same told =
    let rest : List (Dated Move) = filter (λ d. not (is_told p d)) words in
    let ordered : List (Dated Move) = map word_of sorted ++ rest in
    let by : IsPermutation (filter (is_told p) words) (map word_of sorted) = subst (λ (ds : List (Dated Move)). IsPermutation ds (map word_of sorted)) are (IsPermutation-map word_of listed sorted same) in
    record {
      ordered = ordered;
      same =
          IsPermutation-trans words (filter (is_told p) words ++ rest) ordered
          (IsPermutation-filter_both (is_told p) (λ d. not (is_told p d)) (λ d. refl) words)
          (IsPermutation-append_left rest (filter (is_told p) words) (map word_of sorted) by);
      told =
          told ∙ ap (λ (ms : List Message). before ++ ms)
          (sym (flat_map-append (told_of sign p) (map word_of sorted) rest ∙ ap (λ (ms : List Message). flat_map (told_of sign p) (map word_of sorted) ++ ms) (untold sign p words)
          ∙ append-nil (flat_map (told_of sign p) (map word_of sorted))));
    }

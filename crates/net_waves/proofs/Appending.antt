-- What is told once words or keys of a later time stand behind all others.
use Rattle.std.proofs.Common.{◌≡◌, ℕ, zero, suc, ◌+◌, ◌-◌, ◌/◌, ◌<◌, ◌≤◌, inl, inr, Bool, true, false, cond, List, [], ◌∷◌, ◌++◌, length, get_or, take, map, refl, ap, ap₂, sym, ◌∙◌, subst, arith, append_assoc, replicate}
use Rattle.std.proofs.Math.ListN.{set, length-set}
use Rattle.std.specs.Prelude.{IsTrue}
use Rattle.std.specs.List.{AllByRecursion}
use Rattle.std.proofs.lemmas.List.{append-nil, map-append, take_all, drop_all, take-append-le, drop-append-le, get_or_append_left, get_or-set_same, get_or-set_other, length-append}
use Rattle.std.proofs.Math.Seq.{get_or-append_seam}
use Rattle.net_waves.specs.declared.timeline.Stop.{Stop}
use Rattle.net_waves.specs.declared.timeline.NetMove.{NetMove}
use Rattle.net_waves.specs.Timeline.{Before, IsRising, stop_by}
use Rattle.net_waves.specs.Packed.{Packed, told, words_at, told_below, all_told, times, AreBounds, IsPacked}
use Rattle.net_waves.specs.Inner.Packed.{EndAt, IsOpen, NetsRise, word_by}
use Rattle.net_waves.specs.Keys.{KeysRise, AreKeys, stop_of, stops_of_keys}
use Rattle.net_waves.specs.Inner.Keys.{key_by, HaveKeys}
use Rattle.net_waves.proofs.Compared.{cases_lt}
use Rattle.net_waves.proofs.PackedLaws.{told-word}
use Rattle.net_waves.proofs.KeyLaws.{stop-key}
use Rattle.net_waves.proofs.Rising.{All-append, All-weaker, Earlier, rising-push}

-- ---- what is told of earlier times

all-at : (t : ℕ) (ws : List ℕ) → AllByRecursion (λ (s : Stop). s.time < suc t) (map (told t) ws)
all-at t [] = tt
all-at t (w ∷ ws) = (omega arith, all-at t ws)

-- what is told of the times below one is of earlier times
all-early : (p : Packed) (t : ℕ) → AllByRecursion (λ (s : Stop). s.time < t) (told_below p t)
all-early p zero = tt
all-early p (suc t) = All-append (λ (s : Stop). s.time < suc t) (told_below p t) (map (told t) (words_at p t))
    (All-weaker (λ (s : Stop). s.time < t) (λ (s : Stop). s.time < suc t) (told_below p t) (λ s h. omega arith) (all-early p t)) (all-at t (words_at p t))

-- where times are few, all is told of earlier ones
pub early-told : (p q : Packed) (t : ℕ) → all_told q ≡ all_told p → times p ≤ t → AllByRecursion (λ (s : Stop). s.time < t) (all_told q)
early-told p q t same few = subst (AllByRecursion (λ (s : Stop). s.time < t)) (sym same) (All-weaker (λ (s : Stop). s.time < times p) (λ (s : Stop). s.time < t) (all_told p) (λ s h. omega arith) (all-early p (times p)))

-- ---- more times

told-same : (p q : Packed) (n : ℕ) → ((t : ℕ) → t < n → words_at p t ≡ words_at q t) → told_below p n ≡ told_below q n
told-same p q zero h = refl
told-same p q (suc n) h = rw (told-same p q n (λ t l. h t (omega arith)), h n (omega arith)) refl

-- a bound more, where the words end
module _ (bounds words : List ℕ) (are : AreBounds bounds (length words)) (whole : EndAt bounds (length words)) where
  abbrev end : ℕ
  end = length words

  abbrev old : Packed
  old = record { bounds = bounds; words = words }

  abbrev new : Packed
  new = record { bounds = bounds ++ end ∷ []; words = words }

  long : length (bounds ++ end ∷ []) ≡ length bounds + 1
  long = length-append bounds (end ∷ [])

  at-old : (t : ℕ) → t < length bounds → get_or (bounds ++ end ∷ []) t 0 ≡ get_or bounds t 0
  at-old t h = get_or_append_left bounds (end ∷ []) 0 t h

  at-end : (t : ℕ) → t ≡ length bounds → get_or (bounds ++ end ∷ []) t 0 ≡ end
  at-end t h = rw h (get_or-append_seam bounds end [] 0)

  bounds-more : AreBounds (bounds ++ end ∷ []) (length words)
  bounds-more = record {
    rising = λ t h. elim (cases_lt (t + 1) (length bounds)) [
      | inl here ↦ omega (arith, at-old t (omega arith), at-old (t + 1) here, are.rising t here)
      | inr past ↦ omega (arith, long, at-old t (omega (arith, long)), at-end (t + 1) (omega (arith, long)), are.within t (omega (arith, long)))
    ];
    within = λ t h. elim (cases_lt t (length bounds)) [
      | inl here ↦ omega (arith, at-old t here, are.within t here)
      | inr past ↦ omega (arith, long, at-end t (omega (arith, long)))
    ];
  }

  whole-more : EndAt (bounds ++ end ∷ []) (length words)
  whole-more last h = at-end last (omega (arith, long))

  words-same : (m t : ℕ) → m < length bounds → t < m → words_at new t ≡ words_at old t
  words-same m t known h = rw (at-old t (omega arith), at-old (t + 1) (omega arith)) refl

  words-none : (m : ℕ) → m + 1 ≡ length bounds → words_at new m ≡ []
  words-none m h = rw (at-old m (omega arith), at-end (m + 1) h, whole m h) (drop_all end (take end words) (omega (arith, ap (λ (ws : List ℕ). length ws) (take_all end words (omega arith)))))

  told-more : (m : ℕ) → m ≡ length bounds → told_below new m ≡ all_told old
  told-more zero h = let none : length bounds - 1 ≡ 0 = omega arith in rw none refl
  told-more (suc m) h =
      let before : length bounds - 1 ≡ m = omega arith in
      rw (before, words-none m (omega arith)) (append-nil (told_below new m) ∙ told-same new old m (λ t l. words-same m t (omega arith) l))

  all-more : all_told new ≡ all_told old
  all-more =
      let size : length (bounds ++ end ∷ []) - 1 ≡ length bounds = omega (arith, long) in
      rw size (told-more (length bounds) refl)

-- so many bounds more
pub grown : (k many : ℕ) (bounds words : List ℕ) → IsPacked (record { bounds = bounds; words = words }) → IsOpen (record { bounds = bounds; words = words }) many
    → IsPacked (record { bounds = bounds ++ replicate k (length words); words = words }) × IsOpen (record { bounds = bounds ++ replicate k (length words); words = words }) many × (all_told (record { bounds = bounds ++ replicate k (length words); words = words }) ≡ all_told (record { bounds = bounds; words = words }))
grown zero many bounds words is opened = rw (append-nil bounds) (is, opened, refl)
grown (suc k) many bounds words is opened =
    let end = length words in
    let more = bounds ++ end ∷ [] in
    let same = all-more bounds words is.bounds opened.whole in
    let is_more : IsPacked (record { bounds = more; words = words }) = record { bounds = bounds-more bounds words is.bounds opened.whole; rising = subst IsRising (sym same) is.rising } in
    let open_more : IsOpen (record { bounds = more; words = words }) many = record { whole = whole-more bounds words is.bounds opened.whole; few = opened.few } in
    let rest = grown k many more words is_more open_more in
    rw (sym (append_assoc bounds (end ∷ []) (replicate k end))) (rest.0, rest.1, rest.2 ∙ same)

-- words and bounds as vectors hold them once there was to be room for so many words more, and for so many bounds
module _ (b : Bool) (p : Packed) (words new : List ℕ) (long size end many : ℕ) where
  abbrev grew : Packed
  grew = record { bounds = new; words = words }

  resized-here : words ≡ p.words → long ≡ length p.bounds → end ≡ length words → new ≡ cond b (take size p.bounds ++ replicate (size - long) end) p.bounds → IsPacked p → IsOpen p many → times p + 1 ≤ size → IsPacked grew × (all_told grew ≡ all_told p)
  resized-here same size_is ends is packed opened more =
      let fits : length p.bounds ≤ size = omega (arith, more) in
      let all = grown (size - long) many p.bounds p.words packed opened in
      rw (same, is, ends, same) (either b fits all)
    where
      either : (c : Bool) → length p.bounds ≤ size
          → IsPacked (record { bounds = p.bounds ++ replicate (size - long) (length p.words); words = p.words }) × IsOpen (record { bounds = p.bounds ++ replicate (size - long) (length p.words); words = p.words }) many × (all_told (record { bounds = p.bounds ++ replicate (size - long) (length p.words); words = p.words }) ≡ all_told p)
          → IsPacked (record { bounds = cond c (take size p.bounds ++ replicate (size - long) (length p.words)) p.bounds; words = p.words }) × (all_told (record { bounds = cond c (take size p.bounds ++ replicate (size - long) (length p.words)) p.bounds; words = p.words }) ≡ all_told p)
      either false fits all = (packed, refl)
      either true fits all = rw (take_all size p.bounds fits) (all.0, all.2)

  pub resized : (q : Packed) → p ≡ q → words ≡ p.words → long ≡ length p.bounds → end ≡ length words → new ≡ cond b (take size p.bounds ++ replicate (size - long) end) p.bounds → IsPacked p → IsOpen q many → times q + 1 ≤ size → IsPacked grew × (all_told grew ≡ all_told q)
  resized q e same size_is ends is packed opened more =
      subst (λ (r : Packed). IsOpen r many → times r + 1 ≤ size → IsPacked grew × (all_told grew ≡ all_told r)) e (resized-here same size_is ends is packed) opened more

-- ---- words more

-- words whose nets rise, behind stops that are earlier
rising-words : (t n nets : ℕ) (ws : List ℕ) (xs : List Stop) → IsRising xs → AllByRecursion (Earlier t n) xs → NetsRise n nets ws → IsRising (xs ++ map (told t) ws)
rising-words t n nets [] xs rising early rise = rw (append-nil xs) rising
rising-words t n nets (w ∷ ws) xs rising early rise =
    subst IsRising (append_assoc xs (told t w ∷ []) (map (told t) ws)) (rising-words t (w / 4 + 1) nets ws (xs ++ told t w ∷ [])
    (rising-push xs (told t w) rising (All-weaker (Earlier t n) (λ s. Before s (told t w)) xs before early))
    (All-append (Earlier t (w / 4 + 1)) xs (told t w ∷ []) (All-weaker (Earlier t n) (Earlier t (w / 4 + 1)) xs wider early) (inr (refl, omega arith), tt))
    rise.2)
  where
    before : (s : Stop) → Earlier t n s → Before s (told t w)
    before s (inl e) = inl e
    before s (inr e) = inr (e.0, omega (arith, e.1, rise.0))

    wider : (s : Stop) → Earlier t n s → Earlier t (w / 4 + 1) s
    wider s (inl e) = inl e
    wider s (inr e) = inr (e.0, omega (arith, e.1, rise.0))

module _ (bounds words ws : List ℕ) (t : ℕ) (are : AreBounds bounds (length words)) (whole : EndAt bounds (length words)) (last : length bounds ≡ t + 2) where
  abbrev was : Packed
  was = record { bounds = bounds; words = words }

  abbrev grows_to : ℕ
  grows_to = length words + length ws

  abbrev longer : List ℕ
  longer = set bounds (t + 1) grows_to

  abbrev is : Packed
  is = record { bounds = longer; words = words ++ ws }

  here : get_or longer (t + 1) 0 ≡ grows_to
  here = get_or-set_same bounds (t + 1) grows_to 0 (omega (arith, last))

  other : (u : ℕ) → u < t + 1 → get_or longer u 0 ≡ get_or bounds u 0
  other u h = get_or-set_other bounds (t + 1) u grows_to 0 (λ e. omega (arith, e))

  size : length longer ≡ t + 2
  size = length-set bounds (t + 1) grows_to ∙ last

  grows : length (words ++ ws) ≡ grows_to
  grows = length-append words ws

  ended : get_or bounds (t + 1) 0 ≡ length words
  ended = whole (t + 1) (omega (arith, last))

  words-before : (u : ℕ) → u < t → words_at is u ≡ words_at was u
  words-before u h =
      rw (other u (omega arith), other (u + 1) (omega arith), take-append-le (get_or bounds (u + 1) 0) words ws (are.within (u + 1) (omega (arith, last)))) refl

  words-last : words_at is t ≡ words_at was t ++ ws
  words-last =
      rw (other t (omega arith), here, ended, take_all grows_to (words ++ ws) (omega (arith, grows)), take_all (length words) words (omega arith))
      (drop-append-le (get_or bounds t 0) words ws (are.within t (omega (arith, last))))

  pub told-words : all_told is ≡ all_told was ++ map (told t) ws
  told-words =
      let new_times : length longer - 1 ≡ suc t = omega (arith, size) in
      let old_times : length bounds - 1 ≡ suc t = omega (arith, last) in
      rw (new_times, old_times, told-same is was t words-before, words-last, map-append (told t) (words_at was t) ws)
      (sym (append_assoc (told_below was t) (map (told t) (words_at was t)) (map (told t) ws)))

  pub bounds-longer : AreBounds longer (length (words ++ ws))
  bounds-longer = record {
    rising = λ u h. elim (cases_lt (u + 1) (t + 1)) [
      | inl early ↦ omega (arith, other u (omega arith), other (u + 1) early, are.rising u (omega (arith, last)))
      | inr late ↦ (let e : u ≡ t = omega (arith, size) in rw e (omega (arith, here, other t (omega arith), are.within t (omega (arith, last)))))
    ];
    within = λ u h. elim (cases_lt u (t + 1)) [
      | inl early ↦ omega (arith, grows, other u early, are.within u (omega (arith, last)))
      | inr late ↦ (let e : u ≡ t + 1 = omega (arith, size) in rw e (omega (arith, grows, here)))
    ];
  }

  packed-longer : (nets : ℕ) → IsRising (all_told was) → AllByRecursion (λ (s : Stop). s.time < t) (all_told was) → NetsRise 0 nets ws → IsPacked is
  packed-longer nets rising early rise = record {
    bounds = bounds-longer;
    rising = subst IsRising (sym told-words) (rising-words t 0 nets ws (all_told was) rising (All-weaker (λ (s : Stop). s.time < t) (Earlier t 0) (all_told was) (λ s h. inl h) early) rise);
  }

told-moves : (t : ℕ) (ms : List NetMove) → map (told t) (map word_by ms) ≡ map (stop_by t) ms
told-moves t [] = refl
told-moves t (m ∷ ms) = ap₂ (λ (s : Stop) (ss : List Stop). s ∷ ss) (told-word (stop_by t m)) (told-moves t ms)

-- words and bounds as vectors hold them once the words of moves have been pushed and the last bound set
module _ (p : Packed) (words : List ℕ) (moves : List NetMove) (at end : ℕ) where
  abbrev told-last : Packed → List Stop
  told-last r = map (stop_by (times r - 1)) moves

  abbrev lengthened : Packed
  lengthened = record { bounds = set p.bounds at end; words = words }

  abbrev Early : Packed → Type 0
  Early r = AllByRecursion (λ (s : Stop). s.time < times r - 1) (all_told r)

  pushed-here : at ≡ length p.bounds - 1 → end ≡ length words → words ≡ p.words ++ map word_by moves → NetsRise 0 1073741823 (map word_by moves) → IsPacked p → IsOpen p (length moves) → 0 < times p → Early p → IsPacked lengthened × (all_told lengthened ≡ all_told p ++ told-last p)
  pushed-here at_last ends more rise packed opened some early =
      let t = times p - 1 in
      let ws = map word_by moves in
      let last : length p.bounds ≡ t + 2 = omega (arith, some) in
      let here : at ≡ t + 1 = omega (arith, some, at_last) in
      let size : end ≡ length p.words + length ws = ends ∙ ap (λ (vs : List ℕ). length vs) more ∙ length-append p.words ws in
      rw (here, size, more) (packed-longer p.bounds p.words ws t packed.bounds opened.whole last 1073741823 packed.rising early rise, told-words p.bounds p.words ws t packed.bounds opened.whole last ∙ ap (λ (ss : List Stop). all_told p ++ ss) (told-moves t moves))

  pub pushed : (q : Packed) → p ≡ q → at ≡ length p.bounds - 1 → end ≡ length words → words ≡ p.words ++ map word_by moves → NetsRise 0 1073741823 (map word_by moves) → IsPacked p → IsOpen q (length moves) → 0 < times q → Early q → IsPacked lengthened × (all_told lengthened ≡ all_told q ++ told-last q)
  pushed q e at_last ends more rise packed opened some early =
      subst (λ (r : Packed). IsOpen r (length moves) → 0 < times r → Early r → IsPacked lengthened × (all_told lengthened ≡ all_told r ++ told-last r)) e (pushed-here at_last ends more rise packed) opened some early

-- ---- keys more

pub keys-behind : (from : ℕ) (keys more : List ℕ) → 0 < length keys → KeysRise from keys → KeysRise (get_or keys (length keys - 1) 0 / 4 + 1) more → KeysRise from (keys ++ more)
keys-behind from [] more some rise h = absurd (omega arith)
keys-behind from (k ∷ []) more some rise h = (rise.0, h)
keys-behind from (k ∷ j ∷ ks) more some rise h =
    let first : suc (length ks) - 1 ≡ length ks = omega arith in
    let second : suc (suc (length ks)) - 1 ≡ suc (length ks) = omega arith in
    (rise.0, keys-behind (k / 4 + 1) (j ∷ ks) more (omega arith) rise.1 (rw first (rw second at h)))

keys-of-moves : (time from : ℕ) (ms : List NetMove) → HaveKeys time from ms → KeysRise from (map (key_by time) ms)
keys-of-moves time from [] have = tt
keys-of-moves time from (m ∷ ms) have = (have.1, keys-of-moves time (key_by time m / 4 + 1) ms have.2)

stops-of-moves : (time from : ℕ) (ms : List NetMove) → HaveKeys time from ms → stops_of_keys (map (key_by time) ms) ≡ map (stop_by time) ms
stops-of-moves time from [] have = refl
stops-of-moves time from (m ∷ ms) have = ap₂ (λ (s : Stop) (ss : List Stop). s ∷ ss) (stop-key (stop_by time m) have.0) (stops-of-moves time (key_by time m / 4 + 1) ms have.2)

-- keys that were reserved for, read as a slice, and then pushed to, or not
module _ (b : Bool) (old reserved slice new : List ℕ) (time first : ℕ) (ms : List NetMove) where
  pub keys-kept : AreKeys old → reserved ≡ old → slice ≡ reserved → ((more : List ℕ) → KeysRise first more → AreKeys (slice ++ more)) → (IsTrue b → new ≡ reserved ++ map (key_by time) ms) → (IsTrue b → HaveKeys time first ms) → (b ≡ false → new ≡ reserved) → AreKeys new
  keys-kept are same read behind pushed have stays = by b refl
    where
      by : (c : Bool) → b ≡ c → AreKeys new
      by true e = rw (pushed e, sym read) (behind (map (key_by time) ms) (keys-of-moves time first ms (have e)))
      by false e = rw (stays e, same) are

  pub keys-told : reserved ≡ old → (IsTrue b → new ≡ reserved ++ map (key_by time) ms) → (IsTrue b → HaveKeys time first ms) → b ≡ true → stops_of_keys new ≡ stops_of_keys old ++ map (stop_by time) ms
  keys-told same pushed have e =
      rw (pushed e, same) (map-append stop_of old (map (key_by time) ms) ∙ ap (λ (ss : List Stop). stops_of_keys old ++ ss) (stops-of-moves time first ms (have e)))

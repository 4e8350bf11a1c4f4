-- What is told once the words of others stand behind all.
use Rattle.std.proofs.Common.{◌≡◌, ℕ, zero, suc, ◌+◌, ◌-◌, ◌<◌, ◌≤◌, inl, inr, List, [], ◌∷◌, ◌++◌, length, map, ap, sym, ◌∙◌, subst, arith}
use Rattle.std.proofs.Math.ListN.{set}
use Rattle.std.specs.List.{AllByRecursion}
use Rattle.std.proofs.lemmas.List.{length-append}
use Rattle.net_waves.specs.declared.timeline.Stop.{Stop}
use Rattle.net_waves.specs.Timeline.{Before, IsRising}
use Rattle.net_waves.specs.Packed.{Packed, told, words_at, told_below, all_told, times, IsPacked}
use Rattle.net_waves.specs.Inner.Packed.{IsOpen}
use Rattle.net_waves.proofs.Compared.{cases_below}
use Rattle.net_waves.proofs.Rising.{All-append, All-weaker}
use Rattle.net_waves.proofs.Appending.{told-words, bounds-longer}

-- ---- parts of what rises

All-front : {X : Type 0} (P : X → Type 0) (xs ys : List X) → AllByRecursion P (xs ++ ys) → AllByRecursion P xs
All-front P [] ys a = tt
All-front P (x ∷ xs) ys a = (a.0, All-front P xs ys a.1)

rising-front : (xs ys : List Stop) → IsRising (xs ++ ys) → IsRising xs
rising-front [] ys r = tt
rising-front (x ∷ xs) ys r = (All-front (Before x) xs ys r.0, rising-front xs ys r.1)

rising-back : (xs ys : List Stop) → IsRising (xs ++ ys) → IsRising ys
rising-back [] ys r = r
rising-back (x ∷ xs) ys r = rising-back xs ys r.1

-- where all that is told rises, so does what is told of one time
pub rising-at : (p : Packed) (n t : ℕ) → t < n → IsRising (told_below p n) → IsRising (map (told t) (words_at p t))
rising-at p zero t h r = absurd (omega arith)
rising-at p (suc n) t h r = elim (cases_below t n h) [
  | inl less ↦ rising-at p n t less (rising-front (told_below p n) (map (told n) (words_at p n)) r)
  | inr last ↦ rw last (rising-back (told_below p n) (map (told n) (words_at p n)) r)
]

-- ---- what rises behind what is earlier

rising-both : (t : ℕ) (xs ys : List Stop) → IsRising xs → IsRising ys → AllByRecursion (λ (s : Stop). s.time < t) xs → AllByRecursion (λ (s : Stop). t ≤ s.time) ys → IsRising (xs ++ ys)
rising-both t [] ys front back early late = back
rising-both t (x ∷ xs) ys front back early late =
    (All-append (Before x) xs ys front.0 (All-weaker (λ (s : Stop). t ≤ s.time) (Before x) ys (λ s h. inl (omega (arith, early.0, h))) late), rising-both t xs ys front.1 back early.1 late)

all-late : (t : ℕ) (ws : List ℕ) → AllByRecursion (λ (s : Stop). t ≤ s.time) (map (told t) ws)
all-late t [] = tt
all-late t (w ∷ ws) = (omega arith, all-late t ws)

-- words and bounds as vectors hold them once words that rise have been put behind all, and the last bound set
module _ (p : Packed) (words ws : List ℕ) (at end : ℕ) where
  abbrev told-last : Packed → List Stop
  told-last r = map (told (times r - 1)) ws

  abbrev lengthened : Packed
  lengthened = record { bounds = set p.bounds at end; words = words }

  abbrev Early : Packed → Type 0
  Early r = AllByRecursion (λ (s : Stop). s.time < times r - 1) (all_told r)

  extended-here : at ≡ length p.bounds - 1 → end ≡ length words → words ≡ p.words ++ ws → IsPacked p → IsOpen p (length ws) → 0 < times p → Early p → IsRising (told-last p) → IsPacked lengthened × (all_told lengthened ≡ all_told p ++ told-last p)
  extended-here at_last ends more packed opened some early rise =
      let t = times p - 1 in
      let last : length p.bounds ≡ t + 2 = omega (arith, some) in
      let here : at ≡ t + 1 = omega (arith, some, at_last) in
      let size : end ≡ length p.words + length ws = ends ∙ ap (λ (vs : List ℕ). length vs) more ∙ length-append p.words ws in
      let same = told-words p.bounds p.words ws t packed.bounds opened.whole last in
      let both = rising-both t (all_told p) (map (told t) ws) packed.rising rise early (all-late t ws) in
      rw (here, size, more) (record { bounds = bounds-longer p.bounds p.words ws t packed.bounds opened.whole last; rising = subst IsRising (sym same) both }, same)

  pub extended : (q : Packed) → p ≡ q → at ≡ length p.bounds - 1 → end ≡ length words → words ≡ p.words ++ ws → IsPacked p → IsOpen q (length ws) → 0 < times q → Early q → IsRising (told-last q) → IsPacked lengthened × (all_told lengthened ≡ all_told q ++ told-last q)
  extended q e at_last ends more packed opened some early rise =
      subst (λ (r : Packed). IsOpen r (length ws) → 0 < times r → Early r → IsRising (told-last r) → IsPacked lengthened × (all_told lengthened ≡ all_told r ++ told-last r)) e (extended-here at_last ends more packed) opened some early rise

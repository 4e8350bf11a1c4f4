-- What the lists hold after all blocks have given their logs.
use Rattle.std.proofs.Common.{◌≡◌, ◌≢◌, ℕ, zero, suc, ◌+◌, ◌<◌, ◌≤◌, true, false, cond, IfSome, IsTrue, Option, Some, None, List, [], ◌∷◌, length, inl, inr, refl, ap, sym, ◌∙◌, subst, arith, All}
use Rattle.std.proofs.lemmas.Bool.{cases_Bool, cases_lt, cond-true, cond-false, ne_eqb, true≢false}
use Rattle.std.proofs.lemmas.List.{get_or_default, get_or_past}
use Rattle.gate_values.specs.declared.logic.Change.{Change}
use Rattle.gate_values.specs.Changes.{before_time}
use Rattle.gate_netlist.specs.Circuit.{Design, CutFits, nets_of}
use Rattle.gate_netlist.specs.Cut.{Ownership, IsOwnership, is_owner, owner_of}
use Rattle.gate_stimulus.specs.Given.{Given, AreItsChanges, changes_of}
use Rattle.net_waves.specs.Waves.{wave_of, IsWave}
use Rattle.net_waves.proofs.Compared.{cases_eq}
use Rattle.warp_process.specs.Limits.{most_horizon}
use Rattle.warp_part.specs.Portion.{Portion, owns}
use Rattle.warp_part.specs.PartOf.{is_own}
use Rattle.warp_process.specs.View.{View, Process, log_of}
use Rattle.warp_process.specs.Lawful.{IsLawful}
use Rattle.warp_part.proofs.PartBuilding.{nets_within}
use Rattle.warp_core.specs.Matched.{no_process, seen_at, IsBlockOf, EachBlock, told_by, told_of}
use Rattle.warp_core.specs.Gather.{AreCounted}
use Rattle.warp_core.specs.Inner.Gather.{after_block, after_blocks, AreApart}
use Rattle.warp_core.proofs.Parts.{owner_owns, other_owns}
use Rattle.warp_core.proofs.Finished.{given_wave, log_wave}

some_none : (o : ℕ) → ◌≡◌ {A = Option ℕ} (Some o) None → ⊥
some_none o e = cc

-- what one block gives
pub after_one : (v : View) (old new : ℕ → List Change) → ((n : ℕ) → IsTrue (owns v.part n) → new n ≡ log_of v n) → ((n : ℕ) → owns v.part n ≡ false → new n ≡ old n)
    → (n : ℕ) → new n ≡ after_block v old n
after_one v old new own others n = elim (cases_Bool (owns v.part n)) [
  | inl is ↦ own n is ∙ sym (cond-true (owns v.part n) (log_of v n) (old n) is)
  | inr other ↦ others n other ∙ sym (cond-false (owns v.part n) (log_of v n) (old n) other)
]

-- the same lists before, the same lists after
pub after_same : (ps : List Process) (f g : ℕ → List Change) → ((n : ℕ) → f n ≡ g n) → (n : ℕ) → after_blocks ps f n ≡ after_blocks ps g n
after_same [] f g e n = e n
after_same (p ∷ ps) f g e n = after_same ps (after_block p.seen f) (after_block p.seen g) (λ m. ap (λ (list : List Change). cond (owns p.seen.part m) (log_of p.seen m) list) (e m)) n

-- lists that say nothing of the own nets of blocks, none of which two own, say nothing of those of the others after one has given its logs
pub none_rest : (p : Process) (ps : List Process) (old new : ℕ → List Change) → AreApart (p ∷ ps) → All (λ (q : Process). (n : ℕ) → owns q.seen.part n ≡ true → old n ≡ []) (p ∷ ps)
    → ((n : ℕ) → owns p.seen.part n ≡ false → new n ≡ old n) → All (λ (q : Process). (n : ℕ) → owns q.seen.part n ≡ true → new n ≡ []) ps
none_rest p ps old new apart none others i q l n own = elim (cases_Bool (owns p.seen.part n)) [
  | inl is ↦ absurd (true≢false (sym own ∙ apart.0 i q l n is))
  | inr other ↦ others n other ∙ none (suc i) q (omega (arith, l)) n own
]

-- blocks of which no two own a net
apart_from : (ps : List Process) → ((b c n : ℕ) → b < length ps → c < length ps → b ≢ c → owns (seen_at ps b).part n ≡ true → owns (seen_at ps c).part n ≡ false) → AreApart ps
apart_from [] h = tt
apart_from (p ∷ ps) h = (
  (λ i q l n own.
      subst (λ (r : Process). owns r.seen.part n ≡ false) (sym (get_or_default ps i q no_process l))
      (h 0 (suc i) n (omega arith) (omega (arith, l)) (λ e. absurd (omega (arith, e))) own)),
  apart_from ps (λ b c n lb lc ne own. h (suc b) (suc c) n (omega (arith, lb)) (omega (arith, lc)) (λ e. ne (omega (arith, e))) own),
)

-- a net that no block owns keeps its list
after_none : (ps : List Process) (lists : ℕ → List Change) (n : ℕ) → ((b : ℕ) → b < length ps → owns (seen_at ps b).part n ≡ false) → after_blocks ps lists n ≡ lists n
after_none [] lists n others = refl
after_none (p ∷ ps) lists n others =
    after_none ps (after_block p.seen lists) n (λ b l. others (suc b) (omega (arith, l)))
    ∙ cond-false (owns p.seen.part n) (log_of p.seen n) (lists n) (others 0 (omega arith))

-- a net that one block alone owns has that block's log
after_own : (ps : List Process) (lists : ℕ → List Change) (n b : ℕ) → b < length ps → owns (seen_at ps b).part n ≡ true → ((c : ℕ) → c < length ps → c ≢ b → owns (seen_at ps c).part n ≡ false)
    → after_blocks ps lists n ≡ log_of (seen_at ps b) n
after_own [] lists n b l own others = absurd (omega (arith, l))
after_own (p ∷ ps) lists n zero l own others =
    after_none ps (after_block p.seen lists) n (λ c k. others (suc c) (omega (arith, k)) (λ e. absurd (omega (arith, e))))
    ∙ cond-true (owns p.seen.part n) (log_of p.seen n) (lists n) own
after_own (p ∷ ps) lists n (suc b) l own others =
    after_own ps (after_block p.seen lists) n b (omega (arith, l)) own (λ c k apart. others (suc c) (omega (arith, k)) (λ e. apart (omega (arith, e))))

module _ (d : Design) (cut : Ownership) (g : Given) (horizon : ℕ) (blocks : List Process) (fits : CutFits d cut) (owners : IsOwnership cut) (count : AreCounted cut blocks)
    (parts : EachBlock cut blocks (IsBlockOf d cut horizon)) where
  owner_within : (n b : ℕ) → owner_of cut n ≡ Some b → b < cut.blocks
  owner_within n b e = subst (λ o. IfSome o (λ c. c < cut.blocks)) e (owners.owned n)

  other_block : (n b : ℕ) → b < length blocks → is_own cut b n ≡ false → owns (seen_at blocks b).part n ≡ false
  other_block n b l other = ap (λ (p : Portion). owns p n) (parts b (omega (arith, l, count))).part ∙ other_owns d cut fits b n other

  -- each net has what its owner, or the stimulus, says
  pub after_told : (lists : ℕ → List Change) → ((n : ℕ) → n < nets_of d → owner_of cut n ≡ None → lists n ≡ before_time (horizon + 1) (changes_of g n))
      → (n : ℕ) → n < nets_of d → after_blocks blocks lists n ≡ told_of cut g horizon blocks n
  after_told lists given n within = go (owner_of cut n) refl
    where
      go : (o : Option ℕ) → owner_of cut n ≡ o → after_blocks blocks lists n ≡ told_by g horizon blocks n o
      go None e = after_none blocks lists n (λ b l. other_block n b l (ap (is_owner b) e)) ∙ given n within e
      go (Some b) e =
          let l = owner_within n b e in
          after_own blocks lists n b (omega (arith, l, count)) (ap (λ (p : Portion). owns p n) (parts b l).part ∙ owner_owns d cut fits b n e)
          (λ c k apart. other_block n c k (ap (is_owner c) e ∙ ne_eqb b c (λ same. apart (sym same))))

  -- so have lists that say it, where those before say nothing of others
  pub waves_after : (before waves : List (List Change)) → length before ≡ nets_of d → length waves ≡ nets_of d
      → ((n : ℕ) → n < nets_of d → owner_of cut n ≡ None → wave_of before n ≡ before_time (horizon + 1) (changes_of g n))
      → ((n : ℕ) → n < nets_of d → wave_of waves n ≡ told_of cut g horizon blocks n) → (n : ℕ) → wave_of waves n ≡ after_blocks blocks (wave_of before) n
  waves_after before waves short long given are n = elim (cases_lt n (nets_of d)) [
    | inl within ↦ are n within ∙ sym (after_told (wave_of before) given n within)
    | inr past ↦
        get_or_past waves n [] (omega (arith, past, long))
        ∙ sym (after_none blocks (wave_of before) n (λ b l. other_block n b l (unowned b past (owner_of cut n) refl)) ∙ get_or_past before n [] (omega (arith, past, short)))
  ]
    where
      unowned : (b : ℕ) → nets_of d ≤ n → (o : Option ℕ) → owner_of cut n ≡ o → is_own cut b n ≡ false
      unowned b past None e = ap (is_owner b) e
      unowned b past (Some o) e = absurd (some_none o (sym e ∙ get_or_past cut.owners n None (let same = fits.nets in omega (arith, past, same))))

  -- no two blocks own a net
  pub blocks_apart : AreApart blocks
  blocks_apart = apart_from blocks (λ b c n lb lc ne own. go b c n lb lc ne own (owner_of cut n) refl)
    where
      go : (b c n : ℕ) → b < length blocks → c < length blocks → b ≢ c → owns (seen_at blocks b).part n ≡ true → (o : Option ℕ) → owner_of cut n ≡ o → owns (seen_at blocks c).part n ≡ false
      go b c n lb lc ne own None e = other_block n c lc (ap (is_owner c) e)
      go b c n lb lc ne own (Some o) e = elim (cases_eq o c) [
        | inl same ↦ absurd (true≢false (sym own ∙ other_block n b lb (ap (is_owner b) e ∙ ne_eqb o b (λ mine. ne (sym mine ∙ same)))))
        | inr apart ↦ other_block n c lc (ap (is_owner c) e ∙ ne_eqb o c apart)
      ]

  -- lists that say nothing of a net that has an owner say nothing of a block's own nets
  pub none_given : (lists : List (List Change)) → length lists ≡ nets_of d → ((n : ℕ) → n < nets_of d → owner_of cut n ≢ None → wave_of lists n ≡ [])
      → All (λ (p : Process). (n : ℕ) → owns p.seen.part n ≡ true → wave_of lists n ≡ []) blocks
  none_given lists same none b q l n own = elim (cases_lt n (nets_of d)) [
    | inr past ↦ get_or_past lists n [] (omega (arith, same, past))
    | inl within ↦ none n within (λ free.
        true≢false (sym (subst (λ (p : Process). owns p.seen.part n ≡ true) (get_or_default blocks b q no_process l) own) ∙ other_block n b l (ap (is_owner b) free)))
  ]

  -- the nets of each block are the circuit's
  pub blocks_within : All (λ (p : Process). All (λ n. n < nets_of d) p.seen.part.nets) blocks
  blocks_within b q l =
      subst (λ (p : Process). All (λ n. n < nets_of d) p.seen.part.nets) (sym (get_or_default blocks b q no_process l))
      (subst (λ (p : Portion). All (λ n. n < nets_of d) p.nets) (sym (parts b (omega (arith, l, count))).part) (nets_within d cut b))

  -- what is told of a net is a wave
  pub told_wave : horizon ≤ most_horizon → ((n : ℕ) → AreItsChanges (changes_of g n)) → EachBlock cut blocks (λ _ v. IsLawful v) → (n : ℕ) → IsWave (told_of cut g horizon blocks n)
  told_wave short given lawful n = go (owner_of cut n) refl
    where
      go : (o : Option ℕ) → owner_of cut n ≡ o → IsWave (told_by g horizon blocks n o)
      go None e = (given_wave (changes_of g n) horizon short (given n)).0
      go (Some b) e = (log_wave (seen_at blocks b) (lawful b (owner_within n b e)) n).0

  -- the lists after all blocks
  module _ (before after : List (List Change)) (same : length after ≡ nets_of d)
      (starts : (n : ℕ) → n < nets_of d → owner_of cut n ≡ None → wave_of before n ≡ before_time (horizon + 1) (changes_of g n))
      (ends : (n : ℕ) → wave_of after n ≡ after_blocks blocks (wave_of before) n) where
    pub all_told : (n : ℕ) → n < nets_of d → wave_of after n ≡ told_of cut g horizon blocks n
    all_told n within = ends n ∙ after_told (wave_of before) starts n within

    pub all_waves : ((n : ℕ) → IsWave (told_of cut g horizon blocks n)) → (n : ℕ) → IsWave (wave_of after n)
    all_waves told n = elim (cases_lt n (nets_of d)) [
      | inl within ↦ subst IsWave (sym (all_told n within)) (told n)
      | inr past ↦ subst IsWave (sym (get_or_past after n [] (omega (arith, same, past)))) tt
    ]

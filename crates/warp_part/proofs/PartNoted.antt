-- The nets that gates of a block use, as they are noted.
use Rattle.std.proofs.Common.{◌≡◌, ℕ, ◌≤◌, ◌==◌, Bool, true, false, ◌||◌, Option, Some, None, is_some, IsTrue, List, [], ◌∷◌, ◌++◌, take, set, replicate, length, get_or, inl, inr, refl, ap, sym, subst, ◌∙◌, arith}
use Rattle.std.specs.List.Sorted.{IsStrictlyIncreasing}
use Rattle.std.proofs.lemmas.Bool.{cases_Bool, cases_lt, cases_eq, or_right, or_cases, eqb-true, eq-eqb, ne_eqb, true≢false}
use Rattle.std.proofs.lemmas.List.{get_or_past, get_or-replicate, length-replicate, get_or-set_same, get_or-set_other, take_all}
use Rattle.gate_netlist.specs.Circuit.{Design, IsCircuit, CutFits, nets_of}
use Rattle.gate_netlist.specs.Cut.{Ownership, is_owner, own_nets}
use Rattle.warp_part.specs.Portion.{slot_of, at_slot, of_net}
use Rattle.warp_part.specs.PartOf.{is_own, is_used_by, part_nets}
use Rattle.warp_part.specs.Inner.Building.{has}
use Rattle.warp_part.specs.Inner.Uses.{noted, AreNotes, AreMerged, AreApart}
use Rattle.warp_part.proofs.Slots.{slot_is}
use Rattle.warp_part.proofs.PartLists.{or_none, has_kept, past_kept, kept_is, kept_rises}
use Rattle.warp_part.proofs.PartBuilding.{slot_some, is_some-slot, own_is, is_net, used_past}
use Rattle.warp_part.proofs.PartMerged.{or_swap, has_push}

-- ---- marks

-- a net is marked at its place
pub marked : (nets : List ℕ) (marks : List Bool) (net i : ℕ) → slot_of nets net ≡ Some i → length marks ≡ length nets → (n : ℕ)
    → of_net nets (set marks i true) false n ≡ (of_net nets marks false n || (net == n))
marked nets marks net i there many n = go (slot_of nets n) refl
  where
    go : (o : Option ℕ) → slot_of nets n ≡ o → at_slot (set marks i true) false o ≡ (at_slot marks false o || (net == n))
    go None e = sym (ne_eqb net n (λ same. absurd (let f : Some i ≡ None = sym there ∙ ap (slot_of nets) same ∙ e in cc)))
    go (Some k) e =
        elim (cases_eq k i) [
          | inl at ↦
              (let here : net ≡ n = sym (slot_is nets net i there).1 ∙ ap (λ j. get_or nets j 0) (sym at) ∙ (slot_is nets n k e).1 in
              ap (λ j. get_or (set marks i true) j false) at ∙ get_or-set_same marks i true false (omega (arith, many, (slot_is nets net i there).0))
              ∙ sym (or_right (get_or marks k false) (net == n) (eq-eqb net n here)))
          | inr other ↦
              (let away : (net == n) ≡ false = ne_eqb net n (λ same. other (let f : Some k ≡ Some i = sym e ∙ ap (slot_of nets) (sym same) ∙ there in cc)) in
              get_or-set_other marks i k true false other ∙ sym (ap (λ t. get_or marks k false || t) away ∙ or_none (get_or marks k false)))
        ]

-- nothing is noted at first
pub noted_none : (own : List ℕ) (marks : List Bool) (others : List ℕ) → marks ≡ replicate (length own) false → others ≡ [] → (n : ℕ) → noted own marks others n ≡ false
noted_none own marks others e none n =
    ap (λ os. of_net own marks false n || has os n) none ∙ or_none (of_net own marks false n) ∙ ap (λ ms. of_net own ms false n) e ∙ go (slot_of own n) refl
  where
    go : (o : Option ℕ) → slot_of own n ≡ o → at_slot (replicate (length own) false) false o ≡ false
    go None e = refl
    go (Some i) e = get_or-replicate (length own) i false false (slot_is own n i e).0

-- a net that isn't there has no mark
unmarked : (nets : List ℕ) (marks : List Bool) (n : ℕ) → IsStrictlyIncreasing nets → has nets n ≡ false → of_net nets marks false n ≡ false
unmarked nets marks n up apart = go (slot_of nets n) refl
  where
    go : (o : Option ℕ) → slot_of nets n ≡ o → at_slot marks false o ≡ false
    go None e = refl
    go (Some i) e = absurd (let f : true ≡ false = sym (ap is_some e) ∙ is_some-slot nets n up ∙ apart in cc)

pub or_joined : (a b c : Bool) → ((a || b) || c) ≡ (a || (b || c))
or_joined true b c = refl
or_joined false b c = refl

-- ---- a net more

pub noted_own : (own : List ℕ) (marks new : List Bool) (others : List ℕ) (net : ℕ) → ((n : ℕ) → of_net own new false n ≡ (of_net own marks false n || (net == n)))
    → (n : ℕ) → noted own new others n ≡ (noted own marks others n || (net == n))
noted_own own marks new others net h n = ap (λ t. t || has others n) (h n) ∙ or_swap (of_net own marks false n) (net == n) (has others n)

pub noted_other : (own : List ℕ) (marks : List Bool) (others : List ℕ) (net n : ℕ) → noted own marks (others ++ net ∷ []) n ≡ (noted own marks others n || (net == n))
noted_other own marks others net n =
    ap (λ t. of_net own marks false n || t) (has_push others net n) ∙ sym (or_joined (of_net own marks false n) (has others n) (net == n))

module _ (cut : Ownership) (b : ℕ) where
  pub own_rises : IsStrictlyIncreasing (own_nets cut b)
  own_rises = kept_rises (is_own cut b) (length cut.owners)

  pub own_has : (n : ℕ) → has (own_nets cut b) n ≡ is_own cut b n
  own_has n =
      elim (cases_lt n (length cut.owners)) [
        | inl l ↦ has_kept (is_own cut b) (length cut.owners) n l
        | inr past ↦ past_kept (is_own cut b) (length cut.owners) n past ∙ sym (ap (is_owner b) (get_or_past cut.owners n None past))
      ]

  pub own_place : (n : ℕ) → is_own cut b n ≡ true → IsTrue (is_some (slot_of (own_nets cut b) n))
  own_place n own = slot_some (own_nets cut b) n own_rises (own_has n ∙ own)

  pub AreNotes-other : (own : List ℕ) (marks : List Bool) (others : List ℕ) (net : ℕ) → is_own cut b net ≡ false → AreNotes cut b own marks others → AreNotes cut b own marks (others ++ net ∷ [])
  AreNotes-other own marks others net foreign h = record {
    many = h.many;
    apart = λ n there.
        elim (or_cases (has others n) (net == n) (sym (has_push others net n) ∙ there)) [
          | inl before ↦ h.apart n before
          | inr here ↦ subst (λ m. is_own cut b m ≡ false) (eqb-true net n here) foreign
        ];
  }

  pub AreNotes-none : (own : List ℕ) (marks : List Bool) (others : List ℕ) → marks ≡ replicate (length own) false → others ≡ [] → AreNotes cut b own marks others
  AreNotes-none own marks others e none = record {
    many = ap length e ∙ length-replicate (length own) false;
    apart = λ n there. absurd (true≢false (sym there ∙ ap (λ os. has os n) none));
  }

  pub AreNotes-same : (own : List ℕ) (marks : List Bool) (others new : List ℕ) → ((n : ℕ) → has new n ≡ has others n) → AreNotes cut b own marks others → AreNotes cut b own marks new
  AreNotes-same own marks others new same h = record {
    many = h.many;
    apart = λ n there. h.apart n (sym (same n) ∙ there);
  }

  pub AreApart-notes : (marks : List Bool) (others : List ℕ) → IsStrictlyIncreasing others → AreNotes cut b (own_nets cut b) marks others → AreApart (own_nets cut b) marks others
  AreApart-notes marks others up h = record {
    own_rises = own_rises;
    others_rise = up;
    many = h.many;
    apart = λ n there. own_has n ∙ h.apart n there;
  }

  -- the merged nets are those of the part
  module _ (d : Design) (law : IsCircuit d) (fits : CutFits d cut) (marks : List Bool) (others : List ℕ) (used : (n : ℕ) → noted (own_nets cut b) marks others n ≡ is_used_by d cut b n) where
    in_part : (n : ℕ) → (has (own_nets cut b) n || has others n) ≡ is_net d cut b n
    in_part n =
        elim (cases_Bool (has (own_nets cut b) n)) [
          | inl mine ↦ ap (λ o. o || has others n) mine ∙ sym (ap (λ o. o || is_used_by d cut b n) (sym (own_has n) ∙ mine))
          | inr other ↦
              ap (λ o. o || has others n) other
              ∙ sym (ap (λ t. t || has others n) (unmarked (own_nets cut b) marks n own_rises other))
              ∙ used n
              ∙ sym (ap (λ o. o || is_used_by d cut b n) (sym (own_has n) ∙ other))
        ]

    past_part : (n : ℕ) → nets_of d ≤ n → is_net d cut b n ≡ false
    past_part n l =
        let foreign : is_own cut b n ≡ false = sym (own_has n) ∙ ap (λ ns. has ns n) (own_is d cut b fits) ∙ past_kept (is_own cut b) (nets_of d) n l in
        ap (λ o. o || is_used_by d cut b n) foreign ∙ used_past d cut b n law l

    pub nets_merged : (nets : List ℕ) (flags : List Bool) → AreMerged (own_nets cut b) marks others (length (own_nets cut b)) (length others) nets flags → nets ≡ part_nets d cut b
    nets_merged nets flags m = kept_is (is_net d cut b) (nets_of d) nets m.joined.rising (λ n l. same n) (λ n l. same n ∙ past_part n l)
      where
        same : (n : ℕ) → has nets n ≡ is_net d cut b n
        same n =
            m.joined.same n
            ∙ ap (λ xs. has xs n || has (take (length others) others) n) (take_all (length (own_nets cut b)) (own_nets cut b) (omega arith))
            ∙ ap (λ xs. has (own_nets cut b) n || has xs n) (take_all (length others) others (omega arith))
            ∙ in_part n

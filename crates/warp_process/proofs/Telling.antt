-- What rows tell of a place, from one time to the next.
use Rattle.std.proofs.Common.{◌≡◌, ◌≢◌, ℕ, suc, ◌+◌, ◌<◌, ◌≤◌, ◌++◌, Option, Some, None, List, [], ◌∷◌, length, get_or, refl, ap, sym, ◌∙◌, subst, arith, inl, inr, cond, ◌==◌, take, set, Vec}
use Rattle.std.specs.declared.alloc.Global.{Global}
use Rattle.std.proofs.lemmas.List.{length-map, map-set, get_or-set_same, get_or-set_other}
use Rattle.std.specs.List.{All, AllPairs}
use Rattle.std.proofs.lemmas.Bool.{cases_lt, cases_eq, eq-eqb, ne_eqb}
use Rattle.std.proofs.lemmas.List.Elements.{All-push}
use Rattle.std.proofs.lemmas.List.Quantifiers.{all_pairs_push}
use Rattle.gate_values.specs.declared.logic.Logic.{Logic}
use Rattle.gate_values.specs.declared.logic.Change.{Change}
use Rattle.gate_values.specs.Changes.{pair_at}
use Rattle.warp_process.specs.declared.entry.Entry.{Entry}
use Rattle.warp_process.specs.declared.by_time.Rows.{Rows}
use Rattle.warp_process.specs.Entries.{effective_of}
use Rattle.warp_process.specs.Rows.{Standing, IsRow, entry_on}
use Rattle.warp_process.specs.Shown.Rows.{lists_in}
use Rattle.warp_process.specs.Inner.Rows.{entry_at}
use Rattle.warp_process.specs.Inner.Told.{AreTold, with_message}
use Rattle.warp_process.proofs.RowEdits.{front_none, taken_more}

-- some changes, all before a time, are what a place takes at each time before it
pub record AreToldUntil (rows : Rows) (i from : ℕ) (cs : List Change) : Type 0 where
  pub rising : AllPairs (λ (a b : Change). a.time < b.time) cs
  pub before : All (λ (c : Change). c.time < from) cs
  pub told : (t : ℕ) → t < from → effective_of (entry_at rows t i) ≡ pair_at cs t

pair_at-other : (c : Change) (cs : List Change) (t : ℕ) → c.time ≢ t → pair_at (c ∷ cs) t ≡ pair_at cs t
pair_at-other c cs t ne = rw (ne_eqb c.time t ne) refl

pair_at-none : (cs : List Change) (from t : ℕ) → All (λ (c : Change). c.time < from) cs → from ≤ t → pair_at cs t ≡ None
pair_at-none [] from t before le = refl
pair_at-none (c ∷ cs) from t before le =
    let early : c.time < from = before 0 c (omega arith) in
    pair_at-other c cs t (omega arith) ∙ pair_at-none cs from t (λ k d l. before (suc k) d (omega arith)) le

pair_at-pushed : (cs : List Change) (s t : ℕ) (v : Logic) → t ≢ s → pair_at (cs ++ record { time = s; value = v } ∷ []) t ≡ pair_at cs t
pair_at-pushed [] s t v ne = pair_at-other (record { time = s; value = v }) [] t (λ e. ne (sym e))
pair_at-pushed (c ∷ cs) s t v ne = ap (cond (c.time == t) (Some c.value)) (pair_at-pushed cs s t v ne)

pair_at-last : (cs : List Change) (s : ℕ) (v : Logic) → All (λ (c : Change). c.time < s) cs → pair_at (cs ++ record { time = s; value = v } ∷ []) s ≡ Some v
pair_at-last [] s v before = rw (eq-eqb s s refl) refl
pair_at-last (c ∷ cs) s v before =
    let early : c.time < s = before 0 c (omega arith) in
    let other : c.time ≢ s = omega arith in
    ap (λ b. cond b (Some c.value) (pair_at (cs ++ record { time = s; value = v } ∷ []) s)) (ne_eqb c.time s other) ∙ pair_at-last cs s v (λ k d l. before (suc k) d (omega arith))

-- one time more
module _ (rows : Rows) (i from time : ℕ) (quiet : (t : ℕ) → from ≤ t → t < time → effective_of (entry_at rows t i) ≡ None) (past : from ≤ time) (cs : List Change) (until : AreToldUntil rows i from cs) where
  told_before : (t : ℕ) → t < time → effective_of (entry_at rows t i) ≡ pair_at cs t
  told_before t l = elim (cases_lt t from) [
    | inl early ↦ until.told t early
    | inr late ↦ quiet t late l ∙ sym (pair_at-none cs from t until.before late)
  ]

  before_time : All (λ (c : Change). c.time < time) cs
  before_time k d l = (let early = until.before k d l in omega (arith, early, past))

  pub told_more : (o : Option Logic) → effective_of (entry_at rows time i) ≡ o → AreToldUntil rows i (time + 1) (with_message time o cs)
  told_more None e = record {
    rising = until.rising;
    before = λ k d l. (let early = until.before k d l in omega (arith, early, past));
    told = λ t l. elim (cases_eq t time) [
      | inl here ↦ subst (λ u. effective_of (entry_at rows u i) ≡ pair_at cs u) (sym here) (e ∙ sym (pair_at-none cs from time until.before past))
      | inr other ↦ told_before t (let ne : t ≢ time = other in omega (arith, l, ne))
    ];
  }
  told_more (Some v) e = record {
    rising = all_pairs_push (λ (a b : Change). a.time < b.time) cs (record { time = time; value = v }) until.rising before_time;
    before = All-push (λ (c : Change). c.time < time + 1) cs (record { time = time; value = v }) (λ k d l. (let early = until.before k d l in omega (arith, early, past))) (omega arith);
    told = λ t l. elim (cases_eq t time) [
      | inl here ↦ subst (λ u. effective_of (entry_at rows u i) ≡ pair_at (cs ++ record { time = time; value = v } ∷ []) u) (sym here) (e ∙ sym (pair_at-last cs time v before_time))
      | inr other ↦ told_before t (let ne : t ≢ time = other in omega (arith, l, ne)) ∙ sym (pair_at-pushed cs time t v other)
    ];
  }

pub none_told : (rows : Rows) (i : ℕ) (cs : List Change) → cs ≡ [] → AreToldUntil rows i 0 cs
none_told rows i cs none = subst (AreToldUntil rows i 0) (sym none) (record { rising = λ a b d h l. absurd (omega arith); before = λ k d l. absurd (omega arith); told = λ t l. absurd (omega arith) })

-- all is told, where nothing stands from there on
pub all_told : (rows : Rows) (i from : ℕ) (cs : List Change) → AreToldUntil rows i from cs → ((t : ℕ) → from ≤ t → effective_of (entry_at rows t i) ≡ None) → AreTold rows i cs
all_told rows i from cs until rest = (
  until.rising,
  λ t. elim (cases_lt t from) [
    | inl early ↦ until.told t early
    | inr late ↦ rest t late ∙ sym (pair_at-none cs from t until.before late)
  ],
)

-- ---- one entry of a row more
module _ (row : List Standing) (is : IsRow row) (k : ℕ) (s : Standing) (l : k < length row) (at : s ≡ get_or row k s) (time i : ℕ) (old new base : List Change)
    (before : old ≡ with_message time (effective_of (entry_on (take k row) i)) base) where
  at_place : i ≡ s.place → entry_on (take (k + 1) row) i ≡ s.entry
  at_place same = taken_more row is k s l at i ∙ ap (λ b. cond b s.entry (entry_on (take k row) i)) (eq-eqb i s.place same)

  at_other : i ≢ s.place → entry_on (take (k + 1) row) i ≡ entry_on (take k row) i
  at_other ne = taken_more row is k s l at i ∙ ap (λ b. cond b s.entry (entry_on (take k row) i)) (ne_eqb i s.place ne)

  old_is : i ≡ s.place → old ≡ base
  old_is same = before ∙ ap (λ (e : Entry). with_message time (effective_of e) base) (ap (entry_on (take k row)) same ∙ front_none row is k s l at)

  pub told_some : (v : Logic) → effective_of s.entry ≡ Some v → (i ≡ s.place → new ≡ old ++ record { time = time; value = v } ∷ []) → (i ≢ s.place → new ≡ old) → new ≡ with_message time (effective_of (entry_on (take (k + 1) row) i)) base
  told_some v some pushed kept = elim (cases_eq i s.place) [
    | inl same ↦ pushed same ∙ (ap (λ (cs : List Change). cs ++ record { time = time; value = v } ∷ []) (old_is same) ∙ ap (λ (o : Option Logic). with_message time o base) (sym (ap effective_of (at_place same) ∙ some)))
    | inr other ↦ kept other ∙ (before ∙ ap (λ (e : Entry). with_message time (effective_of e) base) (sym (at_other other)))
  ]

  pub told_silent : effective_of s.entry ≡ None → new ≡ old → new ≡ with_message time (effective_of (entry_on (take (k + 1) row) i)) base
  told_silent none kept = elim (cases_eq i s.place) [
    | inl same ↦ kept ∙ (old_is same ∙ ap (λ (o : Option Logic). with_message time o base) (sym (ap effective_of (at_place same) ∙ none)))
    | inr other ↦ kept ∙ (before ∙ ap (λ (e : Entry). with_message time (effective_of e) base) (sym (at_other other)))
  ]

-- a list put at a place
pub list_set : (vs : List (Vec Change Global)) (p i : ℕ) (x : Vec Change Global) → p < length vs → (i ≡ p → get_or (lists_in (set vs p x)) i [] ≡ x.items) × (i ≢ p → get_or (lists_in (set vs p x)) i [] ≡ get_or (lists_in vs) i [])
list_set vs p i x l =
    let size : length (lists_in vs) ≡ length vs = length-map vs (λ (v : Vec Change Global). v.items) in
    let sets : lists_in (set vs p x) ≡ set (lists_in vs) p x.items = map-set (λ (v : Vec Change Global). v.items) vs p x in (
      λ same. ap (λ (ls : List (List Change)). get_or ls i []) sets ∙ (ap (λ j. get_or (set (lists_in vs) p x.items) j []) same ∙ get_or-set_same (lists_in vs) p x.items [] (omega (arith, size, l))),
      λ other. ap (λ (ls : List (List Change)). get_or ls i []) sets ∙ get_or-set_other (lists_in vs) p i x.items [] other,
    )

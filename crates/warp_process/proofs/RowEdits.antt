-- What a row holds once an entry was put into it.
use Rattle.std.proofs.Common.{◌≡◌, ◌≢◌, ℕ, suc, ◌+◌, ◌<◌, ◌≤◌, cond, List, [], ◌∷◌, ◌++◌, length, get_or, set, take, drop, refl, ap, sym, ◌∙◌, subst, arith, eqb, inl, inr}
use Rattle.std.specs.List.{HoldsAt, insert, remove}
use Rattle.std.specs.List.Sorted.{IsPartitionPoint}
use Rattle.std.proofs.Math.Seq.{drop-cons}
use Rattle.std.proofs.lemmas.Bool.{cases_lt, cases_eq, eq-eqb, ne_eqb}
use Rattle.std.proofs.lemmas.List.{take_more, append-nil, get_or_default, set_split, get_or-take, get_or-drop, length-drop, length-take, take-append-drop, length-set, get_or-set_same, get_or-set_other}
use Rattle.std.proofs.lemmas.List.Elements.{All-append, All-cons, All-take, All-drop, All-set}
use Rattle.std.proofs.lemmas.List.Quantifiers.{all_pairs_remove}
use Rattle.warp_process.specs.declared.entry.Entry.{Entry}
use Rattle.warp_process.specs.Entries.{no_messages}
use Rattle.warp_process.specs.Rows.{Standing, entry_on, IsRow}
use Rattle.warp_process.proofs.Rising.{Rises, rising-insert}
use Rattle.warp_process.proofs.RowOrder.{place_of, Lacks, nothing, entry_on-none}

-- the entry alone has changed
abbrev pub IsEdited : List Standing → List Standing → ℕ → Entry → Type 0
IsEdited old new t entry = (u : ℕ) → entry_on new u ≡ cond (eqb u t) entry (entry_on old u)

choose : (u t : ℕ) (a b c : Entry) → (u ≡ t → a ≡ b) → (u ≢ t → a ≡ c) → a ≡ cond (eqb u t) b c
choose u t a b c same other = elim (cases_eq u t) [
  | inl e ↦ rw (eq-eqb u t e) (same e)
  | inr ne ↦ rw (ne_eqb u t ne) (other ne)
]

pub entry_on-here : (xs ys : List Standing) (e : Standing) (t : ℕ) → Lacks xs t → e.place ≡ t → entry_on (xs ++ e ∷ ys) t ≡ e.entry
entry_on-here [] ys e t lacks same = rw (eq-eqb e.place t same) refl
entry_on-here (x ∷ xs) ys e t lacks same = rw (ne_eqb x.place t (lacks 0 x (omega arith))) (entry_on-here xs ys e t (λ k d l. lacks (suc k) d (omega arith)) same)

pub entry_on-other : (xs ys : List Standing) (e : Standing) (t : ℕ) → e.place ≢ t → entry_on (xs ++ e ∷ ys) t ≡ entry_on (xs ++ ys) t
entry_on-other [] ys e t other = rw (ne_eqb e.place t other) refl
entry_on-other (x ∷ xs) ys e t other = ap (cond (eqb x.place t) x.entry) (entry_on-other xs ys e t other)

-- ---- a place that has the place
parts : (es : List Standing) (i : ℕ) → i < length es → es ≡ take i es ++ get_or es i nothing ∷ drop (suc i) es
parts es i l = sym (take-append-drop i es) ∙ ap (λ (ys : List Standing). take i es ++ ys) (drop-cons es i nothing l)

pub lacks-front : (es : List Standing) (i t : ℕ) → Rises place_of es → i < length es → (get_or es i nothing).place ≡ t → Lacks (take i es) t
lacks-front es i t r l at k d lk same =
    let lt : k < i = omega (arith, length-take i es) in
    let order : (get_or es k nothing).place < (get_or es i nothing).place = r k i nothing lt l in
    let read : (get_or (take i es) k nothing).place ≡ (get_or es k nothing).place = ap place_of (get_or-take i es k nothing lt) in
    let here : (get_or (take i es) k d).place ≡ (get_or (take i es) k nothing).place = ap place_of (get_or_default (take i es) k d nothing lk) in
    absurd (omega arith)

lacks-rest : (es : List Standing) (i t : ℕ) → Rises place_of es → (get_or es i nothing).place ≡ t → Lacks (drop (suc i) es) t
lacks-rest es i t r at k d lk same =
    let inside : suc i + k < length es = omega (arith, length-drop (suc i) es) in
    let order : (get_or es i nothing).place < (get_or es (suc i + k) nothing).place = r i (suc i + k) nothing (omega arith) inside in
    let read : (get_or (drop (suc i) es) k nothing).place ≡ (get_or es (suc i + k) nothing).place = ap place_of (get_or-drop (suc i) es k nothing) in
    let here : (get_or (drop (suc i) es) k d).place ≡ (get_or (drop (suc i) es) k nothing).place = ap place_of (get_or_default (drop (suc i) es) k d nothing lk) in
    absurd (omega arith)

pub removed-entries : (es : List Standing) (i t : ℕ) (entry : Entry) → IsRow es → i < length es → HoldsAt (λ e. e.place ≡ t) es i → entry ≡ no_messages → IsEdited es (remove es i) t entry
removed-entries es i t entry row l at empty u =
    choose u t (entry_on (remove es i) u) entry (entry_on es u)
    (λ same. entry_on-none (remove es i) u (subst (Lacks (remove es i)) (sym same) (All-append (λ (e : Standing). e.place ≢ t) (take i es) (drop (suc i) es) (lacks-front es i t row.in_order l (at nothing)) (lacks-rest es i t row.in_order (at nothing)))) ∙ sym empty)
    (λ other. sym (entry_on-other (take i es) (drop (suc i) es) (get_or es i nothing) u (λ e. other (sym e ∙ at nothing))) ∙ ap (λ (xs : List Standing). entry_on xs u) (sym (parts es i l)))

pub replaced-entries : (es : List Standing) (i t : ℕ) (x : Standing) → IsRow es → i < length es → HoldsAt (λ e. e.place ≡ t) es i → x.place ≡ t → IsEdited es (set es i x) t x.entry
replaced-entries es i t x row l at same_time u =
    ap (λ (xs : List Standing). entry_on xs u) (set_split es i x l)
    ∙ choose u t (entry_on (take i es ++ x ∷ drop (suc i) es) u) x.entry (entry_on es u)
    (λ same. entry_on-here (take i es) (drop (suc i) es) x u (subst (Lacks (take i es)) (sym same) (lacks-front es i t row.in_order l (at nothing))) (same_time ∙ sym same))
    (λ other. entry_on-other (take i es) (drop (suc i) es) x u (λ e. other (sym e ∙ same_time))
    ∙ (sym (entry_on-other (take i es) (drop (suc i) es) (get_or es i nothing) u (λ e. other (sym e ∙ at nothing))) ∙ ap (λ (xs : List Standing). entry_on xs u) (sym (parts es i l))))

-- ---- no place has the place
pub split-lacking : (es : List Standing) (t i : ℕ) → IsPartitionPoint (λ e. e.place < t) (λ e. t ≤ e.place) es i → Lacks es t → IsPartitionPoint (λ e. e.place < t) (λ e. t < e.place) es i
split-lacking es t i split lacks = (split.0, λ k d a b. (let le = split.1 k d a b in let ne : (get_or es k d).place ≢ t = lacks k d b in omega arith))

pub lacks-between : (es : List Standing) (t i : ℕ) → IsPartitionPoint (λ e. e.place < t) (λ e. t < e.place) es i → Lacks es t
lacks-between es t i split k d l same = elim (cases_lt k i) [
  | inl lt ↦ (let b : (get_or es k d).place < t = split.0 k d (omega arith) lt in absurd (omega arith))
  | inr ge ↦ (let a : t < (get_or es k d).place = split.1 k d ge l in absurd (omega arith))
]

pub inserted-row : (es : List Standing) (i : ℕ) (x : Standing) → IsRow es → i ≤ length es → IsPartitionPoint (λ e. e.place < x.place) (λ e. x.place < e.place) es i → x.entry ≢ no_messages → IsRow (insert es i x)
inserted-row es i x row within split stands = record {
  in_order = rising-insert place_of es i x row.in_order within (λ k d lt. split.0 k d (omega arith) lt) split.1;
  kept = All-append (λ (e : Standing). e.entry ≢ no_messages) (take i es) (x ∷ drop i es) (All-take (λ (e : Standing). e.entry ≢ no_messages) i es row.kept)
      (All-cons (λ (e : Standing). e.entry ≢ no_messages) x (drop i es) stands (All-drop (λ (e : Standing). e.entry ≢ no_messages) i es row.kept));
}

pub removed-row : (es : List Standing) (i : ℕ) → IsRow es → i < length es → IsRow (remove es i)
removed-row es i row l = record {
  in_order = all_pairs_remove (λ (a b : Standing). a.place < b.place) es i l row.in_order;
  kept = All-append (λ (e : Standing). e.entry ≢ no_messages) (take i es) (drop (suc i) es) (All-take (λ (e : Standing). e.entry ≢ no_messages) i es row.kept)
      (All-drop (λ (e : Standing). e.entry ≢ no_messages) (suc i) es row.kept);
}

pub replaced-row : (es : List Standing) (i t : ℕ) (x : Standing) → IsRow es → i < length es → HoldsAt (λ e. e.place ≡ t) es i → x.place ≡ t → x.entry ≢ no_messages → IsRow (set es i x)
replaced-row es i t x row l at same stands = record {
  in_order = λ a b d before within.
      let place_at : (k : ℕ) → (get_or (set es i x) k d).place ≡ (get_or es k d).place = λ k. elim (cases_eq k i) [
        | inl e ↦ ap (λ (s : Standing). s.place) (ap (λ n. get_or (set es i x) n d) e ∙ get_or-set_same es i x d l) ∙ (same ∙ (sym (at d) ∙ ap (λ n. (get_or es n d).place) (sym e)))
        | inr ne ↦ ap (λ (s : Standing). s.place) (get_or-set_other es i k x d ne)
      ] in
      omega (arith, place_at a, place_at b, row.in_order a b d before (omega (arith, within, length-set es i x)));
  kept = All-set (λ (e : Standing). e.entry ≢ no_messages) es i x stands row.kept;
}

pub inserted-entries : (es : List Standing) (i : ℕ) (x : Standing) → Lacks es x.place → IsEdited es (insert es i x) x.place x.entry
inserted-entries es i x lacks u =
    choose u x.place (entry_on (insert es i x) u) x.entry (entry_on es u)
    (λ same. entry_on-here (take i es) (drop i es) x u (subst (Lacks (take i es)) (sym same) (All-take (λ (e : Standing). e.place ≢ x.place) i es lacks)) (sym same))
    (λ other. entry_on-other (take i es) (drop i es) x u (λ e. other (sym e)) ∙ ap (λ (xs : List Standing). entry_on xs u) (take-append-drop i es))

pub absent-entries : (es : List Standing) (t : ℕ) (entry : Entry) → Lacks es t → entry ≡ no_messages → IsEdited es es t entry
absent-entries es t entry lacks empty u =
    choose u t (entry_on es u) entry (entry_on es u)
    (λ same. entry_on-none es u (subst (Lacks es) (sym same) lacks) ∙ sym empty)
    (λ other. refl)

-- one entry more, of the first ones
module _ (ss : List Standing) (is : IsRow ss) (k : ℕ) (s : Standing) (l : k < length ss) (at : s ≡ get_or ss k s) where
  here : get_or ss k nothing ≡ s
  here = get_or_default ss k nothing s l ∙ sym at

  front : Lacks (take k ss) s.place
  front = lacks-front ss k s.place is.in_order l (ap (λ (x : Standing). x.place) here)

  pub front_none : entry_on (take k ss) s.place ≡ no_messages
  front_none = entry_on-none (take k ss) s.place front

  pub taken_more : (i : ℕ) → entry_on (take (k + 1) ss) i ≡ cond (eqb i s.place) s.entry (entry_on (take k ss) i)
  taken_more i =
      ap (λ (xs : List Standing). entry_on xs i) (take_more ss k s l ∙ ap (λ (x : Standing). take k ss ++ x ∷ []) (sym at))
      ∙ choose i s.place (entry_on (take k ss ++ s ∷ []) i) s.entry (entry_on (take k ss) i)
      (λ same. entry_on-here (take k ss) [] s i (subst (Lacks (take k ss)) (sym same) front) (sym same))
      (λ other. entry_on-other (take k ss) [] s i (λ e. other (sym e)) ∙ ap (λ (xs : List Standing). entry_on xs i) (append-nil (take k ss)))

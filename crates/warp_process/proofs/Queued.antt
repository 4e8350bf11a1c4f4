-- What rows, in the order of their times, have of a place: a queue.
use Rattle.std.proofs.Common.{◌≡◌, ◌≢◌, ℕ, ◌<◌, ◌≤◌, Bool, true, false, cond, Some, None, List, [], ◌∷◌, get_or, refl, ap, sym, ◌∙◌, subst, arith, inl, inr, nat_cmp, Less, All, suc}
use Rattle.std.specs.Prelude.{⊤}
use Rattle.std.specs.List.{AllByRecursion}
use Rattle.std.specs.List.Sorted.{IsStrictlySortedBy}
use Rattle.std.specs.Map.{keys_of, lookup}
use Rattle.std.specs.BTreeMap.{is_at}
use Rattle.std.proofs.lemmas.Bool.{cases_eq, cases_lt, eq-eqb, ne_eqb, true≢false}
use Rattle.std.proofs.lemmas.Bool.Decides.{nat_tests}
use Rattle.std.proofs.lemmas.List.Elements.{All-cons}
use Rattle.std.proofs.lemmas.List.Kept.{AllPairs-cons}
use Rattle.smallvec.specs.SmallVec.{SmallVec}
use Rattle.warp_process.specs.declared.entry.Entry.{Entry}
use Rattle.warp_process.specs.Entries.{Received, IsQueue, entry_in, no_messages, same_entry}
use Rattle.warp_process.specs.Rows.{Standing, entry_on}
use Rattle.warp_process.specs.Shown.Rows.{with_entry, queue_in}
use Rattle.warp_process.specs.Inner.Rows.{row_in}
use Rattle.warp_process.proofs.ByTime.{same_time}
use Rattle.warp_process.proofs.QueueOrder.{time_of, Lacks, entry_in-none}
use Rattle.warp_process.proofs.Rising.{Rises, rising-tail}
use Rattle.warp_process.proofs.Settled.{same_entry_is, same_entry_from}

-- some rows, each with its time
abbrev pub Timed : Type 0
Timed = ℕ × SmallVec Standing

-- all rows are of later times
abbrev pub Late : ℕ → List Timed → Type 0
Late t [] = ⊤
Late t (p ∷ ps) = (t < p.0) × Late t ps

less_than : (a b : ℕ) → nat_cmp a b ≡ Less → a < b
less_than a b = grind (arith, nat_tests)

pub late_keys : (t : ℕ) (ps : List Timed) → AllByRecursion (λ y. nat_cmp t y ≡ Less) (keys_of ps) → Late t ps
late_keys t [] h = tt
late_keys t (p ∷ ps) h = (less_than t p.0 h.0, late_keys t ps h.1)

pub late_lookup : (t u : ℕ) (ps : List Timed) → Late t ps → u ≤ t → lookup (is_at (nat_cmp u)) ps ≡ None
late_lookup t u [] late le = refl
late_lookup t u (p ∷ ps) late le =
    let after : t < p.0 = late.0 in
    let other : p.0 ≢ u = omega arith in
    ap (λ b. cond b (Some p.1) (lookup (is_at (nat_cmp u)) ps)) (same_time u p.0 ∙ ne_eqb p.0 u other) ∙ late_lookup t u ps late.1 le

-- ---- later rows give later entries
with_late : (t s : ℕ) (e : Entry) (es : List Received) → t < s → All (λ (x : Received). t < x.time) es → All (λ (x : Received). t < x.time) (with_entry s e es)
with_late t s e es l late = go (same_entry e no_messages)
  where
    go : (b : Bool) → All (λ (x : Received). t < x.time) (cond b es (record { time = s; entry = e } ∷ es))
    go true = late
    go false = All-cons (λ (x : Received). t < x.time) (record { time = s; entry = e }) es l late

late_queue : (t : ℕ) (ps : List Timed) (i : ℕ) → Late t ps → All (λ (x : Received). t < x.time) (queue_in ps i)
late_queue t [] i late = λ k d l. absurd (omega arith)
late_queue t (p ∷ ps) i late = with_late t p.0 (entry_on p.1.items i) (queue_in ps i) late.0 (late_queue t ps i late.1)

late_lacks : (t : ℕ) (es : List Received) → All (λ (x : Received). t < x.time) es → Lacks es t
late_lacks t es late k d l = (let after : t < (get_or es k d).time = late k d l in omega arith)

-- ---- a queue
with_rises : (s : ℕ) (e : Entry) (es : List Received) → All (λ (x : Received). s < x.time) es → Rises time_of es → Rises time_of (with_entry s e es)
with_rises s e es late r = go (same_entry e no_messages)
  where
    go : (b : Bool) → Rises time_of (cond b es (record { time = s; entry = e } ∷ es))
    go true = r
    go false = AllPairs-cons (λ (a b : Received). a.time < b.time) (record { time = s; entry = e }) es late r

with_kept : (s : ℕ) (e : Entry) (es : List Received) → All (λ (x : Received). x.entry ≢ no_messages) es → All (λ (x : Received). x.entry ≢ no_messages) (with_entry s e es)
with_kept s e es kept = go (same_entry e no_messages) refl
  where
    go : (b : Bool) → same_entry e no_messages ≡ b → All (λ (x : Received). x.entry ≢ no_messages) (cond b es (record { time = s; entry = e } ∷ es))
    go true is = kept
    go false is = All-cons (λ (x : Received). x.entry ≢ no_messages) (record { time = s; entry = e }) es (λ none. true≢false (sym (same_entry_from e no_messages none) ∙ is)) kept

pub queued : (ps : List Timed) (i : ℕ) → IsStrictlySortedBy nat_cmp (keys_of ps) → IsQueue (queue_in ps i)
unfolding IsStrictlySortedBy
queued [] i sorted = record { in_order = λ a b d h l. absurd (omega arith); kept = λ k d l. absurd (omega arith) }
queued (p ∷ ps) i sorted =
    let rest = queued ps i sorted.1 in
    record {
      in_order = with_rises p.0 (entry_on p.1.items i) (queue_in ps i) (late_queue p.0 ps i (late_keys p.0 ps sorted.0)) rest.in_order;
      kept = with_kept p.0 (entry_on p.1.items i) (queue_in ps i) rest.kept;
    }

-- ---- its entries
with_here : (t : ℕ) (e : Entry) (es : List Received) → Lacks es t → entry_in (with_entry t e es) t ≡ e
with_here t e es lacks = go (same_entry e no_messages) refl
  where
    go : (b : Bool) → same_entry e no_messages ≡ b → entry_in (cond b es (record { time = t; entry = e } ∷ es)) t ≡ e
    go true is = entry_in-none es t lacks ∙ sym (same_entry_is e no_messages is)
    go false is = rw (eq-eqb t t refl) refl

with_other : (s t : ℕ) (e : Entry) (es : List Received) → s ≢ t → entry_in (with_entry s e es) t ≡ entry_in es t
with_other s t e es ne = go (same_entry e no_messages)
  where
    go : (b : Bool) → entry_in (cond b es (record { time = s; entry = e } ∷ es)) t ≡ entry_in es t
    go true = refl
    go false = rw (ne_eqb s t ne) refl

pub queued_entry : (ps : List Timed) (i t : ℕ) → IsStrictlySortedBy nat_cmp (keys_of ps) → entry_in (queue_in ps i) t ≡ entry_on (row_in (lookup (is_at (nat_cmp t)) ps)) i
unfolding IsStrictlySortedBy
queued_entry [] i t sorted = refl
queued_entry (p ∷ ps) i t sorted = elim (cases_eq p.0 t) [
  | inl same ↦ subst (λ u. entry_in (queue_in (p ∷ ps) i) u ≡ entry_on (row_in (lookup (is_at (nat_cmp u)) (p ∷ ps))) i) same
      (with_here p.0 (entry_on p.1.items i) (queue_in ps i) (late_lacks p.0 (queue_in ps i) (late_queue p.0 ps i (late_keys p.0 ps sorted.0)))
      ∙ ap (λ b. entry_on (row_in (cond b (Some p.1) (lookup (is_at (nat_cmp p.0)) ps))) i) (sym (same_time p.0 p.0 ∙ eq-eqb p.0 p.0 refl)))
  | inr other ↦ with_other p.0 t (entry_on p.1.items i) (queue_in ps i) other
      ∙ (queued_entry ps i t sorted.1 ∙ ap (λ b. entry_on (row_in (cond b (Some p.1) (lookup (is_at (nat_cmp t)) ps))) i) (sym (same_time t p.0 ∙ ne_eqb p.0 t other)))
]

-- ---- queues that have the same entries are the same
head_entry : (e : Received) (es : List Received) → entry_in (e ∷ es) e.time ≡ e.entry
head_entry e es = rw (eq-eqb e.time e.time refl) refl

tail_late : (e : Received) (es : List Received) → IsQueue (e ∷ es) → All (λ (x : Received). e.time < x.time) es
tail_late e es is k d l = is.in_order 0 (suc k) d (omega arith) (omega arith)

tail_queue : (e : Received) (es : List Received) → IsQueue (e ∷ es) → IsQueue es
tail_queue e es is = record {
  in_order = rising-tail time_of e es is.in_order;
  kept = λ k d l. is.kept (suc k) d (omega arith);
}

late_none : (t u : ℕ) (es : List Received) → All (λ (x : Received). t < x.time) es → u ≤ t → entry_in es u ≡ no_messages
late_none t u es late le = entry_in-none es u (λ k d l. (let after : t < (get_or es k d).time = late k d l in omega arith))

-- no queue begins before one that has the same entries
not_before : (e f : Received) (es fs : List Received) → IsQueue (e ∷ es) → IsQueue (f ∷ fs) → ((t : ℕ) → entry_in (e ∷ es) t ≡ entry_in (f ∷ fs) t) → e.time < f.time → ⊥
not_before e f es fs is are same early =
    let other : f.time ≢ e.time = omega arith in
    is.kept 0 e (omega arith)
    (sym (head_entry e es) ∙ (same e.time ∙ (ap (λ b. cond b f.entry (entry_in fs e.time)) (ne_eqb f.time e.time other) ∙ late_none f.time e.time fs (tail_late f fs are) (omega arith))))

received_same : (e f : Received) → e.time ≡ f.time → e.entry ≡ f.entry → e ≡ f
received_same e f s n = ap (λ (t : ℕ). record { time = t; entry = e.entry }) s ∙ ap (λ (x : Entry). record { time = f.time; entry = x }) n

pub same_queues : (es fs : List Received) → IsQueue es → IsQueue fs → ((t : ℕ) → entry_in es t ≡ entry_in fs t) → es ≡ fs
same_queues [] [] is are same = refl
same_queues [] (f ∷ fs) is are same = absurd (are.kept 0 f (omega arith) (sym (head_entry f fs) ∙ sym (same f.time)))
same_queues (e ∷ es) [] is are same = absurd (is.kept 0 e (omega arith) (sym (head_entry e es) ∙ same e.time))
same_queues (e ∷ es) (f ∷ fs) is are same = elim (cases_lt e.time f.time) [
  | inl early ↦ absurd (not_before e f es fs is are same early)
  | inr from ↦ (elim (cases_lt f.time e.time) [
    | inl late ↦ absurd (not_before f e fs es are is (λ t. sym (same t)) late)
    | inr until ↦
        (let times : e.time ≡ f.time = omega arith in
        let entries : e.entry ≡ f.entry = sym (head_entry e es) ∙ (same e.time ∙ (ap (entry_in (f ∷ fs)) times ∙ head_entry f fs)) in
        let rest : es ≡ fs = same_queues es fs (tail_queue e es is) (tail_queue f fs are) (λ t. elim (cases_lt e.time t) [
          | inl after ↦ (let one : e.time ≢ t = omega arith in
              let two : f.time ≢ t = omega arith in
              ap (λ b. cond b e.entry (entry_in es t)) (sym (ne_eqb e.time t one)) ∙ (same t ∙ ap (λ b. cond b f.entry (entry_in fs t)) (ne_eqb f.time t two)))
          | inr before ↦ late_none e.time t es (tail_late e es is) before ∙ sym (late_none f.time t fs (tail_late f fs are) (omega arith))
        ]) in
        ap (λ (x : Received). x ∷ es) (received_same e f times entries) ∙ ap (λ (xs : List Received). f ∷ xs) rest)
  ])
]

-- Settled entries: no message, or one.
use Rattle.std.proofs.Common.{◌≡◌, ◌⊎◌, ◌&&◌, ◌||◌, Bool, true, false, Some, None, inl, inr, refl, ap, ◌∙◌, subst}
use Rattle.std.specs.Ordering.{int_eq}
use Rattle.std.proofs.lemmas.Bool.{and_parts, and_from}
use Rattle.std.proofs.lemmas.Bool.Decides.{Decides-int_eq}
use Rattle.gate_values.specs.declared.logic.Logic.{Logic}
use Rattle.gate_values.specs.declared.logic.Logic.TheVariants.{Zero, One, X, Z}
use Rattle.warp_process.specs.declared.entry.Entry.{Entry}
use Rattle.warp_process.specs.Entries.{effective_of, no_messages, one_message, same_entry, is_settled}

pub same_entry_is : (a b : Entry) → same_entry a b ≡ true → a ≡ b
same_entry_is a b h =
    let first = and_parts (int_eq a.zero b.zero) (int_eq a.one b.one && (int_eq a.x b.x && int_eq a.z b.z)) h in
    let second = and_parts (int_eq a.one b.one) (int_eq a.x b.x && int_eq a.z b.z) first.1 in
    let last = and_parts (int_eq a.x b.x) (int_eq a.z b.z) second.1 in
    let zero : a.zero ≡ b.zero = (Decides-int_eq a.zero b.zero).0 first.0 in
    let one : a.one ≡ b.one = (Decides-int_eq a.one b.one).0 second.0 in
    let x : a.x ≡ b.x = (Decides-int_eq a.x b.x).0 last.0 in
    let z : a.z ≡ b.z = (Decides-int_eq a.z b.z).0 last.1 in
    ap (λ k. record { zero = k; one = a.one; x = a.x; z = a.z }) zero
    ∙ (ap (λ k. record { zero = b.zero; one = k; x = a.x; z = a.z }) one
    ∙ (ap (λ k. record { zero = b.zero; one = b.one; x = k; z = a.z }) x
    ∙ ap (λ k. record { zero = b.zero; one = b.one; x = b.x; z = k }) z))

pub same_entry_from : (a b : Entry) → a ≡ b → same_entry a b ≡ true
same_entry_from a b e = subst (λ (x : Entry). same_entry a x ≡ true) e
    (and_from (int_eq a.zero a.zero) (int_eq a.one a.one && (int_eq a.x a.x && int_eq a.z a.z)) ((Decides-int_eq a.zero a.zero).1 refl)
    (and_from (int_eq a.one a.one) (int_eq a.x a.x && int_eq a.z a.z) ((Decides-int_eq a.one a.one).1 refl)
    (and_from (int_eq a.x a.x) (int_eq a.z a.z) ((Decides-int_eq a.x a.x).1 refl) ((Decides-int_eq a.z a.z).1 refl))))

or_cases : (x y : Bool) → (x || y) ≡ true → (x ≡ true) ⊎ (y ≡ true)
or_cases true y h = inl refl
or_cases false y h = inr h

-- a settled entry has no message, or one
pub settled_is : (e : Entry) → is_settled e ≡ true → (e ≡ no_messages) ⊎ ((v : Logic) × (e ≡ one_message v))
settled_is e h = elim (or_cases (same_entry e no_messages) _ h) [
  | inl none ↦ inl (same_entry_is e no_messages none)
  | inr some ↦ (elim (or_cases (same_entry e (one_message Zero)) _ some) [
    | inl zero ↦ inr (Zero, same_entry_is e (one_message Zero) zero)
    | inr more ↦ (elim (or_cases (same_entry e (one_message One)) _ more) [
      | inl one ↦ inr (One, same_entry_is e (one_message One) one)
      | inr rest ↦ (elim (or_cases (same_entry e (one_message X)) _ rest) [
        | inl x ↦ inr (X, same_entry_is e (one_message X) x)
        | inr last ↦ (elim (or_cases (same_entry e (one_message Z)) false last) [
          | inl z ↦ inr (Z, same_entry_is e (one_message Z) z)
          | inr never ↦ cc
        ])
      ])
    ])
  ])
]

pub settled-none : is_settled no_messages ≡ true
settled-none = refl

pub settled-one : (v : Logic) → is_settled (one_message v) ≡ true
settled-one Zero = refl
settled-one One = refl
settled-one X = refl
settled-one Z = refl

effective-one : (v : Logic) → effective_of (one_message v) ≡ Some v
effective-one Zero = refl
effective-one One = refl
effective-one X = refl
effective-one Z = refl

-- a settled entry is told by its effective value
pub settled_of_none : (e : Entry) → effective_of e ≡ None → is_settled e ≡ true → e ≡ no_messages
settled_of_none e none h = elim (settled_is e h) [
  | inl is ↦ is
  | inr (v, is) ↦ (let some : effective_of e ≡ Some v = ap effective_of is ∙ effective-one v in cc)
]

pub settled_of_some : (e : Entry) (w : Logic) → effective_of e ≡ Some w → is_settled e ≡ true → e ≡ one_message w
settled_of_some e w some h = elim (settled_is e h) [
  | inl is ↦ (let none : effective_of e ≡ None = ap effective_of is in cc)
  | inr (v, is) ↦ (let here : effective_of e ≡ Some v = ap effective_of is ∙ effective-one v in
      let same : v ≡ w = cc in
      is ∙ ap one_message same)
]

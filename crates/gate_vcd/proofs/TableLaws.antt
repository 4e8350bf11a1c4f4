-- Different codes spell different numbers, so that a table holds what was put in it.
use Rattle.std.proofs.Common.{◌≡◌, ℕ, ◌+◌, ◌-◌, ◌*◌, ◌<◌, ◌≤◌, Bool, true, false, cond, ◌&&◌, nat_le, nat_lt, List, [], ◌∷◌, length, set, Option, Some, None, refl, sym, ◌∙◌, inl, inr, arith, get_or-set_same, get_or-set_other, length-set}
use Rattle.std.proofs.lemmas.Bool.Decides.{nat_tests}
use Rattle.std.proofs.lemmas.Option.{same_Some}
use Rattle.std.proofs.lemmas.Slice.Eq.{bytes_eq-Decides}
use Rattle.std.specs.Str.{bytes_eq}
use Rattle.gate_vcd.specs.Declarations.{is_code}
use Rattle.gate_vcd.specs.Inner.Table.{found_at, is_short, short_place, spelled}
use Rattle.net_waves.proofs.Compared.{cases_eq}
use Rattle.gate_vcd.proofs.Keeping.{same_bytes}

both : (a b : Bool) → (a && b) ≡ true → (a ≡ true) × (b ≡ true)
both true true e = (refl, refl)
both true false e = cc
both false b e = cc

at_least : (m n : ℕ) → nat_le m n ≡ true → m ≤ n
at_least m n e = grind (arith, nat_tests, e)

visible : (b : ℕ) (bs : List ℕ) → is_code (b ∷ bs) ≡ true → (33 ≤ b) × (b ≤ 126) × (is_code bs ≡ true)
visible b bs e =
    let (here, others) = both (nat_le 33 b && nat_le b 126) (is_code bs) e in
    let (low, high) = both (nat_le 33 b) (nat_le b 126) here in
    (at_least 33 b low, at_least b 126 high, others)

one_digit : (a b x y : ℕ) → 33 ≤ a → a ≤ 126 → 33 ≤ b → b ≤ 126 → (a - 32) + 94 * x ≡ (b - 32) + 94 * y → a ≡ b
one_digit a b x y al ah bl bh e = omega arith

other_digits : (a b x y : ℕ) → 33 ≤ a → a ≤ 126 → 33 ≤ b → b ≤ 126 → (a - 32) + 94 * x ≡ (b - 32) + 94 * y → x ≡ y
other_digits a b x y al ah bl bh e = omega arith

-- codes of visible bytes spell different numbers
pub spelled-same : (a b : List ℕ) → is_code a ≡ true → is_code b ≡ true → spelled a ≡ spelled b → a ≡ b
spelled-same [] [] ca cb e = refl
spelled-same [] (b ∷ bs) ca cb e = let (low, high, others) = visible b bs cb in absurd (omega (arith, low, e))
spelled-same (a ∷ more) [] ca cb e = let (low, high, others) = visible a more ca in absurd (omega (arith, low, e))
spelled-same (a ∷ more) (b ∷ bs) ca cb e =
    let (al, ah, ao) = visible a more ca in
    let (bl, bh, bo) = visible b bs cb in
    let heads : a ≡ b = one_digit a b (spelled more) (spelled bs) al ah bl bh e in
    let tails : more ≡ bs = spelled-same more bs ao bo (other_digits a b (spelled more) (spelled bs) al ah bl bh e) in
    cc

short-code : (room : ℕ) (code : List ℕ) → is_short room code ≡ true → (is_code code ≡ true) × (spelled code < room)
short-code room code e =
    let (front, within) = both (nat_le (length code) 4 && is_code code) (nat_lt (spelled code) room) e in
    let (few, is) = both (nat_le (length code) 4) (is_code code) front in
    (is, grind (arith, nat_tests, within))

placed : (room : ℕ) (code : List ℕ) (place : ℕ) → short_place room code ≡ Some place → (is_short room code ≡ true) × (spelled code ≡ place)
placed room code place e = go (is_short room code) refl e
  where
    go : (b : Bool) → is_short room code ≡ b → cond b (Some (spelled code)) None ≡ Some place → (is_short room code ≡ true) × (spelled code ≡ place)
    go true t h = (t, same_Some (spelled code) place h)
    go false t h = cc

-- a code is put into the array
pub put-short : (short : List (Option (Option ℕ))) (long : Option (Option ℕ)) (code other : List ℕ) (place : ℕ) (last : Option ℕ) → short_place (length short) code ≡ Some place
    → found_at (set short place (Some last)) long (short_place (length (set short place (Some last))) other) ≡ cond (bytes_eq code other) (Some last) (found_at short long (short_place (length short) other))
put-short short long code other place last e =
    let (is, spells) = placed (length short) code place e in
    let (visible_code, within) = short-code (length short) code is in
    let stands : place < length short = omega (arith, within, spells) in
    rw (length-set short place (Some last)) (go stands is spells visible_code (bytes_eq code other) refl)
  where
    go : place < length short → is_short (length short) code ≡ true → spelled code ≡ place → is_code code ≡ true → (b : Bool) → bytes_eq code other ≡ b
        → found_at (set short place (Some last)) long (short_place (length short) other) ≡ cond b (Some last) (found_at short long (short_place (length short) other))
    go stands is spells vc true t = rw (← same_bytes code other t, is, spells) (get_or-set_same short place (Some last) None stands)
    go stands is spells vc false t = by (is_short (length short) other) refl
      where
        by : (s : Bool) → is_short (length short) other ≡ s
            → found_at (set short place (Some last)) long (cond s (Some (spelled other)) None) ≡ found_at short long (cond s (Some (spelled other)) None)
        by false u = refl
        by true u = elim (cases_eq (spelled other) place) [
          | inl same ↦ (
              let (visible_other, there) = short-code (length short) other u in
              let one : code ≡ other = spelled-same code other vc visible_other (spells ∙ sym same) in
              let bad : true ≡ false = sym ((bytes_eq-Decides code other).1 one) ∙ t in
              absurd (cc))
          | inr differ ↦ get_or-set_other short place (spelled other) (Some last) None differ
        ]

-- a code is put into the map
pub put-long : (short : List (Option (Option ℕ))) (old new : Option (Option ℕ)) (code other : List ℕ) (last : Option ℕ) → short_place (length short) code ≡ None → new ≡ cond (bytes_eq code other) (Some last) old
    → found_at short new (short_place (length short) other) ≡ cond (bytes_eq code other) (Some last) (found_at short old (short_place (length short) other))
put-long short old new code other last none e = go (bytes_eq code other) refl e
  where
    go : (b : Bool) → bytes_eq code other ≡ b → new ≡ cond b (Some last) old → found_at short new (short_place (length short) other) ≡ cond b (Some last) (found_at short old (short_place (length short) other))
    go true t h = rw (← same_bytes code other t, none) h
    go false t h = rw h refl

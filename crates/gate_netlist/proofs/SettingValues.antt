-- The delays and blocks of a settings document lie within their limits.
use Rattle.std.proofs.Common.{◌≡◌, ℕ, ◌≤◌, pos, Bool, true, false, ◌&&◌, nat_le, if◌then◌else◌, List, Option, Some, None, IfSome, unwrap_or, option_and_then, max, refl, arith, codes, Ordering, Less, Equal, Greater, nat_cmp}
use Rattle.std.specs.Ordering.{match_ordering}
use Rattle.std.specs.Cmp.Lexicographic.{slice_cmp}
use Rattle.std.proofs.lemmas.Bool.{and_parts, leb-true}
use Rattle.toml.specs.Data.{Data, integer, Members, no_members, member, get_member}
use Rattle.gate_netlist.specs.Circuit.{IsDelay}
use Rattle.gate_netlist.specs.Settings.{as_delay, as_block, delay_at, block_at, greatest_block, table_at, default_delay, delay_of_key}

-- ---- values that a test lets through

pub unwrap_or_fits : {X : Type 0} (P : X → Type 0) (o : Option X) (d : X) → IfSome o P → P d → P (unwrap_or o d)
unwrap_or_fits P None d h k = k
unwrap_or_fits P (Some x) d h k = h

and_then_fits : {X Y : Type 0} (P : Y → Type 0) (f : X → Option Y) (o : Option X) → ((x : X) → IfSome (f x) P) → IfSome (option_and_then f o) P
and_then_fits P f None h = tt
and_then_fits P f (Some x) h = h x

if_passed : {X : Type 0} (P : X → Type 0) (b : Bool) (x : X) → (b ≡ true → P x) → IfSome (if b then Some x else None) P
if_passed P true x h = h refl
if_passed P false x h = tt

-- ---- delays

within_delay : (n : ℕ) → (nat_le 1 n && nat_le n 1000000) ≡ true → IsDelay n
within_delay n e = let (low, high) = and_parts (nat_le 1 n) (nat_le n 1000000) e in (leb-true 1 n low, leb-true n 1000000 high)

as_delay-IsDelay : (d : Data) → IfSome (as_delay d) IsDelay
as_delay-IsDelay (integer (pos n)) = if_passed IsDelay (nat_le 1 n && nat_le n 1000000) n (within_delay n)
as_delay-IsDelay _ = tt

pub delay_at-IsDelay : (key : List ℕ) (ms : Members) → IfSome (delay_at key ms) IsDelay
delay_at-IsDelay key ms = and_then_fits IsDelay as_delay (get_member key ms) as_delay-IsDelay

default_delay-IsDelay : (ms : Members) → IsDelay (default_delay ms)
default_delay-IsDelay ms = unwrap_or_fits IsDelay (delay_at (codes "default") ms) 1 (delay_at-IsDelay (codes "default") ms) (omega arith, omega arith)

pub delay_of_key-IsDelay : (ms : Members) (key : List ℕ) → IsDelay (delay_of_key ms key)
delay_of_key-IsDelay ms key = unwrap_or_fits IsDelay (delay_at key (table_at (codes "gate") ms)) (default_delay ms) (delay_at-IsDelay key (table_at (codes "gate") ms)) (default_delay-IsDelay ms)

-- ---- blocks

as_block-within : (d : Data) → IfSome (as_block d) (λ block. block ≤ 1023)
as_block-within (integer (pos n)) = if_passed (λ block. block ≤ 1023) (nat_le n 1023) n (leb-true n 1023)
as_block-within _ = tt

pub greatest_block-within : (blocks : Members) → greatest_block blocks ≤ 1023
greatest_block-within no_members = omega arith
greatest_block-within (member k d ms) =
    let here : unwrap_or (as_block d) 0 ≤ 1023 = unwrap_or_fits (λ block. block ≤ 1023) (as_block d) 0 (as_block-within d) (omega arith) in
    omega (arith, greatest_block-within ms)

-- the block found in the members, 0 where none is
abbrev found_block : Option Data → ℕ
found_block o = unwrap_or (option_and_then as_block o) 0

found_below : (order : Ordering) (d : Data) (rest : Option Data) (most : ℕ) → found_block rest ≤ most → found_block (match_ordering order rest (Some d) rest) ≤ max (found_block (Some d)) most
found_below Less d rest most h = omega (arith, h)
found_below Equal d rest most h = omega arith
found_below Greater d rest most h = omega (arith, h)

pub block_at-le : (key : List ℕ) (blocks : Members) → unwrap_or (block_at key blocks) 0 ≤ greatest_block blocks
block_at-le key no_members = omega arith
block_at-le key (member k d ms) = found_below (slice_cmp nat_cmp key k) d (get_member key ms) (greatest_block ms) (block_at-le key ms)

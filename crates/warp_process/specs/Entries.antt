-- What a block has received of a net at a time: for each value the messages less the antimessages.
use Rattle.std.specs.Prelude.{◌≢◌, ℕ, ◌<◌, ℤ, pos, negsuc, neg_ℤ, ◌+ℤ◌, int_lt, int_le, Bool, ◌&&◌, ◌==◌, if◌then◌else◌, Option, Some, None, List, [], ◌∷◌, map, length, slice_index_or}
use Rattle.std.specs.List.{All, list_any}
use Rattle.std.specs.Ordering.{int_eq}
use Rattle.gate_values.specs.declared.logic.Logic.{Logic}
use Rattle.gate_values.specs.declared.logic.Logic.TheVariants.{Zero, One, X, Z}
use Rattle.warp_process.specs.declared.message.Sign.{Sign}
use Rattle.warp_process.specs.declared.message.Sign.TheVariants.{Plus, Minus}
use Rattle.warp_process.specs.declared.entry.Entry.{Entry}

-- an entry and its time
pub record Received : Type 0 where
  pub time : ℕ
  pub entry : Entry

-- the number of a value
abbrev pub number_of : Entry → Logic → ℤ
number_of e Zero = e.zero
number_of e One = e.one
number_of e X = e.x
number_of e Z = e.z

-- the first value of which a message stands
abbrev pub effective_of : Entry → Option Logic
effective_of e =
    if int_lt (pos 0) e.zero then Some Zero
    else if int_lt (pos 0) e.one then Some One
    else if int_lt (pos 0) e.x then Some X
    else if int_lt (pos 0) e.z then Some Z
    else None

abbrev pub no_messages : Entry
no_messages = record { zero = pos 0; one = pos 0; x = pos 0; z = pos 0 }

-- the entry with another number of a value
abbrev pub with_number : Entry → Logic → ℤ → Entry
with_number e Zero k = record e { zero = k }
with_number e One k = record e { one = k }
with_number e X k = record e { x = k }
with_number e Z k = record e { z = k }

-- one message of the value stands
abbrev pub one_message : Logic → Entry
one_message v = with_number no_messages v (pos 1)

-- the two entries have the same numbers
abbrev pub same_entry : Entry → Entry → Bool
same_entry a b = int_eq a.zero b.zero && (int_eq a.one b.one && (int_eq a.x b.x && int_eq a.z b.z))

-- nothing stands and nothing waits, or one message of one value stands
abbrev pub is_settled : Entry → Bool
is_settled e = list_any (same_entry e) (no_messages ∷ map one_message (Zero ∷ One ∷ X ∷ Z ∷ []))

-- what a message, or an antimessage, counts
abbrev pub weight_of : Sign → ℤ
weight_of Plus = pos 1
weight_of Minus = negsuc 0

-- how far a number counts, either way
abbrev pub most : ℤ
most = pos 1000000000000000000000000000000

abbrev pub is_within : ℤ → Bool
is_within k = int_le (neg_ℤ most) k && int_le k most

-- the entry after one more message, or one more antimessage, of a value; none past the limit
abbrev pub bump_of : Entry → Logic → Sign → Option Entry
bump_of e v s =
    if is_within (number_of e v +ℤ weight_of s) then Some (with_number e v (number_of e v +ℤ weight_of s)) else None

-- the entry of a queue at a time
abbrev pub entry_in : List Received → ℕ → Entry
entry_in [] t = no_messages
entry_in (e ∷ es) t = if e.time == t then e.entry else entry_in es t

-- A queue is in order of time, with one entry a time; where nothing stands and nothing waits, it holds none.
pub record IsQueue (es : List Received) : Type 0 where
  pub in_order : (i j : ℕ) (d : Received) → i < j → j < length es → (slice_index_or es i d).time < (slice_index_or es j d).time
  pub kept : All (λ e. e.entry ≢ no_messages) es

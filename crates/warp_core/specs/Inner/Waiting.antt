-- Of the messages in flight the places for each block are listed.
use Rattle.std.specs.Prelude.{◌≡◌, ℕ, List, [], length, get_or, map}
use Rattle.warp_process.specs.declared.message.Message.{Message}
use Rattle.warp_core.specs.declared.turns.waiting.Waiting.{Waiting}
use Rattle.warp_core.specs.Inner.Turns.{places_for}

-- the places that are listed for a block
abbrev pub listed_for : Waiting → ℕ → List ℕ
listed_for waiting b = get_or (map (λ v. v.items) waiting.lists.items) b []

-- for each of so many blocks the messages for it that haven't reached it are listed, of those that are looked through
pub record IsListed (blocks : ℕ) (waiting : Waiting) (heard : ℕ → ℕ) (seen : List Message) : Type 0 where
  pub count : length waiting.lists.items ≡ blocks
  pub size : waiting.listed ≡ length seen
  pub lists : (b : ℕ) → listed_for waiting b ≡ places_for b (heard b) 0 seen

-- What is told of words that places take.
use Rattle.std.specs.Prelude.{◌≡◌, ℕ, ◌==◌, ◌++◌, IsTrue, List, [], get_or}
use Rattle.std.specs.List.{flat_map, list_any}
use Rattle.std.specs.List.Sorted.{IsPermutation}
use Rattle.warp_stores.specs.Words.{Move}
use Rattle.warp_stores.specs.Dated.{Dated}
use Rattle.warp_part.specs.Portion.{Portion}
use Rattle.warp_process.specs.declared.message.Message.{Message}
use Rattle.warp_process.specs.declared.message.Sign.{Sign}
use Rattle.warp_process.specs.Shown.Step.{net_at, sent}

-- the messages on a word to the readers of its place's net
abbrev pub told_of : Sign → Portion → Dated Move → List Message
told_of sign p d = sent sign (net_at p d.1.place) (get_or p.readers d.1.place []) (record { time = d.0; value = d.1.after })

-- Behind what was there stand the messages on some words, in some order of the words.
pub record AreTold (sign : Sign) (p : Portion) (words : List (Dated Move)) (before out : List Message) : Type 0 where
  pub ordered : List (Dated Move)
  pub same : IsPermutation words ordered
  pub told : out ≡ before ++ flat_map (told_of sign p) ordered

-- one of some words comes true at the time
abbrev pub IsTimeOf : List (Dated Move) → ℕ → Type 0
IsTimeOf words time = IsTrue (list_any (λ d. d.0 == time) words)

-- Blocks give their logs away, one after another.
use Rattle.std.specs.Prelude.{◌≡◌, ℕ, ◌+◌, true, false, if◌then◌else◌, List, [], ◌∷◌, ⊤}
use Rattle.std.specs.List.{All}
use Rattle.gate_values.specs.declared.logic.Change.{Change}
use Rattle.gate_values.specs.Changes.{pair_at}
use Rattle.net_waves.specs.declared.timeline.Stop.{Stop}
use Rattle.net_waves.specs.Stops.{marked}
use Rattle.net_waves.specs.Waves.{wave_of}
use Rattle.history_waves.specs.Stories.{Telling, count_in}
use Rattle.warp_part.specs.Portion.{owns}
use Rattle.warp_process.specs.View.{View, Process, log_of}
use Rattle.warp_process.specs.Lawful.{IsLawful}
use Rattle.part_engine.specs.Histories.{TellLogs}
use Rattle.warp_core.specs.OwnNets.{AreOwn}

-- the list of a net after a block has given its logs: its log of an own net, of others what was there
abbrev pub after_block : View → (ℕ → List Change) → ℕ → List Change
after_block v lists n = if owns v.part n then log_of v n else lists n

-- the list of a net after some blocks have, in order
abbrev pub after_blocks : List Process → (ℕ → List Change) → ℕ → List Change
after_blocks [] lists = lists
after_blocks (p ∷ ps) lists = after_blocks ps (after_block p.seen lists)

-- no two of some blocks own a net
abbrev pub AreApart : List Process → Type 0
AreApart [] = ⊤
AreApart (p ∷ ps) = All (λ q. (n : ℕ) → owns p.seen.part n ≡ true → owns q.seen.part n ≡ false) ps × AreApart ps

-- What is told of a block: its own nets, and what its history says of them.
pub record IsStory (v : View) (t : Telling) : Type 0 where
  pub lawful : IsLawful v
  pub own : AreOwn v.part t.own
  pub words : TellLogs v t.words

-- one story of each of some blocks, in order
abbrev pub AreStories : List Process → List Telling → Type 0
AreStories [] [] = ⊤
AreStories [] (t ∷ ts) = ⊥
AreStories (p ∷ ps) [] = ⊥
AreStories (p ∷ ps) (t ∷ ts) = IsStory p.seen t × AreStories ps ts

-- how often lists have a change: once, or not at all
abbrev pub has : Stop → List (List Change) → ℕ
has s lists = marked s.value (pair_at (wave_of lists s.net) s.time)

-- histories tell what came to lists
abbrev pub AreTelling : List Telling → List (List Change) → List (List Change) → Type 0
AreTelling tellings old new = (s : Stop) → has s new ≡ has s old + count_in s tellings
